use Rattle.ariadne_blocks.proofs.Once.{once_more}
use Rattle.ariadne_blocks.proofs.repeats.drop_repeats.Goals as goal

-- one more of them
pub loop-span-preserved : goal.loop-span-preserved
loop-span-preserved c =
    once_more c.loop-span.yielded c.in-Some.span c.loop-span.spans.items c.push_once.new.spans.items
    c.loop-span.invariant c.in_ok-push_once.ensures
