use Rattle.std.proofs.Common.{string_bytes}
use Rattle.std.specs.Str.Iter.{chars_rest}
use Rattle.ariadne_outputs.proofs.Parted.{parted_end, parted_next, parted_start}
use Rattle.ariadne_outputs.proofs.github.push_parted.Goals as goal

-- nothing was added yet
pub loop-c-init : goal.loop-c-init
loop-c-init c =
    rw (c.into_iter-c-iterator.ensures.into_iter_gives, c.chars-c-items.ensures.rest)
    (parted_start c.args.text.now (string_bytes c.args.safe.now) c.utf8.text)

-- a character more was
pub loop-c-preserved : goal.loop-c-preserved
loop-c-preserved c =
    parted_next c.args.text.now (chars_rest c.loop-c.c-iterator) (chars_rest c.next.new.self) (string_bytes c.args.safe.now)
    (string_bytes c.loop-c.safe) (string_bytes c.push_behind.new.safe) c.in-Some.c c.loop-c.invariant
    c.in-Some.ensures.steps.0 c.in_ok-push_behind.ensures

-- all were
pub returns : goal.returns
returns c =
    parted_end c.args.text.now (chars_rest c.loop-c.c-iterator) (string_bytes c.args.safe.now) (string_bytes c.loop-c.safe)
    c.loop-c.invariant c.in-None.ensures.steps.0.0
