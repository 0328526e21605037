use Rattle.std.proofs.Common.{◌∙◌, ◌++◌, ap}
use Rattle.ariadne_blocks.proofs.Gone.{gone}
use Rattle.ariadne_blocks.proofs.asides.go_on.Goals as goal

-- the last one does
pub returns-in_ok-push : goal.returns-in_ok-push
returns-in_ok-push c =
    gone c.args.between.now c.args.more.now c.args.texts.now.items c.pop.new.self.items c.push.new.self.items
    c.in-Some.last c.push_str-in-Some.new.self c.in-Some.ensures.items c.in_ok-push.ensures.items
    (c.in_ok-push_str-2.ensures.bytes ∙ ap (λ t. t ++ c.args.more.now) c.in_ok-push_str.ensures.bytes)
