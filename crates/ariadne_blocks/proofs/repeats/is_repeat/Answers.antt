use Rattle.std.proofs.Common.{◌∙◌, ap, map, sym}
use Rattle.std.specs.Prelude.{◌&&◌, not}
use Rattle.std.specs.List.{list_any}
use Rattle.ariadne_parse.specs.Spans.{seen}
use Rattle.ariadne_blocks.specs.Repeats.{says_same}
use Rattle.ariadne_blocks.proofs.Once.{said_in}
use Rattle.ariadne_blocks.proofs.repeats.is_repeat.Goals as goal

-- it is said at one of them as they are read
pub returns-then-not-span : goal.returns-then-not-span
returns-then-not-span c =
    c.is_said.ensures ∙ said_in c.args.front.now c.args.span.now
    ∙ sym
    (ap (λ b. not b && list_any (λ other. says_same other (seen c.args.span.now)) (map seen c.args.front.now))
    c.if-not-span.true)
