use Rattle.std.proofs.Common.{arith}
use Rattle.ariadne_matcher_tables.proofs.Refusals.{in_text}
use Rattle.ariadne_matcher_tables.proofs.refusal.Refusal.of_toml.Goals as goal

-- the line is that of the place where the span begins
pub returns-in-Some : goal.returns-in-Some
returns-in-Some c =
    in_text c.args.text.now c.args.error.now c.in-Some.span.start c.line_at.result c.message.result.now c.of_text.result
    (λ memory. let none = c.in-Some.ensures.none.1 memory in cc)
    (omega (arith, c.requires, c.in-Some.ensures.range)) c.line_at.ensures c.of_text.ensures
