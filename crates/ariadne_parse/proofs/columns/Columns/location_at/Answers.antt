use Rattle.std.proofs.Common.{◌≡◌, ◌+◌, ◌∙◌, ℕ, List, ap, arith, drop, min, take, unwrap_or}
use Rattle.ariadne_parse.specs.Columns.{column_at, columns_in, line_at, line_start, start_at}
use Rattle.ariadne_parse.specs.declared.unit.Unit.{Unit}
use Rattle.ariadne_parse.proofs.OffsetLines.{start_up_to}
use Rattle.ariadne_parse.proofs.columns.Columns.location_at.Goals as goal

-- where the line begins
start_is : (t : List ℕ) (offset line start : ℕ) → line ≡ line_at t offset → start ≡ unwrap_or (line_start t line) 0
    → start ≡ start_at t offset
start_is t offset line start at is = is ∙ ap (λ k. unwrap_or (line_start t k) 0) at

-- it begins up to the offset
pub width-before-requires-clause-order : goal.width-before-requires-clause-order
width-before-requires-clause-order c =
    let same =
    start_is c.args.self.now c.min-offset.result c.line_at-line.result c.unwrap_or-start.result c.line_at-line.ensures
    (c.unwrap_or-start.ensures ∙ ap (λ o. unwrap_or o 0) c.line_start.ensures) in
    omega (arith, same, start_up_to c.args.self.now c.min-offset.result)

-- the columns in front, and one more
column_is : (unit : Unit) (t : List ℕ) (offset start before column : ℕ) → start ≡ start_at t offset
    → before ≡ columns_in unit (drop start (take offset t)) → column ≡ min (before + 1) 18446744073709551615
    → column ≡ min (columns_in unit (drop (start_at t offset) (take offset t)) + 1) 18446744073709551615
column_is unit t offset start before column same wide is =
    is ∙ ap (λ n. min (n + 1) 18446744073709551615) (wide ∙ ap (λ s. columns_in unit (drop s (take offset t))) same)

pub returns-clause-column : goal.returns-clause-column
returns-clause-column c =
    let same =
    start_is c.args.self.now c.min-offset.result c.line_at-line.result c.unwrap_or-start.result c.line_at-line.ensures
    (c.unwrap_or-start.ensures ∙ ap (λ o. unwrap_or o 0) c.line_start.ensures) in
    column_is c.args.unit c.args.self.now c.min-offset.result c.unwrap_or-start.result c.width-before.result c.saturating_add.result same
    c.width-before.ensures c.saturating_add.ensures
    ∙ ap (column_at c.args.unit c.args.self.now) (c.min-offset.ensures ∙ ap (min c.args.offset) c.len.ensures)
