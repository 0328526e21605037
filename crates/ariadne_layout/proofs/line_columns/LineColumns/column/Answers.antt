use Rattle.std.proofs.Common.{◌≡◌, ◌∙◌, ap, length, rules, sym}
use Rattle.ariadne_layout.specs.Knots.{knot_column}
use Rattle.ariadne_layout.specs.Tables.{column_in}
use Rattle.ariadne_layout.proofs.Knots.{held-past, held-read}
use Rattle.ariadne_layout.proofs.line_columns.LineColumns.column.Goals as goal

-- a place that the knots stand for is looked up
pub returns-then-place-self : goal.returns-then-place-self
returns-then-place-self c =
    let size : c.self.inside.knots.len ≡ length c.self.inside.knots.items = search rules in
    c.knot_column.ensures ∙ ap (λ ks. knot_column 0 ks c.args.place) c.deref-then-place-self.ensures.value
    ∙ held-read c.self.inside.list.items c.self.inside.knots.items c.self.inside.len c.args.place c.self.inside.knots.len size
    (sym (c.if-is_empty.ensures {u = tt})) c.if-place-self.true
    ∙ ap (λ columns. column_in columns c.args.place) c.self.view_is

-- another is its own column
pub returns-else-place-self : goal.returns-else-place-self
returns-else-place-self c =
    let size : c.self.inside.knots.len ≡ length c.self.inside.knots.items = search rules in
    held-past c.self.inside.list.items c.self.inside.knots.items c.self.inside.len c.args.place c.self.inside.knots.len size
    (sym (c.if-is_empty.ensures {u = tt})) c.if-place-self.false
    ∙ ap (λ columns. column_in columns c.args.place) c.self.view_is
