use Rattle.std.proofs.Common.{◌≡◌, ◌∙◌, ◌-◌, ℕ, ap, length, rules, sym}
use Rattle.ariadne_layout.specs.Tables.{column_in}
use Rattle.ariadne_layout.proofs.CutColumns.{even-held, listed-held}
use Rattle.ariadne_layout.proofs.line_columns.LineColumns.width.Goals as goal

-- both columns are listed
pub returns-then-not-is_empty : goal.returns-then-not-is_empty
returns-then-not-is_empty c =
    let columns = c.self.inside.list.items in
    let size : c.self.inside.list.len ≡ length columns = search rules in
    let same : columns ≡ c.args.self.now =
    sym (listed-held columns c.self.inside.knots.items c.self.inside.len c.self.inside.list.len c.self.invariant.1 size
    (sym (c.if-not-is_empty.ensures {u = tt})))
    ∙ c.self.view_is in
    let to = c.listed_column.ensures ∙ ap (λ xs. column_in xs c.args.to) (c.deref.ensures.value ∙ same) in
    let from = c.listed_column-then-not-is_empty.ensures ∙ ap (λ xs. column_in xs c.args.from) (c.deref-then-not-is_empty.ensures.value ∙ same) in
    c.saturating_sub.ensures ∙ (λ i. to i - from i)

-- each place is its own column
pub returns-then-is_empty : goal.returns-then-is_empty
returns-then-is_empty c =
    let columns = c.self.inside.list.items in
    let knots = c.self.inside.knots.items in
    let size : c.self.inside.list.len ≡ length columns = search rules in
    let count : c.self.inside.knots.len ≡ length knots = search rules in
    let even : (k : ℕ) → k ≡ column_in c.args.self.now k =
    λ k. sym (even-held columns knots c.self.inside.len c.self.inside.list.len c.self.inside.knots.len k size
    (sym (c.if-not-is_empty.ensures {u = tt})) count (sym (c.if-is_empty.ensures {u = tt})))
    ∙ ap (λ xs. column_in xs k) c.self.view_is in
    c.saturating_sub-then-is_empty.ensures ∙ (λ i. even c.args.to i - even c.args.from i)
