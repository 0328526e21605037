use Rattle.std.proofs.Common.{◌≡◌, ◌∙◌, ◌++◌, [], ◌∷◌, length, map, min, subst, sym, ap, arith, rules}
use Rattle.ariadne_base.specs.Locations.{upto}
use Rattle.ariadne_picture.specs.Columns.{shown, whole_column}
use Rattle.ariadne_layout.specs.Tables.{AreWholeColumns}
use Rattle.ariadne_layout.proofs.ColumnLists.{whole-held, whole-plain}
use Rattle.ariadne_layout.proofs.columns.WholeColumns.fill.Goals as goal

-- of printable ASCII each place is its column
pub returns-then-is_plain : goal.returns-then-is_plain
returns-then-is_plain c =
    let t = c.args.switches.now.tab_width in
    let text = shown c.args.layout.now in
    subst (AreWholeColumns t text) (sym c.clear.ensures.items) (whole-plain t text (c.is_plain.ensures.0 (search rules)))

-- the columns of all places, and of the end
pub returns : goal.returns
returns c =
    let t = c.args.switches.now.tab_width in
    let text = shown c.args.layout.now in
    let n : min c.shown_len-len.result (length text) ≡ length text = omega (arith, c.shown_len-len.ensures) in
    let list = c.in_ok-column.ensures.columns
    ∙ (λ i. map (whole_column t (c.shown.ensures i)) (upto (min c.shown_len-len.result (length (c.shown.ensures i)))))
    ∙ ap (λ m. map (whole_column t text) (upto m)) n in
    let last = c.in_ok-column.ensures.behind ∙ (λ i. whole_column t (c.shown.ensures i) (min c.shown_len-len.result (length (c.shown.ensures i)))) ∙ ap (whole_column t text) n in
    whole-held t text (c.push.new.self.items) ((c.in_ok-push.ensures).items ∙ (λ i. list i ++ last i ∷ []))
