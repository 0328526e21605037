use Rattle.std.proofs.Common.{◌≡◌, ◌∙◌, length, map, min, ap, refl, sym, arith}
use Rattle.std.proofs.lemmas.Result.{on_ok_weaker}
use Rattle.std.proofs.lemmas.List.FromFn.{length-map-range_with_len}
use Rattle.ariadne_base.specs.Locations.{upto}
use Rattle.ariadne_picture.specs.Columns.{column_of, shown, whole_column}
use Rattle.ariadne_layout.proofs.ColumnLists.{columns-filled, columns-held, whole-list}
use Rattle.ariadne_layout.proofs.PlaceColumns.{column_of-bound, column_of-whole}
use Rattle.ariadne_layout.proofs.line_columns.push_list.Goals as goal
use Rattle.ariadne_layout.proofs.line_columns.push_list.Goals.{In_ok-column}

-- the columns of a line that is shown whole are those of its text
listed : (c : In_ok-column) → c.push_whole.new.list.items ≡ map (column_of c.args.switches.now c.args.layout.now) (upto (min c.args.len (length (shown c.args.layout.now))))
listed c =
    let s = c.args.switches.now in
    let y = c.args.layout.now in
    (c.in_ok-column.ensures {u = tt}).columns
    ∙ (λ i. map (whole_column s.tab_width (c.shown.ensures i)) (upto (min c.args.len (length (c.shown.ensures i)))))
    ∙ whole-list s y (min c.args.len (length (shown y))) c.requires.whole (omega arith)

-- so is that of the place behind them
behind : (c : In_ok-column) → c.in_ok-column.column ≡ column_of c.args.switches.now c.args.layout.now (min c.args.len (length (shown c.args.layout.now)))
behind c =
    let s = c.args.switches.now in
    let y = c.args.layout.now in
    (c.in_ok-column.ensures {u = tt}).behind ∙ (λ i. whole_column s.tab_width (c.shown.ensures i) (min c.args.len (length (c.shown.ensures i))))
    ∙ sym (column_of-whole s y (min c.args.len (length (shown y))) c.requires.whole (omega arith))

-- the columns are few enough
pub push_behind-requires-clause-fits : goal.push_behind-requires-clause-fits
push_behind-requires-clause-fits c =
    let s = c.args.switches.now in
    let y = c.args.layout.now in
    let here = behind (goal.at.push_behind-requires-clause-fits c).In_ok-column in
    omega (arith, here, column_of-bound s y (min c.args.len (length (shown y))), c.requires.fits, c.requires.short)

-- the shown places before len are no more than len
pub push_behind-requires-clause-some : goal.push_behind-requires-clause-some
push_behind-requires-clause-some c =
    let s = c.args.switches.now in
    let y = c.args.layout.now in
    let n = min c.args.len (length (shown y)) in
    let size = ap length (listed (goal.at.push_behind-requires-clause-some c).In_ok-column) ∙ length-map-range_with_len (column_of s y) 0 n in
    omega (arith, size)

-- with those behind them they are all
pub returns : goal.returns
returns c =
    let b = (goal.at.returns c).In_ok-column in
    let s = c.args.switches.now in
    let y = c.args.layout.now in
    let n = min c.args.len (length (shown y)) in
    on_ok_weaker c.push_behind.result
    (λ whole. columns-held s y c.args.len c.push_behind.new.list.items
    (columns-filled s y c.args.len n c.in_ok-column.column c.push_whole.new.list.items c.push_behind.new.list.items refl (listed b) (behind b) whole))
    c.push_behind.ensures
