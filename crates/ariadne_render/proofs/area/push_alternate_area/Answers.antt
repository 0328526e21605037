use Rattle.std.proofs.Common.{sym, ◌∙◌, subst}
use Rattle.std.proofs.lemmas.Result.{on_ok_weaker}
use Rattle.ariadne_picture.specs.declared.switches.Switches.{Switches}
use Rattle.ariadne_picture.specs.Cells.{alternate_place}
use Rattle.ariadne_render.specs.declared.area.Backdrop.{Backdrop}
use Rattle.ariadne_render.specs.Areas.{alternate_backdrop, underlined_ink, DrawsPlaces, DrawsOver}
use Rattle.ariadne_render.proofs.Areas.{draws_area, draws_same, draws_row}
use Rattle.ariadne_render.proofs.SeenInks.{underlined_at, plain_at}
use Rattle.ariadne_render.proofs.area.push_alternate_area.Goals as goal

-- the row that has the underlines
pub returns-then-rank-table : goal.returns-then-rank-table
returns-then-rank-table c =
    let y = c.args.layout.now in
    let t = c.requires.table in
    let off = c.requires.loose in
    let s : Switches = c.args.pen.now.page.switches in
    let table = c.args.table.now in
    let old = c.args.pen.now in
    let new = c.push_underlined.new.pen in
    let heads = c.args.heads in
    on_ok_weaker c.push_underlined.result
    (λ d. draws_area old new y c.args.rank table (alternate_place heads s y c.args.rank) t
    (draws_same old new table (underlined_ink table (alternate_backdrop heads c.args.rank)) (alternate_place heads s y c.args.rank) 0 table.len
    (λ k low high. sym (underlined_at heads s y c.args.rank table t off (c.if-rank-table.true ∙ t.underline_row) k high))
    (subst (λ (b : Backdrop). DrawsPlaces old new table (underlined_ink table b) 0 table.len) c.alternate_backdrop-blank.ensures d)))
    c.push_underlined.ensures

-- any other
pub returns-else-rank-table : goal.returns-else-rank-table
returns-else-rank-table c =
    let y = c.args.layout.now in
    let t = c.requires.table in
    let off = c.requires.loose in
    let s : Switches = c.args.pen.now.page.switches in
    let table = c.args.table.now in
    let old = c.args.pen.now in
    let new = c.push_places.new.pen in
    let heads = c.args.heads in
    on_ok_weaker c.push_places.result
    (λ d. draws_area old new y c.args.rank table (alternate_place heads s y c.args.rank) t
    (draws_row old new table (alternate_backdrop heads c.args.rank) (alternate_place heads s y c.args.rank) 0 table.len
    (λ k low high. plain_at heads s y c.args.rank table t (λ e. c.if-rank-table.false (e ∙ sym t.underline_row)) k)
    (subst (λ (b : Backdrop). DrawsOver old new table b 0 table.len) c.alternate_backdrop-blank.ensures d)))
    c.push_places.ensures
