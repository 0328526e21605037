use Rattle.std.proofs.Common.{◌≡◌, ap, ◌∙◌, arith}
use Rattle.ariadne_picture.specs.declared.cell.Glyph.TheVariants.{VbarGap}
use Rattle.ariadne_picture.specs.Pieces.{column_size}
use Rattle.ariadne_render.specs.Pages.{PageFields}
use Rattle.ariadne_render.specs.Gutters.{bar_ink, bars_ink, columns, columns_bytes}
use Rattle.ariadne_render.proofs.Drawn.{adds_none, adds-append, adds_same, page_kept}
use Rattle.ariadne_render.proofs.GutterPen.{columns-none, columns-more, adds-column}
use Rattle.ariadne_render.proofs.GutterState.{ready-for, offsets-len}
use Rattle.ariadne_render.proofs.gutter.Gutter.push_gap.Goals as goal

-- no column is written yet
pub loop-column-init : goal.loop-column-init
loop-column-init c =
    adds_same c.args.pen.now c.args.pen.now _ _ (columns-none c.args.pen.now.page (bars_ink VbarGap c.args.self.now)) (adds_none c.args.pen.now)

-- a turn writes one column more
pub loop-column-preserved : goal.loop-column-preserved
unfolding bars_ink
loop-column-preserved c =
    let g = c.args.self.now in
    let p = c.args.pen.now.page in
    let k = c.loop-column.column in
    let size = c.column_size-size.ensures.size ∙ ap column_size (c.switches.ensures.switches ∙ ap (λ (q : PageFields). q.switches) c.page.ensures) in
    let page = page_kept c.args.pen.now c.loop-column.pen _ c.loop-column.invariant in
    let shown = c.bar_ink.ensures ∙ ap (bar_ink VbarGap) c.bar_of.ensures in
    let here = adds-column c.loop-column.pen c.push_ink.new.self p c.bar_ink.result (bars_ink VbarGap g k) c.column_size-size.result page size shown
    c.in_ok-push_ink.ensures in
    adds_same c.args.pen.now c.push_ink.new.self _ _ (columns-more p (bars_ink VbarGap g) k)
    (adds-append c.args.pen.now c.loop-column.pen c.push_ink.new.self _ _ c.loop-column.invariant here)

-- the last turn has written all
pub returns : goal.returns
returns c =
    let g = c.args.self.now in
    let p = c.args.pen.now.page in
    let ready = ready-for _ g _ _ c.self.view_is c.self.invariant in
    let last : c.loop-column.column ≡ columns g = omega (arith, c.len-column-end.ensures, c.self.inside.starts.ok.0, offsets-len g _ _ ready) in
    adds_same c.args.pen.now c.loop-column.pen _ _ (ap (columns_bytes p (bars_ink VbarGap g)) last) c.loop-column.invariant
