use Rattle.std.proofs.Common.{◌≡◌, ◌+◌, ◌<◌, true, false, get_or, length, sym, ap, ◌∙◌, arith}
use Rattle.std.proofs.lemmas.Result.{on_ok_weaker}
use Rattle.ariadne_picture.specs.declared.cell.Glyph.TheVariants.{Blank, Rarrow, Vbar}
use Rattle.ariadne_picture.specs.Cells.{ink_of, margin_glyph, paint_of}
use Rattle.ariadne_picture.specs.Pieces.{column_size}
use Rattle.ariadne_render.specs.Gutters.{GutterFields, bar_in, bars_ink, columns, columns_bytes, margin_row_ink}
use Rattle.ariadne_render.proofs.GutterLevels.{margin-before, margin-own, margin-bar, margin-level, margin-head, turned, level-written, level-more, level-over}
use Rattle.ariadne_render.proofs.Drawn.{adds-append, adds_same, page_kept}
use Rattle.ariadne_render.proofs.GutterPen.{adds-column, columns-more}
use Rattle.ariadne_render.proofs.GutterState.{bar-read, columns-some}
use Rattle.ariadne_render.proofs.gutter.Gutter.push_margin_row.Goals as goal
use Rattle.ariadne_render.proofs.gutter.Gutter.push_margin_row.Goals.{then-index+in_ok-push_run+in_ok-push_bar, else-index}

-- its column is there
pub push_before-requires : goal.push_before-requires
push_before-requires c = record { column = c.requires.column }

-- a column has a cell at least
pub overflow_sub-level : goal.overflow_sub-level
overflow_sub-level c = c.column_size-size.ensures.some

-- the columns before its own are written, and the first cell of its own
pub loop-column-init : goal.loop-column-init
loop-column-init c =
    let g = c.args.self.now in
    let m = c.args.margin.now in
    let size = c.column_size-size.ensures.size ∙ ap column_size (c.switches.ensures.switches ∙ ap (λ (v : GutterFields). v.page.switches) c.self.view_is) in
    record {
      written = turned g (margin_row_ink g m) m.gutter_column m.info (margin_glyph m.side) c.margin_glyph.result c.args.pen.now c.push_before.new.pen
          c.push_stroke.new.self c.column_size-size.result (sym c.requires.page) c.margin_glyph.ensures size
          (margin-before g m c.requires.column) (margin-own g m c.requires.column) c.in_ok-push_before.ensures c.in_ok-push_stroke.ensures;
      few = omega (arith, c.column_size-size.ensures.few);
    }

-- a turn goes on by a column: a bar is written, or its place is owed
pub loop-column-preserved : goal.loop-column-preserved
loop-column-preserved c =
    let g = c.args.self.now in
    let m = c.args.margin.now in
    let k = c.loop-column.column in
    let size = c.column_size-size.ensures.size ∙ ap column_size (c.switches.ensures.switches ∙ ap (λ (v : GutterFields). v.page.switches) c.self.view_is) in
    let len = ap (λ (v : GutterFields). length v.bars) c.self.view_is in
    let inside : k < length g.bars = omega (arith, len, c.len-column-end.ensures, c.self.inside.bars.ok.0) in
    let read = bar-read g k c.index.result.now inside (c.index.ensures ∙ ap (λ (v : GutterFields). get_or v.bars k c.index.result.now) c.self.view_is) in
    elim c.if-index.branch [
      | then-index+in_ok-push_run+in_ok-push_bar w ↦
          let on : bar_in g.bars k ≡ true = sym read ∙ w.if-index.true in
          let level = level-written g.page (paint_of m.info) c.args.pen.now c.loop-column.pen w.push_run.new.self c.loop-column.level _ (sym c.requires.page)
          c.loop-column.invariant.written w.in_ok-push_run.ensures in
          record {
            written = rw (w.pen-is, w.level-is)
                (level-over g.page (margin_row_ink g m) (paint_of m.info) (bars_ink Vbar g k) c.args.pen.now w.push_run.new.self w.push_bar.new.pen k
                (margin-bar g m c.requires.column k (omega arith) on) level w.in_ok-push_bar.ensures);
            few = omega (arith, w.level-is);
          }
      | else-index w ↦
          let off : bar_in g.bars k ≡ false = sym read ∙ w.if-index.false in
          record {
            written = rw (w.pen-is, w.level-is)
                (level-more g.page (margin_row_ink g m) m.info c.args.pen.now c.loop-column.pen c.loop-column.level c.column_size-size.result k size
                (margin-level g m c.requires.column k (omega arith) inside off) c.loop-column.invariant.written);
            few = omega (arith, w.level-is, c.column_size-size.ensures.few, c.loop-column.invariant.few);
          }
    ]

-- behind the last column stands the arrow head
pub returns : goal.returns
returns c =
    let g = c.args.self.now in
    let m = c.args.margin.now in
    let pen = c.args.pen.now in
    let size = c.column_size-size.ensures.size ∙ ap column_size (c.switches.ensures.switches ∙ ap (λ (v : GutterFields). v.page.switches) c.self.view_is) in
    let len = ap (λ (v : GutterFields). length v.bars) c.self.view_is in
    let last : c.loop-column.column ≡ length g.bars = omega (arith, len, c.len-column-end.ensures, c.self.inside.bars.ok.0) in
    let all : length g.bars + 1 ≡ columns g = sym (columns-some g m.gutter_column c.requires.column) in
    let level = adds_same pen c.push_run-2.new.self _ _ (ap (columns_bytes g.page (margin_row_ink g m)) last)
    (level-written g.page (paint_of m.info) pen c.loop-column.pen c.push_run-2.new.self c.loop-column.level _ (sym c.requires.page)
    c.loop-column.invariant.written c.in_ok-push_run-2.ensures) in
    let page = page_kept pen c.push_run-2.new.self _ level ∙ sym c.requires.page in
    on_ok_weaker c.push_ink.result (λ h.
    adds_same pen c.push_ink.new.self _ _
    (columns-more g.page (margin_row_ink g m) (length g.bars) ∙ ap (columns_bytes g.page (margin_row_ink g m)) all)
    (adds-append pen c.push_run-2.new.self c.push_ink.new.self _ _ level
    (adds-column c.push_run-2.new.self c.push_ink.new.self g.page (ink_of Rarrow Blank m.info) _ c.column_size-size.result page size
    (sym (margin-head g m c.requires.column)) h))) c.push_ink.ensures
