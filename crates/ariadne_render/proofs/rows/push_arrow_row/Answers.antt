use Rattle.std.proofs.Common.{◌∙◌, Some, refl, subst, sym}
use Rattle.std.proofs.lemmas.Result.{on_ok_weaker}
use Rattle.ariadne_picture.specs.Cells.{arrow_place}
use Rattle.ariadne_picture.specs.Columns.{Layout}
use Rattle.ariadne_picture.specs.Pieces.{area_pieces}
use Rattle.ariadne_picture.specs.Ranks.{Sheet}
use Rattle.ariadne_picture.specs.Rows.{arrow}
use Rattle.ariadne_layout.specs.Tables.{IsTable}
use Rattle.ariadne_layout.specs.Snippets.{layout_at, sheet_at}
use Rattle.ariadne_render.specs.Pages.{Draws, PageFields}
use Rattle.ariadne_render.proofs.Drawn.{page_kept}
use Rattle.ariadne_render.proofs.GutterRows.{arrow-bytes, draws_gutter}
use Rattle.ariadne_render.proofs.GutterSteps.{below-arrow, column-within}
use Rattle.ariadne_render.proofs.KnownSnippets.{on-page, rise}
use Rattle.ariadne_render.proofs.LineRows.{draws_arrow}
use Rattle.ariadne_render.proofs.rows.push_arrow_row.Goals as goal

-- the gutter is on the page, and has the label's column
pub push_arrow-requires : goal.push_arrow-requires
push_arrow-requires g c =
    let v = c.args.shown.now in
    let below = c.requires.at.below in
    record {
      page = below.one_page ∙ sym (page_kept c.args.writer.now.pen c.push_margin.new.self _ c.in_ok-push_margin.ensures);
      column = column-within (sheet_at v) v.line c.args.rank c.args.own.now c.args.writer.now.gutter below.bars c.requires.label;
    }

-- the table is that of the line, on the same page
pub push_arrow_area-requires : goal.push_arrow_area-requires
push_arrow_area-requires g c =
    let pen = c.args.writer.now.pen in
    let first = c.push_margin.new.self in
    let second = c.push_arrow.new.pen in
    let kept = page_kept first second _ c.in_ok-push_arrow.ensures ∙ page_kept pen first _ c.in_ok-push_margin.ensures in
    record {
      table = subst (λ (y : Layout). IsTable second.page.switches y c.args.rank c.args.table.now) (sym c.layout.ensures.layout)
          (subst (λ (p : PageFields). IsTable p.switches (layout_at c.args.shown.now) c.args.rank c.args.table.now) (sym kept) c.requires.at.is_table);
    }

-- a margin, the gutter, the text area, and the message
pub returns : goal.returns
returns g c =
    let v = c.args.shown.now in
    let s : Sheet = sheet_at v in
    let l = v.line in
    let r = c.args.rank in
    let x = c.args.own.now in
    let below = c.requires.at.below in
    let pen = c.args.writer.now.pen in
    let bars = c.args.writer.now.gutter in
    let first = c.push_margin.new.self in
    let second = c.push_arrow.new.pen in
    let third = c.push_arrow_area.new.pen in
    let margin = c.in_ok-push_margin.ensures in
    let kept = page_kept first second _ c.in_ok-push_arrow.ensures ∙ page_kept pen first _ margin in
    let laid = c.layout.ensures.layout in
    let gutter = draws_gutter first second s (arrow l r) bars _ (below.one_page ∙ sym (page_kept pen first _ margin))
    (arrow-bytes s l r x bars (below-arrow s l r bars (rise v.snippet below.is_snippet) below.bars) c.requires.label) c.in_ok-push_arrow.ensures in
    let area = subst (Draws second third)
    (λ i. area_pieces ((kept i).switches) (laid i) (arrow_place ((kept i).switches) (laid i) r (Some x))) c.in_ok-push_arrow_area.ensures in
    on_ok_weaker c.end_row.result
    (λ h. record {
      drawn = draws_arrow pen v.snippet.texts v.snippet.section
          (on-page v.snippet pen.page bars below.is_snippet below.one_page below.bars.sheet) first second third c.push_message.new.pen
          c.end_row.new.self l r (Some x) c.requires.label margin gutter area c.in_ok-push_message.ensures h;
      bars = refl;
    })
    c.end_row.ensures
