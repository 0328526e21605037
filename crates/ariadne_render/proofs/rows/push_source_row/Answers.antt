use Rattle.std.proofs.Common.{◌<◌, ◌^◌, refl, sym, ap, subst, arith, ◌∙◌}
use Rattle.std.proofs.lemmas.Result.{on_ok_weaker}
use Rattle.ariadne_picture.specs.Columns.{Layout}
use Rattle.ariadne_picture.specs.Pieces.{margin_pieces}
use Rattle.ariadne_picture.specs.Ranks.{Sheet, multi_line_labels}
use Rattle.ariadne_picture.specs.Rows.{source}
use Rattle.ariadne_layout.specs.Tables.{position_paint, shown_at, tab_columns}
use Rattle.ariadne_layout.specs.Snippets.{layout_at, sheet_at}
use Rattle.ariadne_render.specs.Pages.{Draws, PageFields}
use Rattle.ariadne_render.proofs.Drawn.{page_kept}
use Rattle.ariadne_render.specs.ShownTexts.{shown_in}
use Rattle.ariadne_render.proofs.GutterRows.{draws_gutter, source-row-bytes}
use Rattle.ariadne_render.proofs.GutterSteps.{beside-source, margin-column}
use Rattle.ariadne_render.proofs.KnownSnippets.{on-page, rise}
use Rattle.ariadne_render.proofs.LineRows.{draws_source, source_margin}
use Rattle.ariadne_render.proofs.ShownRows.{draws_painted}
use Rattle.ariadne_render.proofs.rows.push_source_row.Goals as goal

-- the number of the line fits
pub push_line_margin-requires : goal.push_line_margin-requires
push_line_margin-requires g c =
    let fits = c.requires.at.is_snippet.numbers_fit in
    let within = c.layout-layout.ensures.within in
    let offset = c.display_offset.ensures in
    let line = c.line.ensures in
    record { fits = omega (arith, fits, within, offset, line) }

-- the gutter is on the page, and has the margin label's column
pub push_source-requires : goal.push_source-requires
push_source-requires g c =
    let v = c.args.shown.now in
    let at = c.requires.at in
    record {
      page = at.one_page ∙ sym (page_kept c.args.writer.now.pen c.push_line_margin.new.self _ c.in_ok-push_line_margin.ensures);
      column = margin-column (sheet_at v) v.line c.args.writer.now.gutter at.bars c.margin.result
          (source_margin c.layout-layout.result.now (sheet_at v) v.line c.margin.result c.layout-layout.ensures.layout c.margin.ensures);
    }

-- the margin, the gutter, and the text
pub returns-clause-drawn : goal.returns-clause-drawn
returns-clause-drawn g c =
    let v = c.args.shown.now in
    let s : Sheet = sheet_at v in
    let l = v.line in
    let at = c.requires.at in
    let pen = c.args.writer.now.pen in
    let bars = c.args.writer.now.gutter in
    let first = c.push_line_margin.new.self in
    let second = c.push_source.new.pen in
    let third = c.push_shown.new.pen in
    let laid = c.layout-layout.ensures.layout in
    let kept_first = page_kept pen first _ c.in_ok-push_line_margin.ensures in
    let margin = subst (Draws pen first)
    (λ i. margin_pieces pen.page.switches pen.page.number_width (c.display_offset.ensures i) (source (c.line.ensures i))) c.in_ok-push_line_margin.ensures in
    let label = source_margin c.layout-layout.result.now s l c.margin.result laid c.margin.ensures in
    let gutter = draws_gutter first second s (source l) bars _ (at.one_page ∙ sym kept_first)
    (source-row-bytes s l bars (beside-source s l bars (rise v.snippet at.is_snippet) at.bars) c.margin.result label) c.in_ok-push_source.ensures in
    let kept = page_kept first second _ c.in_ok-push_source.ensures ∙ kept_first in
    let text = subst (Draws second third)
    (λ i. shown_in ((kept i).switches) (laid i) (λ k. position_paint (shown_at c.args.paints.now k))) c.in_ok-push_shown.ensures.drawn in
    let shown = draws_painted second third pen.page.switches (multi_line_labels s.labels) (layout_at v) c.args.paints.now
    (λ on. c.requires.paints (sym (ap (λ (p : PageFields). p.palette.is_on) kept) ∙ on)) text in
    on_ok_weaker c.end_row.result
    (λ h. record {
      drawn = draws_source pen v.snippet.texts v.snippet.section (on-page v.snippet pen.page bars at.is_snippet at.one_page at.bars.sheet)
          first second third c.end_row.new.self l margin gutter shown h;
      bars = refl;
    })
    c.end_row.ensures

-- all tabs stand in memory
pub returns-clause-tabs : goal.returns-clause-tabs
returns-clause-tabs g c =
    let pen = c.args.writer.now.pen in
    let first = c.push_line_margin.new.self in
    let kept = page_kept first c.push_source.new.pen _ c.in_ok-push_source.ensures ∙ page_kept pen first _ c.in_ok-push_line_margin.ensures in
    on_ok_weaker c.end_row.result
    (λ h. subst (λ (y : Layout). tab_columns pen.page.switches y < 2 ^ 63) c.layout-layout.ensures.layout
    (subst (λ (p : PageFields). tab_columns p.switches c.layout-layout.result.now < 2 ^ 63) kept c.in_ok-push_shown.ensures.tabs))
    c.end_row.ensures
