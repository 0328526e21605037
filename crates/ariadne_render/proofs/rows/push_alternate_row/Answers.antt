use Rattle.std.proofs.Common.{◌∙◌, refl, subst, sym, ap}
use Rattle.std.proofs.lemmas.Result.{on_ok_weaker}
use Rattle.ariadne_picture.specs.Cells.{alternate_place}
use Rattle.ariadne_picture.specs.Columns.{Layout}
use Rattle.ariadne_picture.specs.Pieces.{area_pieces}
use Rattle.ariadne_picture.specs.Ranks.{Sheet}
use Rattle.ariadne_picture.specs.Rows.{alternate}
use Rattle.ariadne_layout.specs.Tables.{IsTable}
use Rattle.ariadne_layout.specs.Snippets.{layout_at, sheet_at}
use Rattle.ariadne_render.specs.Pages.{Draws, PageFields}
use Rattle.ariadne_render.proofs.Drawn.{page_kept}
use Rattle.ariadne_render.proofs.GutterRows.{alternate-bytes, draws_gutter}
use Rattle.ariadne_render.proofs.GutterSteps.{below-alternate}
use Rattle.ariadne_render.proofs.KnownSnippets.{on-page, rise}
use Rattle.ariadne_render.proofs.LineRows.{draws_alternate}
use Rattle.ariadne_render.proofs.rows.push_alternate_row.Goals as goal

-- the table is that of the line, on the same page
pub push_alternate_area-requires : goal.push_alternate_area-requires
push_alternate_area-requires g c =
    let pen = c.args.writer.now.pen in
    let first = c.push_margin.new.self in
    let second = c.push_bars.new.pen in
    let kept = page_kept first second _ c.in_ok-push_bars.ensures ∙ page_kept pen first _ c.in_ok-push_margin.ensures in
    record {
      table = subst (λ (y : Layout). IsTable second.page.switches y c.args.rank c.args.table.now) (sym c.layout.ensures.layout)
          (subst (λ (p : PageFields). IsTable p.switches (layout_at c.args.shown.now) c.args.rank c.args.table.now) (sym kept) c.requires.at.is_table);
      loose = ap (λ (p : PageFields). p.switches.compact) kept ∙ c.requires.loose;
    }

-- a margin, the gutter, and the text area
pub returns : goal.returns
returns g c =
    let v = c.args.shown.now in
    let s : Sheet = sheet_at v in
    let l = v.line in
    let r = c.args.rank in
    let below = c.requires.at.below in
    let pen = c.args.writer.now.pen in
    let bars = c.args.writer.now.gutter in
    let first = c.push_margin.new.self in
    let second = c.push_bars.new.pen in
    let third = c.push_alternate_area.new.pen in
    let margin = c.in_ok-push_margin.ensures in
    let kept = page_kept first second _ c.in_ok-push_bars.ensures ∙ page_kept pen first _ margin in
    let laid = c.layout.ensures.layout in
    let gutter = draws_gutter first second s (alternate l r) bars _ (below.one_page ∙ sym (page_kept pen first _ margin))
    (alternate-bytes s l r bars (below-alternate s l r bars (rise v.snippet below.is_snippet) below.bars)) c.in_ok-push_bars.ensures in
    let heads = c.has_arrow_heads.ensures in
    let area = subst (Draws second third)
    (λ i. area_pieces ((kept i).switches) (laid i) (alternate_place (heads i) ((kept i).switches) (laid i) r)) c.in_ok-push_alternate_area.ensures in
    on_ok_weaker c.end_row.result
    (λ h. record {
      drawn = draws_alternate pen v.snippet.texts v.snippet.section
          (on-page v.snippet pen.page bars below.is_snippet below.one_page below.bars.sheet) first second third c.end_row.new.self l r margin gutter
          area h;
      bars = refl;
    })
    c.end_row.ensures
