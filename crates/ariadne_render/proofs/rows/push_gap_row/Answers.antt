use Rattle.std.proofs.Common.{◌∙◌, refl, sym}
use Rattle.std.proofs.lemmas.Result.{on_ok_weaker}
use Rattle.ariadne_picture.specs.Ranks.{Sheet}
use Rattle.ariadne_layout.specs.Snippets.{sheet_in}
use Rattle.ariadne_render.proofs.Drawn.{page_kept}
use Rattle.ariadne_render.proofs.GutterRows.{draws_gap_gutter}
use Rattle.ariadne_render.proofs.GutterSteps.{beside-gap}
use Rattle.ariadne_render.proofs.KnownSnippets.{hidden-none, on-page, rise}
use Rattle.ariadne_render.proofs.LineRows.{draws_gap}
use Rattle.ariadne_render.proofs.rows.push_gap_row.Goals as goal

-- a margin, and broken bars
pub returns : goal.returns
returns g c =
    let v = c.args.snippet.now in
    let s : Sheet = sheet_in v in
    let l = c.args.line in
    let at = c.requires.at in
    let pen = c.args.writer.now.pen in
    let gutter = c.args.writer.now.gutter in
    let margin = c.push_gap_margin.new.self in
    let bars = beside-gap s l gutter (rise v at.is_snippet) at.bars in
    let kept = page_kept pen margin _ c.in_ok-push_gap_margin.ensures in
    on_ok_weaker c.end_row.result
    (λ h. record {
      drawn = draws_gap pen v.texts v.section (on-page v pen.page gutter at.is_snippet at.one_page at.bars.sheet) margin c.push_gap.new.pen
          c.end_row.new.self l c.in_ok-push_gap_margin.ensures
          (draws_gap_gutter margin c.push_gap.new.pen s l gutter (at.one_page ∙ sym kept) bars (hidden-none s l c.requires.hidden)
          c.in_ok-push_gap.ensures)
          h;
      bars = refl;
    })
    c.end_row.ensures
