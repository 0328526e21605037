-- What a new pen has written at last is the picture.
use Rattle.std.proofs.Common.{◌∙◌, List, ap, map, sym, Bor}
use Rattle.ariadne_picture.specs.Canvas.{palette_of}
use Rattle.ariadne_picture.specs.declared.label_info.LabelInfo.{LabelInfo}
use Rattle.ariadne_render.specs.Pages.{PageFields, PenFields}
use Rattle.ariadne_render.specs.Gutters.{GutterFields}
use Rattle.ariadne_report.specs.CacheReads.{world}
use Rattle.ariadne.specs.WholePages.{picture_rows}
use Rattle.ariadne.proofs.Building.{on_ok_and}
use Rattle.ariadne.proofs.WholePictures.{rows_written}
use Rattle.ariadne.proofs.drawing.draw_on.Goals as goal

-- the pen is of the page
pub push_picture-requires-clause-page : goal.push_picture-requires-clause-page
push_picture-requires-clause-page g c = ap (λ (x : PenFields). x.page) c.new-writer.ensures.pen ∙ c.requires.page

-- so is the gutter
pub push_picture-requires-clause-one_page : goal.push_picture-requires-clause-one_page
push_picture-requires-clause-one_page g c =
    ap (λ (x : GutterFields). x.page) c.new-writer.ensures.gutter ∙ sym (ap (λ (x : PenFields). x.page) c.new-writer.ensures.pen)

-- the bytes are those of the rows
pub returns : goal.returns
returns g c =
    let w = world g.S.Span.source_of g.S.Span.start_of g.S.Span.end_of g.S.SourceId.PartialEq.eq (g.C.Cache.names c.args.cache.now)
    (g.C.Cache.contents c.args.cache.now) in
    let r = c.args.report.now in
    let gs = map (λ (x : Bor (List LabelInfo)). x.now) c.args.groups.now in
    on_ok_and c.push_picture.result _ c.and.ensures
    (λ drawn. c.into_text.ensures
    ∙ rows_written (palette_of r) (picture_rows w r gs) c.args.page.now c.new-writer.result.pen c.push_picture.new.writer.pen c.new-writer.ensures.pen
    (ap (λ (x : PageFields). x.palette) c.requires.page) drawn)
    c.push_picture.ensures
