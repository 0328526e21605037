-- The groups are drawn below the header.
use Rattle.std.proofs.Common.{◌≡◌, ◌∙◌, List, ap, map, subst, sym, Bor}
use Rattle.std.proofs.lemmas.Result.{on_ok_weaker}
use Rattle.ariadne_picture.specs.Canvas.{header_pieces, texts_of}
use Rattle.ariadne_picture.specs.Pieces.{Texts}
use Rattle.ariadne_picture.specs.declared.label_info.LabelInfo.{LabelInfo}
use Rattle.ariadne_render.specs.Pages.{DrawsRow, PageFields, PenFields}
use Rattle.ariadne_render.proofs.Drawn.{page_kept}
use Rattle.ariadne_report.specs.CacheReads.{world}
use Rattle.ariadne.proofs.WholePictures.{picture_drawn}
use Rattle.ariadne.proofs.drawing.push_picture.Given.{Over}
use Rattle.ariadne.proofs.drawing.push_picture.Goals.{In_ok-push_header}
use Rattle.ariadne.proofs.drawing.push_picture.Goals as goal

-- the header is that of the report
header : (g : Over) (c : In_ok-push_header g) → DrawsRow c.args.writer.now.pen c.push_header.new.pen (header_pieces (texts_of c.args.report.now))
header g c =
    let first = subst (λ (t : Texts). DrawsRow c.reserve.new.self c.push_header.new.pen (header_pieces t)) c.requires.texts c.in_ok-push_header.ensures in
    subst (λ (x : PenFields). DrawsRow x c.push_header.new.pen (header_pieces (texts_of c.args.report.now))) c.in_ok-reserve.ensures first

-- the page stays
page : (g : Over) (c : In_ok-push_header g) → c.push_header.new.pen.page ≡ c.args.writer.now.pen.page
page g c = page_kept c.args.writer.now.pen c.push_header.new.pen _ (header g c)

-- so pen and gutter are of the page
pub push_groups-requires-clause-writer : goal.push_groups-requires-clause-writer
push_groups-requires-clause-writer g c =
    let kept = page g (goal.at.push_groups-requires-clause-writer g c).In_ok-push_header in
    record {
      one_page = c.requires.one_page ∙ sym kept;
      switches = ap (λ (x : PageFields). x.switches) (kept ∙ c.requires.page);
    }

-- all rows are written
pub returns : goal.returns
returns g c =
    let w = world g.S.Span.source_of g.S.Span.start_of g.S.Span.end_of g.S.SourceId.PartialEq.eq (g.C.Cache.names c.args.cache.now)
    (g.C.Cache.contents c.args.cache.now) in
    let gs = map (λ (x : Bor (List LabelInfo)). x.now) c.args.groups.now in
    let b = (goal.at.returns g c).In_ok-push_header in
    let width = ap (λ (x : PageFields). x.number_width) (page g b ∙ c.requires.page) in
    on_ok_weaker c.push_groups.result
    (picture_drawn w c.args.report.now gs c.push_header.new.pen.page.number_width c.args.writer.now.pen c.push_header.new.pen
    c.push_groups.new.writer.pen width (header g b))
    c.push_groups.ensures
