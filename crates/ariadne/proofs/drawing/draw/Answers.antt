-- The groups of the labels in order are drawn.
use Rattle.std.proofs.Common.{◌≡◌, ◌∙◌, List, ap, map, refl, Bor}
use Rattle.std.proofs.lemmas.Result.{IfOk-weaker}
use Rattle.ariadne_picture.specs.Canvas.{same_source}
use Rattle.ariadne_picture.specs.Groups.{groups_of, ordered}
use Rattle.ariadne_picture.specs.declared.label_info.LabelInfo.{LabelInfo}
use Rattle.ariadne_report.specs.CacheReads.{world}
use Rattle.ariadne_report.proofs.GroupingSources.{drawn_there}
use Rattle.ariadne_report.proofs.Grouping.{sorted_drawn, sorted_groups}
use Rattle.ariadne.proofs.WholePictures.{canvas_is}
use Rattle.ariadne.proofs.drawing.draw.Given.{Over}
use Rattle.ariadne.proofs.drawing.draw.Goals.{After-as_slice}
use Rattle.ariadne.proofs.drawing.draw.Goals as goal

-- the labels in order are there
pub cut_groups-requires : goal.cut_groups-requires
cut_groups-requires g c =
    let w = world g.S.Span.source_of g.S.Span.start_of g.S.Span.end_of g.S.SourceId.PartialEq.eq (g.C.Cache.names c.args.cache.now)
    (g.C.Cache.contents c.args.cache.now) in
    let sorted = c.deref.ensures.value ∙ c.in_ok-sorted.ensures in
    record {
      there =
          drawn_there w c.args.report.now c.deref.result.now
          (sorted_drawn w c.args.report.now c.args.infos.items c.deref.result.now sorted c.requires.drawn);
    }

-- they are cut where their groups end
are_cut : (g : Over) (c : After-as_slice g) → let w = world g.S.Span.source_of g.S.Span.start_of g.S.Span.end_of g.S.SourceId.PartialEq.eq (g.C.Cache.names c.args.cache.now)
    (g.C.Cache.contents c.args.cache.now) in
    map (λ (x : Bor (List LabelInfo)). x.now) c.as_slice.result.now ≡ groups_of (same_source w c.args.report.now) (ordered c.args.infos.items)
are_cut g c =
    let w = world g.S.Span.source_of g.S.Span.start_of g.S.Span.end_of g.S.SourceId.PartialEq.eq (g.C.Cache.names c.args.cache.now)
    (g.C.Cache.contents c.args.cache.now) in
    let r = c.args.report.now in
    let cut = c.in_ok-cut.ensures (g.C.Cache.names c.args.cache.now) (g.C.Cache.contents c.args.cache.now) in
    ap (map (λ (x : Bor (List LabelInfo)). x.now)) c.as_slice.ensures ∙ cut
    ∙ ap (groups_of (same_source w r)) (c.deref.ensures.value ∙ c.in_ok-sorted.ensures)

-- so they are groups of labels that are drawn
pub draw_groups-requires : goal.draw_groups-requires
draw_groups-requires g c =
    let w = world g.S.Span.source_of g.S.Span.start_of g.S.Span.end_of g.S.SourceId.PartialEq.eq (g.C.Cache.names c.args.cache.now)
    (g.C.Cache.contents c.args.cache.now) in
    let r = c.args.report.now in
    let drawn = sorted_drawn w r c.args.infos.items _ refl c.requires.drawn in
    record { groups = sorted_groups w r (ordered c.args.infos.items) _ (are_cut g (goal.at.draw_groups-requires g c).After-as_slice) drawn }

-- and their picture is that of the labels
pub returns : goal.returns
returns g c =
    let w = world g.S.Span.source_of g.S.Span.start_of g.S.Span.end_of g.S.SourceId.PartialEq.eq (g.C.Cache.names c.args.cache.now)
    (g.C.Cache.contents c.args.cache.now) in
    let r = c.args.report.now in
    let gs = map (λ (x : Bor (List LabelInfo)). x.now) c.as_slice.result.now in
    IfOk-weaker c.draw_groups.result _ _ (λ text is. is ∙ canvas_is w r c.args.infos.items gs (are_cut g (goal.at.returns g c).After-as_slice))
    c.draw_groups.ensures
