-- The groups of the labels in order are those that are drawn.
use Rattle.std.proofs.Common.{◌≡◌, ◌∙◌, List, ap, map, Bor}
use Rattle.ariadne_picture.specs.Canvas.{groups, same_source}
use Rattle.ariadne_picture.specs.Groups.{groups_of}
use Rattle.ariadne_picture.specs.Margins.{margin_columns, most_before_text}
use Rattle.ariadne_picture.specs.declared.label_info.LabelInfo.{LabelInfo}
use Rattle.ariadne_report.specs.CacheReads.{world}
use Rattle.ariadne_report.proofs.GroupingSources.{drawn_there}
use Rattle.ariadne_report.proofs.Grouping.{sorted_drawn, sorted_groups}
use Rattle.ariadne_report.proofs.margins.margin_columns.Goals as goal

-- the labels in order are there
pub cut_groups-requires : goal.cut_groups-requires
cut_groups-requires g c =
    let w = world g.S.Span.source_of g.S.Span.start_of g.S.Span.end_of g.S.SourceId.PartialEq.eq (g.C.Cache.names c.args.cache.now)
    (g.C.Cache.contents c.args.cache.now) in
    let sorted = c.deref.ensures.value ∙ c.in_ok-sorted.ensures in
    record {
      there =
          drawn_there w c.args.report.now c.deref.result.now
          (sorted_drawn w c.args.report.now c.args.infos.items c.deref.result.now sorted c.requires.drawn);
    }

-- their groups are drawn
pub most_before_text-requires : goal.most_before_text-requires
most_before_text-requires g c =
    let w = world g.S.Span.source_of g.S.Span.start_of g.S.Span.end_of g.S.SourceId.PartialEq.eq (g.C.Cache.names c.args.cache.now)
    (g.C.Cache.contents c.args.cache.now) in
    let r = c.args.report.now in
    let cut = c.in_ok-groups.ensures (g.C.Cache.names c.args.cache.now) (g.C.Cache.contents c.args.cache.now) in
    let are : map (λ (x : Bor (List LabelInfo)). x.now) c.deref-2.result.now ≡ groups_of (same_source w r) c.deref.result.now =
    ap (map (λ (x : Bor (List LabelInfo)). x.now)) c.deref-2.ensures ∙ cut in
    let sorted = c.deref.ensures.value ∙ c.in_ok-sorted.ensures in
    let drawn = sorted_drawn w r c.args.infos.items c.deref.result.now sorted c.requires.drawn in
    record { groups = sorted_groups w r c.deref.result.now _ are drawn }

-- the most is theirs
pub returns : goal.returns
unfolding margin_columns groups
returns g c =
    let w = world g.S.Span.source_of g.S.Span.start_of g.S.Span.end_of g.S.SourceId.PartialEq.eq (g.C.Cache.names c.args.cache.now)
    (g.C.Cache.contents c.args.cache.now) in
    let r = c.args.report.now in
    let cut = c.in_ok-groups.ensures (g.C.Cache.names c.args.cache.now) (g.C.Cache.contents c.args.cache.now) in
    let are : map (λ (x : Bor (List LabelInfo)). x.now) c.deref-2.result.now ≡ groups_of (same_source w r) c.deref.result.now =
    ap (map (λ (x : Bor (List LabelInfo)). x.now)) c.deref-2.ensures ∙ cut in
    c.most_before_text.ensures
    ∙ ap (most_before_text w r) (are ∙ ap (groups_of (same_source w r)) (c.deref.ensures.value ∙ c.in_ok-sorted.ensures))
