-- The width so far, and that of the groups to come.
use Rattle.std.proofs.Common.{◌≡◌, ◌≤◌, List, drop, map, max, Bor}
use Rattle.ariadne_picture.specs.Canvas.{number_width}
use Rattle.ariadne_picture.specs.declared.label_info.LabelInfo.{LabelInfo}
use Rattle.ariadne_report.specs.CacheReads.{world}
use Rattle.ariadne_report.proofs.groups.number_width.Given as goal

abbrev pub invariant-loop-group : goal.invariant-loop-group
invariant-loop-group g l =
    let w = world g.S.Span.source_of g.S.Span.start_of g.S.Span.end_of g.S.SourceId.PartialEq.eq (g.C.Cache.names l.cache)
    (g.C.Cache.contents l.cache) in
    let gs = map (λ (x : Bor (List LabelInfo)). x.now) l.groups in
    record {
      width : number_width w l.report gs ≡ max l.width (number_width w l.report (drop l.group-index gs));
      few : l.width ≤ 20;
    }
