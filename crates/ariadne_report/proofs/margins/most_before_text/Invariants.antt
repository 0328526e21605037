-- The most so far, and that of the groups to come.
use Rattle.std.proofs.Common.{◌≡◌, List, drop, map, max, Bor}
use Rattle.ariadne_picture.specs.declared.label_info.LabelInfo.{LabelInfo}
use Rattle.ariadne_report.specs.CacheReads.{world}
use Rattle.ariadne_report.proofs.FrontColumns.{most_of}
use Rattle.ariadne_report.proofs.margins.most_before_text.Given as goal

abbrev pub invariant-loop-group : goal.invariant-loop-group
invariant-loop-group g l =
    let w = world g.S.Span.source_of g.S.Span.start_of g.S.Span.end_of g.S.SourceId.PartialEq.eq (g.C.Cache.names l.cache)
    (g.C.Cache.contents l.cache) in
    let gs = map (λ (x : Bor (List LabelInfo)). x.now) l.groups in
    most_of w l.report l.digits gs ≡ max l.most (most_of w l.report l.digits (drop l.group-index gs))
