-- The ids of both labels are those of their spans.
use Rattle.std.proofs.Common.{ap, ◌∙◌}
use Rattle.ariadne_report.specs.CacheReads.{world}
use Rattle.ariadne_report.proofs.GroupingSources.{label_there, same_by_ids}
use Rattle.ariadne_report.proofs.groups.are_over_one_source.Goals as goal

pub returns : goal.returns
returns g c = λ names contents.
    let w = world g.S.Span.source_of g.S.Span.start_of g.S.Span.end_of g.S.SourceId.PartialEq.eq names contents in
    let r = c.args.report.now in
    same_by_ids w r c.args.a.now.position c.args.b.now.position c.index-labels-a.result c.index-labels-b.result c.source-first.result.now
    c.source-second.result.now c.eq.result (label_there w r _ _ _ c.labels-labels.ensures c.index-labels-a.is c.requires.first)
    (label_there w r _ _ _ c.labels-labels.ensures c.index-labels-b.is c.requires.second)
    (c.source-first.ensures ∙ ap g.S.Span.source_of c.span.ensures.span) (c.source-second.ensures ∙ ap g.S.Span.source_of c.span-2.ensures.span)
    c.eq.ensures
