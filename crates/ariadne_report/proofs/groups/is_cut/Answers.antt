-- The sources differ, or the lines tell.
use Rattle.ariadne_report.specs.CacheReads.{world}
use Rattle.ariadne_report.proofs.GroupingSources.{cut_by_lines, cut_by_sources}
use Rattle.ariadne_report.proofs.groups.is_cut.Goals as goal

-- the sources differ
pub returns-then-not-are_over_one_source : goal.returns-then-not-are_over_one_source
returns-then-not-are_over_one_source g c = λ names contents.
    let w = world g.S.Span.source_of g.S.Span.start_of g.S.Span.end_of g.S.SourceId.PartialEq.eq names contents in
    cut_by_sources w c.args.report.now c.args.a.now c.args.b.now c.are_over_one_source.result (c.are_over_one_source.ensures names contents)
    c.if-not-are_over_one_source.true

-- the lines tell
pub returns-else-not-are_over_one_source : goal.returns-else-not-are_over_one_source
returns-else-not-are_over_one_source g c = λ names contents.
    let w = world g.S.Span.source_of g.S.Span.start_of g.S.Span.end_of g.S.SourceId.PartialEq.eq names contents in
    cut_by_lines w c.args.report.now c.args.a.now c.args.b.now c.are_over_one_source.result (c.are_over_one_source.ensures names contents)
    c.if-not-are_over_one_source.false
