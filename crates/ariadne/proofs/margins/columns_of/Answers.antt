-- The columns are those of the labels that were accepted.
use Rattle.std.proofs.Common.{ap, ◌∙◌}
use Rattle.std.proofs.lemmas.Result.{IfOk-weaker}
use Rattle.ariadne_picture.specs.Margins.{margin_columns}
use Rattle.ariadne_report.specs.CacheReads.{world}
use Rattle.ariadne_report.proofs.Outcomes.{are-accepted}
use Rattle.ariadne.proofs.margins.columns_of.Goals as goal

-- the accepted labels are over sources that the cache holds
pub margin_columns-requires : goal.margin_columns-requires
margin_columns-requires g c =
    let s = g.S.Span in
    let w = world s.source_of s.start_of s.end_of g.S.SourceId.PartialEq.eq (g.C.Cache.names c.accept.new.cache) (g.C.Cache.contents c.accept.new.cache) in
    let judged = c.in_ok-judged.ensures.judged in
    let accepted = are-accepted _ _ w c.args.report.now judged.0 judged.1 in
    record { drawn = rw judged.3 accepted.each }

-- so the columns are theirs
pub returns-clause-margin : goal.returns-clause-margin
returns-clause-margin g c =
    let s = g.S.Span in
    let w = world s.source_of s.start_of s.end_of g.S.SourceId.PartialEq.eq (g.C.Cache.names c.accept.new.cache) (g.C.Cache.contents c.accept.new.cache) in
    let judged = c.in_ok-judged.ensures.judged in
    IfOk-weaker c.margin_columns.result _ _
    (λ n is. record {
      outcomes = judged.0;
      are_outcomes = judged.1;
      columns_are = is ∙ ap (margin_columns w c.args.report.now) judged.3;
    }) c.margin_columns.ensures
