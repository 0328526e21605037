use Rattle.std.proofs.Common.{map, string_bytes, subst, IfSome, Option, String}
use Rattle.std.specs.declared.alloc.Global.{Global}
use Rattle.std.proofs.lemmas.Result.{IfOk-weaker}
use Rattle.ariadne_matchers.specs.Catches.{caught_at}
use Rattle.ariadne_matching.specs.MatchedFiles.{IsReportOf}
use Rattle.ariadne_matching.specs.MatchedReports.{IsMeasuredOf}
use Rattle.ariadne_matching.specs.SettledLines.{IsReportAt}
use Rattle.ariadne_matching.specs.TriedMatchers.{entry_at, renumbered, words_at}
use Rattle.ariadne_matching.proofs.Reported.{report_of_lines}
use Rattle.ariadne_matching.proofs.reading.LineReader.report_line.Goals as goal

-- the report of what the lines tell
pub returns-in-Some-clause-report : goal.returns-in-Some-clause-report
returns-in-Some-clause-report g c =
    let matchers = c.args.self.now.matchers in
    let place = renumbered c.args.place c.args.fit.now.entry in
    let caught = map caught_at c.args.fit.now.lines.items in
    let is = subst (IsMeasuredOf (entry_at matchers place) (words_at matchers place) caught) c.in-Some.is c.in_ok-measured.ensures in
    IfOk-weaker c.report.result
    (λ (line : Option (String Global)). IfSome line (λ it. IsReportOf c.in-Some.measured (string_bytes it)))
    (λ (line : Option (String Global)). IfSome line (λ it. IsReportAt matchers place caught (string_bytes it)))
    (λ line own. report_of_lines (entry_at matchers place) (words_at matchers place) caught c.in-Some.measured line is own) c.report.ensures
