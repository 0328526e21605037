use Rattle.std.proofs.Common.{◌∙◌, ap, map, string_bytes, subst, IfSome, Option, String}
use Rattle.std.specs.declared.alloc.Global.{Global}
use Rattle.ariadne_matchers.specs.Catches.{caught_at}
use Rattle.ariadne_matching.specs.HandedOver.{handed_over}
use Rattle.ariadne_matching.specs.SettledLines.{IsReportAt}
use Rattle.ariadne_matching.specs.TriedMatchers.{renumbered}
use Rattle.ariadne_matching.proofs.reading.LineReader.report.Goals as goal

-- what stands for the lines
pub returns-in_ok-handed_over-in-Some-clause-report : goal.returns-in_ok-handed_over-in-Some-clause-report
returns-in_ok-handed_over-in-Some-clause-report g c =
    let fit = c.args.fit.now in
    let place = renumbered c.args.place fit.entry in
    record {
      line = string_bytes c.in-Some.report;
      is = subst (λ (line : Option (String Global)). IfSome line (λ it. IsReportAt c.args.self.now.matchers place (map caught_at fit.lines.items) (string_bytes it)))
          c.in-Some.is c.in_ok-report.ensures.report;
      bytes = c.in_ok-handed_over-in-Some.ensures ∙ ap (handed_over c.args.lines.now fit) c.as_str.ensures.value;
      count = c.len.ensures ∙ fit.lines.ok.0;
    }
