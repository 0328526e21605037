use Rattle.std.proofs.Common.{◌∙◌, sym}
use Rattle.ariadne_parse.specs.ParsedDiagnostics.{of_report}
use Rattle.ariadne_parse.proofs.telling.report_in.Goals as goal

-- the report that the value is
pub returns-clause-all : goal.returns-clause-all
returns-clause-all c =
    of_report (sym c.is_report.ensures ∙ c.if-not-is_report.false)
    (c.in_ok-parsed_by_report.field-0, c.in_ok-one.ensures, c.in_ok-parsed_by_report.ensures)
