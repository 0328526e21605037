use Rattle.ariadne_show.specs.FoundSpans.{files_of}
use Rattle.ariadne_show.specs.ReadFiles.{sources_in}
use Rattle.ariadne_show.proofs.Chains.{told_if_in_lines, told_if_in_one}
use Rattle.ariadne_show.proofs.drawing.draw_titled.Goals as goal

-- the picture of its report
pub returns-in_ok-report-in-Some : goal.returns-in_ok-report-in-Some
returns-in_ok-report-in-Some g c =
    told_if_in_one c.draw_report.result _ (files_of c.args.shelf.now) (sources_in c.args.shelf.now) _ _ _ _ _ _
    c.in-Some.ensures.found c.in_ok-report-in-Some.ensures.report c.in_ok-report-in-Some.ensures.sources
    c.draw_report.ensures

-- the line, and the others
pub returns-in_ok-draw_line-in-None : goal.returns-in_ok-draw_line-in-None
returns-in_ok-draw_line-in-None g c =
    told_if_in_lines c.draw_lines.result _ (files_of c.args.shelf.now) (sources_in c.args.shelf.now) _ _ _ _
    c.in-None.ensures.found c.in_ok-draw_line-in-None.ensures c.draw_lines.ensures
