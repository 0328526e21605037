use Rattle.ariadne_safe.specs.SafeBuilding.{made_of, report_of as report_in, sources_below}
use Rattle.ariadne_show.proofs.Chains.{said_if}
use Rattle.ariadne_show.proofs.drawing.draw_text.Goals as goal

-- a head alone
pub returns : goal.returns
returns g c =
    said_if c.draw_report.result c.args.style _ _ _ c.args.text.now (sources_below c.finish.result) (made_of c.new-builder.result)
    (made_of c.in_ok-with_message.field-0) (report_in c.finish.result) (g.W.Write.contents c.args.out.now)
    (g.W.Write.contents c.draw_report.new.out) c.new-builder.ensures.report c.config_of-config.ensures c.note_kind.ensures
    c.in_ok-with_message.ensures.report c.finish.ensures.report c.draw_report.ensures
