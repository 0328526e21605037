use Rattle.std.proofs.Common.{◌∙◌, ◌++◌, ap, ap₂}
use Rattle.ariadne_matching.specs.HandedOver.{handed_at, passing_bytes, report_at}
use Rattle.ariadne_matching.proofs.HandedLines.{lent, line_more}
use Rattle.ariadne_matching.proofs.handing.handed_over.Goals as goal

-- one line more
pub loop-place-preserved : goal.loop-place-preserved
loop-place-preserved c =
    let lines = c.args.lines.now in
    let report = c.args.report.now in
    let place = c.loop-place.place in
    line_more (handed_at lines c.args.fit.now report) place c.loop-place.bytes.items _ _ _ _ c.loop-place.invariant
    c.in_ok-extend_from_slice.ensures.items c.in_ok-extend_from_slice-2.ensures.items
    (ap₂ (λ one two. one ++ two)
    (c.as_bytes.ensures.value ∙ c.report_at.ensures ∙ ap (report_at report place) c.last_taken-last.ensures)
    (c.passing.ensures ∙ ap₂ passing_bytes (lent lines place c.get.result c.get.ensures.lookup) c.takes_in.ensures))
