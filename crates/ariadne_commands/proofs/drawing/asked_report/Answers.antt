-- Each turn adds the label that comes next.
use Rattle.std.proofs.Common.{refl}
use Rattle.ariadne_commands.specs.ReadWords.{asking}
use Rattle.ariadne_commands.specs.Drawn.{report_of}
use Rattle.ariadne_commands.proofs.Writing.{label_next, report_next}
use Rattle.ariadne_commands.proofs.drawing.asked_report.Goals as goal

pub loop-label-init : goal.loop-label-init
loop-label-init g c = record {
  report = rw c.in_ok-builder.ensures refl;
  labels = rw (c.in_ok-builder.ensures, c.new-colors.ensures, c.deref-label-items.ensures.value) refl;
}

pub loop-label-preserved : goal.loop-label-preserved
loop-label-preserved g c =
    let so_far = c.loop-label.invariant in
    record {
      report = report_next (report_of c.args.id (asking c.args.asked.now)) _ _ _ c.in_ok-builder-2.ensures so_far.report;
      labels = rw (c.in_ok-builder-2.ensures, c.next.ensures.answer, c.next.ensures.state)
          (label_next _ _ _ _ _ _ _ c.loop-label-test.true c.label-item.is so_far.labels);
    }
