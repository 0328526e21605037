use Rattle.std.proofs.Common.{◌≡◌, map, drop}
use Rattle.std.specs.Prelude.{◌++◌}
use Rattle.ariadne.specs.Generator.{usual_start}
use Rattle.ariadne_commands.specs.ReadWords.{asking, label_asking}
use Rattle.ariadne_commands.specs.Drawn.{labels_from, report_of}
use Rattle.ariadne_commands.proofs.drawing.asked_report.Given as goal

-- the labels so far, and those that come, are those of the report; all else is as the report has it
abbrev pub invariant-loop-label : goal.invariant-loop-label
invariant-loop-label g l = record {
  report : l.builder ≡ record (report_of l.id (asking l.asked)) { labels = l.builder.labels };
  labels : l.builder.labels ++ labels_from l.id l.colors (map label_asking (drop l.label-index l.label-items))
      ≡ labels_from l.id usual_start (map label_asking l.asked.labels.items);
}
