-- The labels so far are in the report, and have no fault.
use Rattle.std.proofs.Common.{◌≡◌, ◌++◌, map, take, drop}
use Rattle.ariadne_calls.specs.RequestedReports.{label_of}
use Rattle.ariadne_calls.specs.Faults.{faults_from, label_faults}
use Rattle.ariadne_calls.proofs.labels.add_labels.Given as goal

abbrev pub invariant-loop-number : goal.invariant-loop-number
invariant-loop-number l = record {
  report : l.builder ≡ record l.fn.builder { labels = l.fn.builder.labels ++ map label_of (take l.number l.given) };
  same : faults_from (label_faults l.sources) 0 l.given ≡ faults_from (label_faults l.sources) l.number (drop l.number l.given);
}
