-- The labels so far that own a gutter column.
use Rattle.std.proofs.Common.{◌≡◌, ◌≤◌, filter, length, take}
use Rattle.ariadne_report.proofs.FrontColumns.{owns_column}
use Rattle.ariadne_report.proofs.margins.number_of_gutter_labels.Given as goal

abbrev pub invariant-loop-info : goal.invariant-loop-info
invariant-loop-info l = record {
  number : l.number ≡ length (filter owns_column (take l.info-index l.group));
  within : l.number ≤ l.info-index;
}
