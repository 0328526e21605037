-- so far the runs show the labels below the place
use Rattle.std.proofs.Common.{◌-◌, ◌+◌, ◌≤◌}
use Rattle.ariadne_layout.specs.Candidates.{infos_among}
use Rattle.ariadne_layout.proofs.LabelRuns.{SeenBelow}
use Rattle.ariadne_layout.proofs.Stretched.{label-shown}
use Rattle.ariadne_layout.proofs.label_runs.find_label_runs_of_few.Given as goal

abbrev pub invariant-loop-place : goal.invariant-loop-place
invariant-loop-place l = record {
  within : l.place ≤ l.len;
  seen : SeenBelow (λ k. label-shown (infos_among l.labels) (l.offset + k)) l.place l.runs.items;
}

abbrev pub decreases-loop-place : goal.decreases-loop-place
decreases-loop-place l = l.len - l.place
