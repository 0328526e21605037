-- so far the stretches show the labels below the place
use Rattle.std.proofs.Common.{◌-◌, ◌+◌, ◌≤◌}
use Rattle.ariadne_layout.specs.Candidates.{infos_among}
use Rattle.ariadne_layout.specs.Choices.{shown_position}
use Rattle.ariadne_layout.proofs.Stretched.{ShowsBelow}
use Rattle.ariadne_layout.proofs.stretches.push_chosen.Given as goal

abbrev pub invariant-loop-place : goal.invariant-loop-place
invariant-loop-place l = record {
  within : l.place ≤ l.len;
  shows : ShowsBelow (λ k. shown_position (infos_among l.labels) (l.offset + k)) l.place l.list.items;
}

abbrev pub decreases-loop-place : goal.decreases-loop-place
decreases-loop-place l = l.len - l.place
