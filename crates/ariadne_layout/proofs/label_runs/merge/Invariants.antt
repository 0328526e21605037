-- so far the runs below a place are merged
use Rattle.std.proofs.Common.{ℕ, ◌+◌, ◌-◌, length}
use Rattle.ariadne_layout.specs.LabelRuns.{Reach}
use Rattle.ariadne_layout.proofs.LabelRuns.{Merging}
use Rattle.ariadne_layout.proofs.label_runs.merge.Given as goal

abbrev pub invariant-loop-i : goal.invariant-loop-i
invariant-loop-i l = (len : ℕ) → Reach 0 len l.first → Reach 0 len l.second → Merging l.first l.second len l.i l.j l.runs.items

abbrev pub decreases-loop-i : goal.decreases-loop-i
decreases-loop-i l = (length l.first - l.i) + (length l.second - l.j)
