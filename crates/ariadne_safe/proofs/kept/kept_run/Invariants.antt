use Rattle.std.proofs.Common.{◌≡◌, ◌≢◌, ◌<◌, ◌-◌, length, drop}
use Rattle.std.specs.Str.{chars}
use Rattle.ariadne_safe.specs.Visible.{visible_text}
use Rattle.ariadne_safe.specs.Kept.{IsKept}
use Rattle.ariadne_safe.proofs.kept.kept_run.Given as goal

-- the run so far, and the step behind it
abbrev pub invariant-loop-step : goal.invariant-loop-step
invariant-loop-step l = IsKept l.kind l.text l.kept × IsKept l.kind (drop l.kept l.text) l.step
    × (l.step ≡ 0 → 0 < length (drop l.kept l.text) → visible_text l.kind (chars (drop l.kept l.text)) ≢ chars (drop l.kept l.text))

abbrev pub decreases-loop-step : goal.decreases-loop-step
decreases-loop-step l = length l.text - l.kept
