use Rattle.std.proofs.Common.{◌≡◌, drop, length, ◌-◌, ◌≤◌}
use Rattle.ariadne_edits.specs.Stays.{from_reaching}
use Rattle.ariadne_edits.proofs.hints.reaching.Given as goal

abbrev pub invariant-loop-passed : goal.invariant-loop-passed
invariant-loop-passed l =
    (l.passed ≤ length l.stays) × (from_reaching l.begin (drop l.passed l.stays) ≡ from_reaching l.begin l.stays)

abbrev pub decreases-loop-passed : goal.decreases-loop-passed
decreases-loop-passed l = length l.stays - l.passed
