use Rattle.std.proofs.Common.{length, ◌-◌, ◌≤◌}
use Rattle.ariadne_edits.proofs.hints.common_back.Given as goal

abbrev pub invariant-loop-count : goal.invariant-loop-count
invariant-loop-count l = (l.count ≤ length l.old) × (l.count ≤ length l.new)

abbrev pub decreases-loop-count : goal.decreases-loop-count
decreases-loop-count l = length l.old - l.count
