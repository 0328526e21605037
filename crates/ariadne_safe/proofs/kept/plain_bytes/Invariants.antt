use Rattle.std.proofs.Common.{length, ◌-◌}
use Rattle.ariadne_safe.specs.Kept.{IsPlainRun}
use Rattle.ariadne_safe.proofs.kept.plain_bytes.Given as goal

-- the run so far
abbrev pub invariant-loop-at : goal.invariant-loop-at
invariant-loop-at l = IsPlainRun l.layout.first l.layout.last l.bytes l.at

abbrev pub decreases-loop-at : goal.decreases-loop-at
decreases-loop-at l = length l.bytes - l.at
