use Rattle.std.proofs.Common.{length, ◌-◌}
use Rattle.ariadne_base.specs.Separators.{IsPlain}
use Rattle.ariadne_base.proofs.blocks.run.plain_bytes.Given as goal

-- the run so far
abbrev pub invariant-loop-at : goal.invariant-loop-at
invariant-loop-at l = IsPlain l.bytes l.at l.chars

abbrev pub decreases-loop-at : goal.decreases-loop-at
decreases-loop-at l = length l.bytes - l.at
