use Rattle.std.proofs.Common.{length, ◌-◌}
use Rattle.ariadne_base.specs.Separators.{HasBegun}
use Rattle.ariadne_base.proofs.blocks.place.place_from.Given as goal

abbrev pub invariant-loop-at : goal.invariant-loop-at
invariant-loop-at l = HasBegun l.bytes l.number l.at l.count

abbrev pub decreases-loop-at : goal.decreases-loop-at
decreases-loop-at l = length l.bytes - l.at
