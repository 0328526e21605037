use Rattle.std.proofs.Common.{◌≡◌}
use Rattle.ariadne_matching.specs.HandedOver.{last_taken_below}
use Rattle.ariadne_matching.proofs.handing.last_taken.Given as goal

-- the last one so far
abbrev pub invariant-loop-place : goal.invariant-loop-place
invariant-loop-place l = l.last ≡ last_taken_below l.fit l.place
