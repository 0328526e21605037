-- The labels so far are told.
use Rattle.std.proofs.Common.{◌≡◌, map, take}
use Rattle.ariadne_calls.specs.CallBuffers.{told_of}
use Rattle.ariadne_calls.proofs.pictures.told_all.Given as goal

abbrev pub invariant-loop-label : goal.invariant-loop-label
invariant-loop-label _ l = l.all.items ≡ map told_of (take l.label-index l.left_out)
