use Rattle.std.specs.Str.Iter.{chars_rest}
use Rattle.ariadne_safe.proofs.Offsets.{IsFound}
use Rattle.ariadne_safe.proofs.sources.offsets.shown_offset.Given as goal

-- what is left of the offset stands in the signs of the rest
abbrev pub invariant-loop-c : goal.invariant-loop-c
invariant-loop-c l = IsFound l.kind l.given (chars_rest l.rest) l.offset l.shown l.left
