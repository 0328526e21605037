use denote.Text.{Utf8}
use denote.Shadow.{shadow}
use Rattle.std.specs.Prelude.{string_bytes, length}
use Rattle.ariadne_safe.proofs.Signs.{IsSigned}
use Rattle.ariadne_safe.proofs.text.visible.Given as goal

-- the signs of what is passed have been pushed
abbrev pub invariant-loop-rest : goal.invariant-loop-rest
invariant-loop-rest l = IsSigned l.kind l.text l.rest (string_bytes l.shown) × shadow (Utf8 l.rest)

abbrev pub decreases-loop-rest : goal.decreases-loop-rest
decreases-loop-rest l = length l.rest
