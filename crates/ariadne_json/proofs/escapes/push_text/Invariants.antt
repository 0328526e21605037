use Rattle.std.proofs.Common.{◌≡◌, ◌++◌, length}
use Rattle.ariadne_json.specs.Escapes.{mended_text}
use Rattle.ariadne_json.proofs.escapes.push_text.Given as goal

-- what is added, and what is to be added of the rest
abbrev pub invariant-loop-rest : goal.invariant-loop-rest
invariant-loop-rest l = l.out.items ++ mended_text l.rest ≡ l.initial.out.items ++ mended_text l.fn.text

-- the rest gets shorter
abbrev pub decreases-loop-rest : goal.decreases-loop-rest
decreases-loop-rest l = length l.rest
