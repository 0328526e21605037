use Rattle.std.specs.Prelude.{length, string_bytes}
use Rattle.ariadne_outputs.proofs.Passed.{ArePassed}
use Rattle.ariadne_outputs.proofs.passing.push_parts.Given as goal

-- the parts so far were added
abbrev pub invariant-loop-part : goal.invariant-loop-part
invariant-loop-part l =
    ArePassed l.colors l.text l.rest (string_bytes l.initial.shown) (string_bytes l.shown) l.is_painted

-- and less of the text is left
abbrev pub decreases-loop-part : goal.decreases-loop-part
decreases-loop-part l = length l.rest
