use Rattle.std.proofs.Common.{◌≡◌, ◌++◌}
use Rattle.std.specs.Prelude.{replicate}
use Rattle.ariadne_snippets.specs.Units.{sign_of}
use Rattle.ariadne_snippets.proofs.units.push_units.Given as goal

-- so many were pushed
abbrev pub invariant-loop-turn : goal.invariant-loop-turn
invariant-loop-turn l = l.chars.items ≡ l.initial.chars.items ++ replicate l.turn (sign_of l.units l.c)
