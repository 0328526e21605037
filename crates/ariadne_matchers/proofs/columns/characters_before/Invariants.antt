use Rattle.std.proofs.Common.{◌≡◌, ◌+◌, ◌≤◌, drop}
use Rattle.ariadne_matchers.specs.Measures.{passed_from}
use Rattle.ariadne_matchers.proofs.columns.characters_before.Given as goal

-- what is passed, and what is to be passed of the rest
abbrev pub invariant-loop-place : goal.invariant-loop-place
invariant-loop-place l =
    (l.at ≤ l.column)
    × (l.place + passed_from l.measure l.column l.at (drop l.place l.line) ≡ passed_from l.measure l.column 0 l.line)
