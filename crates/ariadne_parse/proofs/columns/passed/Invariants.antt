use Rattle.std.proofs.Common.{◌≡◌, ◌+◌, ◌≤◌, drop}
use Rattle.ariadne_parse.specs.Columns.{passed}
use Rattle.ariadne_parse.proofs.columns.passed.Given as goal

-- what is passed, and what is to be passed of the rest
abbrev pub invariant-loop-span : goal.invariant-loop-span
invariant-loop-span l =
    (l.at ≤ l.limit)
    × (l.span + passed l.unit l.limit l.at (drop l.span l.text) ≡ passed l.unit l.limit 0 l.text)
