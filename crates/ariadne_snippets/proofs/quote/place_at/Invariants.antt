use Rattle.std.proofs.Common.{◌≡◌, ◌+◌, ◌≤◌, drop}
use Rattle.ariadne_snippets.specs.Marks.{place_in}
use Rattle.ariadne_snippets.proofs.quote.place_at.Given as goal

-- the characters that are passed, and those to be passed of the rest
abbrev pub invariant-loop-place : goal.invariant-loop-place
invariant-loop-place l =
    (l.at ≤ l.column)
    × (l.place + place_in l.unit l.column l.at (drop l.place l.quote) ≡ place_in l.unit l.column 0 l.quote)
