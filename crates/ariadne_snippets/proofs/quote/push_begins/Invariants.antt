use Rattle.std.proofs.Common.{◌≡◌, ◌+◌, ◌++◌, ◌≤◌, drop, length, option_map}
use Rattle.ariadne_snippets.specs.Quotes.{begins_from}
use Rattle.ariadne_snippets.proofs.quote.push_begins.Given as goal

-- what has begun, and what of the rest is to
abbrev pub invariant-loop-place : goal.invariant-loop-place
invariant-loop-place l =
    (l.at ≤ length l.quote + l.place)
    × (option_map (λ begins. l.begins.items ++ begins) (begins_from l.at (drop l.place l.line) (drop l.at l.quote))
    ≡ option_map (λ begins. l.initial.begins.items ++ begins) (begins_from l.start l.line (drop l.start l.quote)))
