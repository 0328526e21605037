use Rattle.std.specs.Prelude.{◌≡◌}
use Rattle.std.specs.Str.{IsUtf8}
use Rattle.ariadne_parse.specs.Heads.{past_ranges}
use Rattle.ariadne_parse.proofs.locations.past_ranges.Given as goal

-- as many are passed as turns were made
abbrev pub invariant-loop-turn : goal.invariant-loop-turn
invariant-loop-turn l = record { is_text : IsUtf8 l.rest; same : l.rest ≡ past_ranges l.turn l.text }
