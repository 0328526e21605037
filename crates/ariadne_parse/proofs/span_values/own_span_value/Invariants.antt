use Rattle.std.specs.Prelude.{◌≡◌, ◌-◌}
use Rattle.serde_json.specs.View.{view}
use Rattle.ariadne_parse.specs.Rustc.{own_within}
use Rattle.ariadne_parse.proofs.span_values.own_span_value.Given as goal

-- the calls that are left lead to the same span
abbrev pub invariant-loop-turn : goal.invariant-loop-turn
invariant-loop-turn l = own_within (64 - l.turn) (view l.at) ≡ own_within 64 (view l.fn.span_value)
