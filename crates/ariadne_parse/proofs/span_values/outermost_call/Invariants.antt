use Rattle.std.specs.Prelude.{◌≡◌, ◌-◌, option_map}
use Rattle.std.specs.Option.{option_or}
use Rattle.serde_json.specs.View.{view}
use Rattle.ariadne_parse.specs.Rustc.{outermost_within}
use Rattle.ariadne_parse.proofs.span_values.outermost_call.Given as goal

-- the outermost of the calls that are left, or else that so far, is the outermost of all
abbrev pub invariant-loop-turn : goal.invariant-loop-turn
invariant-loop-turn l =
    option_or (outermost_within (64 - l.turn) (view l.at)) (option_map (λ v. view v.now) l.outermost)
    ≡ outermost_within 64 (view l.fn.span_value)
