use Rattle.std.specs.Prelude.{◌≡◌, ◌-◌, string_bytes}
use Rattle.serde_json.specs.View.{view}
use Rattle.ariadne_sarif.specs.SarifSpans.{based, based_uri}
use Rattle.ariadne_sarif.proofs.sarif_spans.based.Given as goal

-- the bases that are left lead to the same URI
abbrev pub invariant-loop-turn : goal.invariant-loop-turn
invariant-loop-turn l =
    based (8 - l.turn) (view l.run) (view l.at) (string_bytes l.uri) ≡ based_uri (view l.fn.run) (view l.fn.location_value)
