use Rattle.std.specs.Prelude.{◌≡◌, ◌++◌, ◌-◌, length, string_bytes}
use Rattle.std.specs.Str.{IsUtf8}
use Rattle.serde_json.specs.View.{view}
use Rattle.ariadne_sarif.specs.SarifMessages.{filled, filled_by}
use Rattle.ariadne_sarif.proofs.sarif_messages.filled.Given as goal

-- the text so far, and what the braces that are left make of the rest, are all
abbrev pub invariant-loop-turn : goal.invariant-loop-turn
invariant-loop-turn l = record {
  is_text : IsUtf8 l.rest;
  same : string_bytes l.all ++ filled_by (length l.text - l.turn) (view l.message) l.rest
      ≡ filled (view l.fn.message) l.fn.text;
}
