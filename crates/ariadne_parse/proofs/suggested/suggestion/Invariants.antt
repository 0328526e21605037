use Rattle.std.specs.Prelude.{◌≡◌, ◌++◌, drop, string_bytes, None}
use Rattle.serde_json.specs.View.{items_view}
use Rattle.ariadne_parse.specs.Suggested.{parts_behind}
use Rattle.ariadne_parse.proofs.suggested.suggestion.Given as goal

-- what is said so far and what the spans say that are left are all
abbrev pub invariant-loop-span_value : goal.invariant-loop-span_value
invariant-loop-span_value l =
    string_bytes l.said ++ parts_behind l.first (items_view (drop l.span_value-index l.span_values))
    ≡ parts_behind None (items_view l.fn.span_values)
