use Rattle.std.specs.Prelude.{◌≡◌, ◌++◌, drop, map, true}
use Rattle.serde_json.specs.View.{items_view}
use Rattle.ariadne_parse.specs.Gcc.{location_value_spans}
use Rattle.ariadne_parse.specs.Spans.{seen}
use Rattle.ariadne_parse.proofs.gcc.push_location_values.Given as goal

-- the spans so far and those that are still to come are all
abbrev pub invariant-loop-location_value : goal.invariant-loop-location_value
invariant-loop-location_value l =
    map seen l.spans.items ++ location_value_spans l.is_first (items_view (drop l.location_value-index l.location_values))
    ≡ map seen l.initial.spans.items ++ location_value_spans true (items_view l.fn.location_values)
