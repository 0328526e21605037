use denote.Shadow.{shadow}
use denote.Text.{Utf8}
use Rattle.std.specs.Prelude.{◌≡◌, drop, map}
use Rattle.serde_json.specs.View.{items_view}
use Rattle.ariadne_parse.specs.Gcc.{with_noted}
use Rattle.ariadne_parse.specs.Spans.{seen}
use Rattle.ariadne_parse.proofs.gcc.push_noted_spans.Given as goal

-- the spans so far, with those that are still to come, are all
abbrev pub invariant-loop-location_value : goal.invariant-loop-location_value
invariant-loop-location_value l = record {
  text : shadow (Utf8 l.own_text);
  spans : with_noted (map seen l.spans.items) l.own_text (items_view (drop l.location_value-index l.location_values))
      ≡ with_noted (map seen l.initial.spans.items) l.fn.first_text (items_view l.fn.location_values);
}
