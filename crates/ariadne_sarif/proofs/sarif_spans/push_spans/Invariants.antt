use Rattle.std.specs.Prelude.{◌≡◌, ◌++◌, drop, map}
use Rattle.serde_json.specs.View.{items_view, view}
use Rattle.ariadne_parse.specs.Spans.{seen}
use Rattle.ariadne_sarif.specs.SarifSpans.{spans_at}
use Rattle.ariadne_sarif.proofs.sarif_spans.push_spans.Given as goal

-- the spans so far and those that are still to come are all
abbrev pub invariant-loop-location_value : goal.invariant-loop-location_value
invariant-loop-location_value l =
    map seen l.all.items ++ spans_at (view l.run) l.is_primary (items_view (drop l.location_value-index l.location_values))
    ≡ map seen l.initial.all.items ++ spans_at (view l.fn.run) l.fn.is_primary (items_view l.fn.location_values)
