use Rattle.std.specs.Prelude.{◌≡◌, ◌++◌, drop, map, string_bytes}
use Rattle.serde_json.specs.View.{items_view, view}
use Rattle.ariadne_sarif.specs.SarifSpans.{rows_at}
use Rattle.ariadne_sarif.proofs.sarif_spans.push_rows.Given as goal

-- the rows so far and those that are still to come are all
abbrev pub invariant-loop-location_value : goal.invariant-loop-location_value
invariant-loop-location_value l =
    map string_bytes l.rows.items ++ rows_at (view l.run) (items_view (drop l.location_value-index l.location_values))
    ≡ map string_bytes l.initial.rows.items ++ rows_at (view l.fn.run) (items_view l.fn.location_values)
