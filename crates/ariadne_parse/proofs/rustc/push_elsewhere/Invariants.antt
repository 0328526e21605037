use Rattle.std.specs.Prelude.{◌≡◌, drop, string_bytes}
use Rattle.serde_json.specs.View.{items_view}
use Rattle.ariadne_parse.specs.Rustc.{with_rows}
use Rattle.ariadne_parse.proofs.rustc.push_elsewhere.Given as goal

-- the text so far, with the rows that are still to come, is all
abbrev pub invariant-loop-span_value : goal.invariant-loop-span_value
invariant-loop-span_value l =
    with_rows (string_bytes l.text) (items_view (drop l.span_value-index l.span_values))
    ≡ with_rows (string_bytes l.initial.text) (items_view l.fn.span_values)
