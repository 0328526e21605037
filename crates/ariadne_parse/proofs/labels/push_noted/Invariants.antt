use Rattle.std.specs.Prelude.{◌≡◌, ◌++◌, drop, map}
use Rattle.serde_json.specs.View.{items_view}
use Rattle.ariadne_parse.specs.Rustc.{labelled, noted_labels}
use Rattle.ariadne_parse.proofs.labels.push_noted.Given as goal

-- the labels so far and those that are still to come are all
abbrev pub invariant-loop-span_value : goal.invariant-loop-span_value
invariant-loop-span_value l =
    map labelled l.labels.items ++ noted_labels l.fn.message (items_view (drop l.span_value-index l.span_values))
    ≡ map labelled l.initial.labels.items ++ noted_labels l.fn.message (items_view l.fn.span_values)
