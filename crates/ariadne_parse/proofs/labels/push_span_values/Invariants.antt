use Rattle.std.specs.Prelude.{◌≡◌, ◌++◌, drop, map}
use Rattle.serde_json.specs.View.{items_view}
use Rattle.ariadne_parse.specs.Members.{flat_items}
use Rattle.ariadne_parse.specs.Rustc.{labelled, span_value_labels}
use Rattle.ariadne_parse.proofs.labels.push_span_values.Given as goal

-- the labels so far and those that are still to come are all
abbrev pub invariant-loop-span_value : goal.invariant-loop-span_value
invariant-loop-span_value l =
    map labelled l.labels.items ++ flat_items span_value_labels (items_view (drop l.span_value-index l.span_values))
    ≡ map labelled l.initial.labels.items ++ flat_items span_value_labels (items_view l.fn.span_values)
