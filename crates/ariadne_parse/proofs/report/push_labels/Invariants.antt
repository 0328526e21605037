use Rattle.std.specs.Prelude.{◌≡◌, ◌++◌, drop, map}
use Rattle.serde_json.specs.View.{items_view}
use Rattle.ariadne_parse.specs.Spans.{seen}
use Rattle.ariadne_parse.specs.Reports.{label_spans, spans_in}
use Rattle.ariadne_parse.proofs.report.push_labels.Given as goal

-- the spans so far and those that are still to come are all
abbrev pub invariant-loop-label : goal.invariant-loop-label
invariant-loop-label l =
    map seen l.spans.items ++ label_spans l.fn.unit l.is_needed (items_view (drop l.label-index l.labels))
    ≡ map seen l.initial.spans.items ++ spans_in l.fn.unit (items_view l.fn.labels)
