use Rattle.std.specs.Prelude.{◌≡◌, ◌++◌, drop, map}
use Rattle.std.specs.List.{filter_map}
use Rattle.ariadne_parse.specs.Spans.{seen}
use Rattle.ariadne_parse.specs.Rustc.{label_span, labelled}
use Rattle.ariadne_parse.proofs.labels.spans_of.Given as goal

-- the spans so far and those that are still to come are all
abbrev pub invariant-loop-label : goal.invariant-loop-label
invariant-loop-label l =
    map seen l.spans.items ++ filter_map label_span (map labelled (drop l.label-index l.labels))
    ≡ filter_map label_span (map labelled l.fn.labels)
