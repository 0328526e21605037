use Rattle.std.specs.Prelude.{◌≡◌, ◌++◌, drop, map}
use Rattle.std.specs.List.{flat_map}
use Rattle.ariadne_parse.specs.Read.{as_quoted}
use Rattle.ariadne_parse.specs.Rustc.{labelled, span_value_quotes}
use Rattle.ariadne_parse.proofs.labels.quoted_of.Given as goal

-- the lines so far and those that are still to come are all
abbrev pub invariant-loop-label : goal.invariant-loop-label
invariant-loop-label l =
    map as_quoted l.quoted.items ++ flat_map (λ label. span_value_quotes label.span_value) (map labelled (drop l.label-index l.labels))
    ≡ flat_map (λ label. span_value_quotes label.span_value) (map labelled l.fn.labels)
