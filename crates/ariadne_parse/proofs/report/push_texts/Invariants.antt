use Rattle.std.specs.Prelude.{◌≡◌, ◌++◌, drop, map, string_bytes}
use Rattle.serde_json.specs.View.{items_view}
use Rattle.ariadne_parse.specs.Reports.{texts_in}
use Rattle.ariadne_parse.proofs.report.push_texts.Given as goal

-- the texts so far and those that are still to come are all
abbrev pub invariant-loop-value : goal.invariant-loop-value
invariant-loop-value l =
    map string_bytes l.texts.items ++ texts_in (items_view (drop l.value-index l.values))
    ≡ map string_bytes l.initial.texts.items ++ texts_in (items_view l.fn.values)
