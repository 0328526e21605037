use Rattle.std.specs.Prelude.{◌≡◌, ◌++◌, drop, map}
use Rattle.serde_json.specs.View.{items_view}
use Rattle.ariadne_parse.specs.Proposed.{changes_by, filed, rustc_change}
use Rattle.ariadne_parse.proofs.suggested.changes_of.Given as goal

-- the changes so far and those that are still to come are all
abbrev pub invariant-loop-span_value : goal.invariant-loop-span_value
invariant-loop-span_value l =
    map filed l.changes.items ++ changes_by rustc_change (items_view (drop l.span_value-index l.span_values))
    ≡ changes_by rustc_change (items_view l.fn.span_values)
