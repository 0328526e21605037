use Rattle.std.specs.Prelude.{◌≡◌, ◌++◌, drop, map}
use Rattle.serde_json.specs.View.{items_view}
use Rattle.ariadne_parse.specs.Proposed.{changes_by, filed, gcc_change}
use Rattle.ariadne_parse.proofs.fixits.changes_of.Given as goal

-- the changes so far and those that are still to come are all
abbrev pub invariant-loop-fixit : goal.invariant-loop-fixit
invariant-loop-fixit l =
    map filed l.changes.items ++ changes_by gcc_change (items_view (drop l.fixit-index l.fixits))
    ≡ changes_by gcc_change (items_view l.fn.fixits)
