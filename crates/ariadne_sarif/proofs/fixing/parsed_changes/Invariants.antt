use Rattle.std.specs.Prelude.{◌≡◌, ◌++◌, drop, map}
use Rattle.serde_json.specs.View.{items_view}
use Rattle.ariadne_parse.specs.Proposed.{edit_of}
use Rattle.ariadne_sarif.specs.DocumentParts.{edits_by}
use Rattle.ariadne_sarif.proofs.fixing.parsed_changes.Given as goal

-- the changes so far and those that are still to come are all
abbrev pub invariant-loop-value : goal.invariant-loop-value
invariant-loop-value g l =
    map edit_of l.changes.items ++ edits_by g.C.TellsChange.edit (items_view (drop l.value-index l.values))
    ≡ edits_by g.C.TellsChange.edit (items_view l.fn.values)
