use Rattle.std.specs.Prelude.{◌≡◌, drop}
use Rattle.serde_json.specs.View.{items_view}
use Rattle.ariadne_sarif.specs.Fixing.{are_changes}
use Rattle.ariadne_sarif.proofs.fixing.are_changes.Given as goal

-- those that are left tell changes where all do
abbrev pub invariant-loop-value : goal.invariant-loop-value
invariant-loop-value g l =
    are_changes g.C.TellsChange.edit (items_view (drop l.value-index l.values))
    ≡ are_changes g.C.TellsChange.edit (items_view l.fn.values)
