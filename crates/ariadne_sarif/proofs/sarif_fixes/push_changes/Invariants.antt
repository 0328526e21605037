use Rattle.std.specs.Prelude.{◌≡◌, drop}
use Rattle.serde_json.specs.View.{items_view, view}
use Rattle.ariadne_parse.specs.Read.{read}
use Rattle.ariadne_sarif.specs.SarifLogs.{with_changes}
use Rattle.ariadne_sarif.proofs.sarif_fixes.push_changes.Given as goal

-- the diagnostic so far, with the changes that are still to come, has all
abbrev pub invariant-loop-change : goal.invariant-loop-change
invariant-loop-change l =
    with_changes (view l.run) l.why (items_view (drop l.change-index l.changes)) (read l.parsed)
    ≡ with_changes (view l.fn.run) l.fn.why (items_view l.fn.changes) (read l.initial.parsed)
