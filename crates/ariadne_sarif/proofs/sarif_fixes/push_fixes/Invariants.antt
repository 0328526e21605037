use Rattle.std.specs.Prelude.{◌≡◌, drop}
use Rattle.serde_json.specs.View.{items_view, view}
use Rattle.ariadne_parse.specs.Read.{read}
use Rattle.ariadne_sarif.specs.SarifLogs.{with_fixes}
use Rattle.ariadne_sarif.proofs.sarif_fixes.push_fixes.Given as goal

-- the diagnostic so far, with the fixes that are still to come, has all
abbrev pub invariant-loop-fix : goal.invariant-loop-fix
invariant-loop-fix l =
    with_fixes (view l.run) (items_view (drop l.fix-index l.fixes)) (read l.parsed)
    ≡ with_fixes (view l.fn.run) (items_view l.fn.fixes) (read l.initial.parsed)
