use Rattle.std.specs.Prelude.{◌≡◌, ◌++◌, drop, map}
use Rattle.serde_json.specs.View.{items_view}
use Rattle.ariadne_parse.specs.Read.{read}
use Rattle.ariadne_sarif.specs.DocumentParts.{parsed_each}
use Rattle.ariadne_documents.specs.Ruff.{violation_read}
use Rattle.ariadne_documents.proofs.ruff.parsed_by_violations.Given as goal

-- the diagnostics so far and those that are still to come are all
abbrev pub invariant-loop-violation : goal.invariant-loop-violation
invariant-loop-violation l =
    map read l.all.items ++ parsed_each violation_read (items_view (drop l.violation-index l.violations))
    ≡ parsed_each violation_read (items_view l.fn.violations)
