use Rattle.std.specs.Prelude.{◌≡◌, ◌++◌, drop, map}
use Rattle.serde_json.specs.View.{items_view}
use Rattle.ariadne_parse.specs.Members.{flat_items}
use Rattle.ariadne_parse.specs.Read.{read}
use Rattle.ariadne_sarif.specs.SarifLogs.{run_parsed}
use Rattle.ariadne_sarif.proofs.sarif.parsed_by_runs.Given as goal

-- the diagnostics so far and those that are still to come are all
abbrev pub invariant-loop-run : goal.invariant-loop-run
invariant-loop-run l =
    map read l.all.items ++ flat_items run_parsed (items_view (drop l.run-index l.runs))
    ≡ flat_items run_parsed (items_view l.fn.runs)
