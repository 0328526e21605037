use Rattle.std.specs.Prelude.{◌≡◌, ◌++◌, drop, map}
use Rattle.serde_json.specs.View.{items_view, view}
use Rattle.ariadne_parse.specs.Members.{flat_items}
use Rattle.ariadne_parse.specs.Read.{read}
use Rattle.ariadne_sarif.specs.SarifLogs.{result_parsed}
use Rattle.ariadne_sarif.proofs.sarif.push_results.Given as goal

-- the diagnostics so far and those that are still to come are all
abbrev pub invariant-loop-it : goal.invariant-loop-it
invariant-loop-it l =
    map read l.all.items ++ flat_items (result_parsed (view l.run)) (items_view (drop l.it-index l.results))
    ≡ map read l.initial.all.items ++ flat_items (result_parsed (view l.fn.run)) (items_view l.fn.results)
