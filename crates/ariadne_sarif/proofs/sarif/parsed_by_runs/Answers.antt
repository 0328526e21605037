-- A run adds its diagnostics to those so far.
use Rattle.std.proofs.Common.{◌∙◌, ◌++◌, ap, refl}
use Rattle.std.specs.Prelude.{map}
use Rattle.serde_json.specs.View.{items_view, view}
use Rattle.ariadne_parse.specs.Members.{flat_items}
use Rattle.ariadne_parse.specs.Read.{read}
use Rattle.ariadne_parse.proofs.Loops.{all_made, one_more}
use Rattle.ariadne_sarif.specs.SarifLogs.{result_parsed, run_parsed}
use Rattle.ariadne_sarif.proofs.sarif.parsed_by_runs.Goals as goal

pub loop-run-preserved : goal.loop-run-preserved
loop-run-preserved c =
    let run = view c.run-item.result in
    one_more (λ l. flat_items run_parsed (items_view l)) (λ l. flat_items run_parsed (items_view l)) c.args.runs.now
    c.loop-run.run-index c.run-item.result (map read c.loop-run.all.items) (run_parsed run)
    (map read c.push_results.new.all.items) _ c.loop-run-test.true c.run-item.is refl
    (c.in_ok-push_results.ensures
    ∙ ap (λ results. map read c.loop-run.all.items ++ flat_items (result_parsed run) results) c.items.ensures)
    c.loop-run.invariant

pub returns : goal.returns
returns c =
    all_made (λ l. flat_items run_parsed (items_view l)) c.args.runs.now c.loop-run.run-index _ _ c.loop-run-test.false refl
    c.loop-run.invariant
