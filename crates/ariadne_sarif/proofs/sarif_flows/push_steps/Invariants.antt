use Rattle.std.specs.Prelude.{◌≡◌, ◌+◌, ◌++◌, drop, map}
use Rattle.serde_json.specs.View.{items_view, view}
use Rattle.ariadne_parse.specs.Spans.{seen}
use Rattle.ariadne_sarif.specs.SarifFlows.{step_spans}
use Rattle.ariadne_sarif.proofs.sarif_flows.push_steps.Given as goal

-- the spans so far and those that are still to come are all
abbrev pub invariant-loop-step : goal.invariant-loop-step
invariant-loop-step l = record {
  counted : l.number ≡ l.step-index + 1;
  spans : map seen l.all.items ++ step_spans (view l.run) l.number (items_view (drop l.step-index l.steps))
      ≡ map seen l.initial.all.items ++ step_spans (view l.fn.run) 1 (items_view l.fn.steps);
}
