-- A step may add a span to those so far, and the next one has the next number.
use Rattle.std.proofs.Common.{◌≡◌, ◌+◌, ◌∙◌, ◌++◌, ap, arith, refl, sym, append-nil}
use Rattle.std.specs.Option.{option_to_list}
use Rattle.serde_json.specs.View.{items_view, view}
use Rattle.ariadne_parse.specs.Spans.{seen}
use Rattle.ariadne_parse.proofs.Loops.{all_made, one_perhaps}
use Rattle.ariadne_sarif.specs.SarifFlows.{step_span, step_spans}
use Rattle.ariadne_sarif.proofs.sarif_flows.push_steps.Goals as goal
use Rattle.ariadne_sarif.proofs.sarif_flows.push_steps.Goals.{in-Some+in_ok-push, in_default}

pub loop-step-preserved : goal.loop-step-preserved
loop-step-preserved c =
    let items = c.loop-step.all.items in
    let run = view c.args.run.now in
    let number = c.loop-step.number in
    let grown : c.match-branch-2.all.items ≡ items ++ option_to_list c.in_ok-span.field-0 =
    elim c.match-branch-2.branch [
      | in-Some+in_ok-push w ↦
          ap (λ v. v.items) w.all-is ∙ w.in_ok-push.ensures.items ∙ ap (λ o. items ++ option_to_list o) (sym w.in-Some.is)
      | in_default w ↦
          ap (λ v. v.items) w.all-is ∙ sym (append-nil items) ∙ ap (λ o. items ++ option_to_list o) (sym w.in_default.is)
    ] in
    record {
      counted = ap (λ n. n + 1) c.loop-step.invariant.counted;
      spans = one_perhaps (λ l. step_spans run number (items_view l)) (λ l. step_spans run (number + 1) (items_view l)) seen
          c.args.steps.now c.loop-step.step-index c.step-item.result items c.match-branch-2.all.items c.in_ok-span.field-0
          (step_span run number (view c.step-item.result)) _ c.loop-step-test.true c.step-item.is refl c.in_ok-span.ensures grown
          c.loop-step.invariant.spans;
    }

pub returns : goal.returns
returns c =
    all_made (λ l. step_spans (view c.args.run.now) c.loop-step.number (items_view l)) c.args.steps.now c.loop-step.step-index _ _
    c.loop-step-test.false refl c.loop-step.invariant.spans
