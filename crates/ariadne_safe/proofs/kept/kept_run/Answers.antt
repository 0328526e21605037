use Rattle.std.proofs.Common.{◌≡◌, ◌≢◌, ◌<◌, length, subst, arith}
use Rattle.std.specs.Str.{chars}
use Rattle.std.proofs.lemmas.List.{length-drop}
use Rattle.ariadne_safe.specs.Visible.{visible_text}
use Rattle.ariadne_safe.specs.Kept.{IsKept}
use Rattle.ariadne_safe.proofs.KeptTexts.{kept_none, kept_more, other_behind}
use Rattle.ariadne_safe.proofs.kept.kept_run.Goals as goal

-- nothing is passed yet
pub loop-step-init : goal.loop-step-init
loop-step-init c = (kept_none c.args.kind c.args.text.now c.utf8.text, c.kept_step-step.ensures.kept, c.kept_step-step.ensures.end)

-- one step more
pub loop-step-preserved : goal.loop-step-preserved
loop-step-preserved c =
    let run = c.loop-step.invariant in
    let step = c.kept_step-step-in-loop-step.result in
    let behind = subst (λ bs. IsKept c.args.kind bs step × (step ≡ 0 → 0 < length bs → visible_text c.args.kind (chars bs) ≢ chars bs))
    c.range_from.ensures.value (c.kept_step-step-in-loop-step.ensures.kept, c.kept_step-step-in-loop-step.ensures.end) in
    (kept_more c.args.kind c.args.text.now c.loop-step.kept c.loop-step.step c.utf8.text run.0 run.1, behind.0, behind.1)

-- before the end it is over where a sign stands
pub returns-clause-end : goal.returns-clause-end
returns-clause-end c less =
    let run = c.loop-step.invariant in
    let behind = length-drop c.loop-step.kept c.args.text.now in
    other_behind c.args.kind c.args.text.now c.loop-step.kept c.utf8.text run.0
    (run.2 (omega (arith, c.loop-step-test.false)) (omega (arith, behind, less)))
