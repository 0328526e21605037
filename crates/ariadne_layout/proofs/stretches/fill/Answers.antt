use Rattle.std.proofs.Common.{◌∙◌, ap, option_map}
use Rattle.std.proofs.lemmas.Result.{on_ok_weaker}
use Rattle.ariadne_picture.specs.declared.label_info.LabelInfo.{LabelInfo}
use Rattle.ariadne_layout.specs.Choices.{shown_position}
use Rattle.ariadne_layout.specs.LabelRuns.{seen_at}
use Rattle.ariadne_layout.proofs.stretches.fill.Goals as goal

-- the runs show what the labels do
pub returns-in_ok-runs : goal.returns-in_ok-runs
unfolding shown_position
returns-in_ok-runs c =
    let position = option_map (λ (a : LabelInfo). a.position) in
    on_ok_weaker c.push_label_runs.result
    (λ h k below. h k ∙ ap (λ t. position (seen_at t k)) c.deref.ensures.value ∙ ap position (c.in_ok-runs.ensures.show k below))
    c.push_label_runs.ensures
