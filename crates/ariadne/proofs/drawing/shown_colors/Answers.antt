-- The colours so far, and one more.
use Rattle.std.proofs.Common.{◌∙◌, ◌++◌, ◌∷◌, [], ap, sym}
use Rattle.std.proofs.lemmas.List.{map_more}
use Rattle.ariadne_picture.specs.Report.{LabelFields}
use Rattle.ariadne.proofs.drawing.shown_colors.Goals as goal

pub loop-label-preserved : goal.loop-label-preserved
loop-label-preserved g c =
    let more = map_more (λ (label : LabelFields _). label.color) c.deref-label-items.result.now c.loop-label.label-index c.label-item.result
    c.loop-label-test.true in
    let shown = c.color.ensures ∙ ap (λ (label : LabelFields _). label.color) c.label-item.is in
    c.in_ok-push.ensures.items ∙ (λ j. c.loop-label.invariant j ++ shown j ∷ []) ∙ sym more
