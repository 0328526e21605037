use Rattle.std.proofs.Common.{◌∙◌, refl, sym}
use Rattle.ariadne_matching.specs.HandedOver.{last_taken_below}
use Rattle.ariadne_matching.proofs.HandedLines.{last_before, last_here}
use Rattle.ariadne_matching.proofs.handing.last_taken.Goals as goal
use Rattle.ariadne_matching.proofs.handing.last_taken.Goals.{then-takes_in, else-takes_in}

-- at first none is
pub loop-place-init : goal.loop-place-init
unfolding last_taken_below
loop-place-init c = refl

-- a line is, or the last one stays
pub loop-place-preserved : goal.loop-place-preserved
loop-place-preserved c =
    let fit = c.args.fit.now in
    let place = c.loop-place.place in
    elim c.if-takes_in.branch [
      | then-takes_in w ↦ w.last-is ∙ sym (last_here fit place (sym c.takes_in.ensures ∙ w.if-takes_in.true))
      | else-takes_in w ↦ w.last-is ∙ c.loop-place.invariant ∙ sym (last_before fit place (sym c.takes_in.ensures ∙ w.if-takes_in.false))
    ]
