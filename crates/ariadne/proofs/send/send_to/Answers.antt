-- A turn appends what the sink took, and leaves it as one that has not failed.
use Rattle.std.proofs.Common.{◌∙◌, arith, length-take, length-drop}
use Rattle.std.proofs.lemmas.List.{take_rest}
use Rattle.ariadne.proofs.Sending.{Appends-more, stays}
use Rattle.ariadne.proofs.send.send_to.Goals as goal

pub loop-sent-preserved : goal.loop-sent-preserved
loop-sent-preserved g c =
    let told = c.in_ok-sent.ensures.1 in
    record {
      within = omega (arith, simp (length-take, length-drop) at (rw told at c.take.ensures.bound));
      failed = (rw told at c.take.ensures.failed) ∙ stays _ c.in_ok-sent.field-0 _ (λ e. omega (arith, e, c.in_ok-sent.ensures.0))
          ∙ c.loop-sent.invariant.failed;
      appended = Appends-more _ _ _ _ _ _ c.loop-sent.invariant.appended (rw take_rest at (rw told at c.take.ensures.bytes));
    }
