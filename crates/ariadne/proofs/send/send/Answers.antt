-- A turn appends what the writer took.
use Rattle.std.proofs.Common.{arith, length-take, length-drop}
use Rattle.std.proofs.lemmas.List.{take_rest}
use Rattle.ariadne.proofs.Sending.{Appends-more}
use Rattle.ariadne.proofs.send.send.Goals as goal

pub loop-sent-preserved : goal.loop-sent-preserved
loop-sent-preserved g c =
    let told = c.in_ok-sent.ensures.1 in
    record {
      within = omega (arith, simp (length-take, length-drop) at (rw told at c.write.ensures.bound));
      appended = Appends-more _ _ _ _ _ _ c.loop-sent.invariant.appended (rw take_rest at (rw told at c.write.ensures.bytes));
    }
