-- The text that was read is the only source; what can't be read is to blame.
use Rattle.std.proofs.Common.{inr}
use Rattle.ariadne_commands.proofs.Ending.{ended_by_input, over_input}
use Rattle.ariadne_commands.proofs.drawing.draw_input.Goals as goal

pub returns-in-Ok : goal.returns-in-Ok
returns-in-Ok g c =
    let read = c.in-Ok.ensures in
    inr (over_input _ _ _ _ _ _ _ read.text read.read read.lines c.draw_over.ensures.kept c.draw_over.ensures.left)

pub returns-in-Err : goal.returns-in-Err
returns-in-Err g c = rw c.tell_fault.ensures (ended_by_input _ _ _ _ c.in-Err.fault c.in-Err.ensures.refused)
