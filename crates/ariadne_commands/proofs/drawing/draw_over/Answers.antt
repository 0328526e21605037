-- The status tells how the report was written.
use Rattle.std.proofs.Common.{ap}
use Rattle.ariadne_commands.proofs.Writing.{left_by_writing, others_kept}
use Rattle.ariadne_commands.proofs.drawing.draw_over.Goals as goal

pub returns-in-Ok-clause-others : goal.returns-in-Ok-clause-others
returns-in-Ok-clause-others g c = λ q. others_kept _ _ q _ _ _ _ c.write.ensures.grows (ap (λ r. r.labels) c.in-Ok.ensures)

pub returns-in-Ok-clause-left : goal.returns-in-Ok-clause-left
returns-in-Ok-clause-left g c =
    rw (← c.in-Ok.ensures, c.tell_written.ensures) (left_by_writing _ _ _ _ _ _ c.write.result c.write.ensures.written)
