-- A run over files ends as they make it, or as a fault does.
use Rattle.std.proofs.Common.{sym, ◌∙◌}
use Rattle.ariadne_commands.proofs.LintEnding.{ended_by_fault, ended_over, ended_whole}
use Rattle.ariadne_commands.proofs.linting.lint.Goals as goal

pub returns-in-Ok : goal.returns-in-Ok
returns-in-Ok g c = ended_over _ c.args.words.now _ _ _ (sym c.is_empty.ensures ∙ c.if-is_empty.false) (ended_whole _ _ _ _ c.in-Ok.ensures)

pub returns-in-Err : goal.returns-in-Err
returns-in-Err g c =
    rw c.tell_fault-in-Err.ensures
    (ended_over _ c.args.words.now _ _ _ (sym c.is_empty.ensures ∙ c.if-is_empty.false) (ended_by_fault _ _ _ c.in-Err.fault c.in-Err.ensures))
