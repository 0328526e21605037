use Rattle.std.proofs.Common.{rules}
use Rattle.ariadne.proofs.Building.{on_err-intro}
use Rattle.ariadne.proofs.builder.ReportBuilder.with_notes.Goals as goal

-- the notes before the refused one stand, as its call left the report as it was
pub returns-in_err-add_note-clause-err : goal.returns-in_err-add_note-clause-err
returns-in_err-add_note-clause-err g c = on_err-intro c.from_residual.result (
  c.loop-text.yielded,
  (
    _,
    _,
    _,
    c.into_iter-text-iterator.ensures.into_iter_gives,
    (
      _,
      c.loop-text.yielded_by,
      c.in-Some.ensures.steps,
    ),
  ),
  search rules,
)
