use Rattle.std.proofs.Common.{rules}
use Rattle.ariadne.proofs.Building.{on_err-intro}
use Rattle.ariadne.proofs.builder.ReportBuilder.add_labels.Goals as goal

-- the labels before the refused one stand, as its call left the report as it was
pub returns-in_err-add_label-clause-err : goal.returns-in_err-add_label-clause-err
returns-in_err-add_label-clause-err g c = on_err-intro c.from_residual.result (
  c.loop-added.yielded,
  (
    _,
    _,
    _,
    c.into_iter-added-iterator.ensures.into_iter_gives,
    (
      _,
      c.loop-added.yielded_by,
      c.in-Some.ensures.steps,
    ),
  ),
  search rules,
)
