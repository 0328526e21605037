-- The fault of a note is the first, since those before it have none.
use Rattle.ariadne_calls.specs.Faults.{note_faults}
use Rattle.ariadne_calls.proofs.Firsts.{handed_on, met}
use Rattle.ariadne_calls.proofs.reports.add_notes.Goals as goal

pub returns-in_err-text-clause-err : goal.returns-in_err-text-clause-err
returns-in_err-text-clause-err c =
    handed_on _ c.from_residual.result _ c.from_residual.ensures.1
    (met note_faults c.args.given.now c.loop-number.number _ _ c.loop-number-test.true c.in_err-text.ensures.err c.loop-number.invariant.same)
