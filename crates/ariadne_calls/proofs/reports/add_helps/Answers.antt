-- The fault of a help is the first, since those before it have none.
use Rattle.ariadne_calls.specs.Faults.{help_faults}
use Rattle.ariadne_calls.proofs.Firsts.{handed_on, met}
use Rattle.ariadne_calls.proofs.reports.add_helps.Goals as goal

pub returns-in_err-text-clause-err : goal.returns-in_err-text-clause-err
returns-in_err-text-clause-err c =
    handed_on _ c.from_residual.result _ c.from_residual.ensures.1
    (met help_faults c.args.given.now c.loop-number.number _ _ c.loop-number-test.true c.in_err-text.ensures.err c.loop-number.invariant.same)
