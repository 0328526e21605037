-- The first fault of a label is the first, since those before it have none.
use Rattle.ariadne_calls.specs.Faults.{label_faults}
use Rattle.ariadne_calls.proofs.Firsts.{handed_on, met}
use Rattle.ariadne_calls.proofs.labels.add_labels.Goals as goal

pub returns-in_err-label_of-clause-err : goal.returns-in_err-label_of-clause-err
returns-in_err-label_of-clause-err c =
    handed_on _ c.from_residual.result _ c.from_residual.ensures.1
    (met (label_faults c.args.sources) c.args.given.now c.loop-number.number _ _ c.loop-number-test.true c.in_err-label_of.ensures.err
    c.loop-number.invariant.same)
