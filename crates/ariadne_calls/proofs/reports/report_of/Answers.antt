-- What is refused first is first, since what was read before has no fault.
use Rattle.ariadne_calls.proofs.Firsts.{handed_on, first_in_labels, first_in_helps}
use Rattle.ariadne_calls.proofs.reports.report_of.Goals as goal

pub returns-in_err-add_labels-clause-err : goal.returns-in_err-add_labels-clause-err
returns-in_err-add_labels-clause-err c =
    handed_on _ c.from_residual-in_err-add_labels.result _ c.from_residual-in_err-add_labels.ensures.1
    (first_in_labels c.args.sources c.args.given.now _ c.in_ok-builder.ensures.sound c.in_err-add_labels.ensures.err)

pub returns-in_err-add_helps-clause-err : goal.returns-in_err-add_helps-clause-err
returns-in_err-add_helps-clause-err c =
    handed_on _ c.from_residual-in_err-add_helps.result _ c.from_residual-in_err-add_helps.ensures.1
    (first_in_helps c.args.sources c.args.given.now _ c.in_ok-builder.ensures.sound c.in_ok-add_labels.ensures.sound
    c.in_err-add_helps.ensures.err)
