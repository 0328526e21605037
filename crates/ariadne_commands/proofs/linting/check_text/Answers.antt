-- An offence lies within its text, of which no offset is past what a number holds.
use Rattle.std.proofs.Common.{◌≤◌, length, chars, arith}
use Rattle.ariadne_commands.proofs.Bounds.{length-chars, offence_forward, offence_within}
use Rattle.ariadne_commands.proofs.linting.check_text.Goals as goal

pub returns-in-Some-clause-forward : goal.returns-in-Some-clause-forward
returns-in-Some-clause-forward c = offence_forward _ _ (rw c.in-Some.is at c.in_ok-offence.ensures)

pub returns-in-Some-clause-fits : goal.returns-in-Some-clause-fits
returns-in-Some-clause-fits c =
    let bytes : length (chars c.args.text.now) ≤ length c.args.text.now = length-chars _ c.utf8.text in
    let within = offence_within (chars c.args.text.now) c.in-Some.offence (rw c.in-Some.is at c.in_ok-offence.ensures) in
    omega arith
