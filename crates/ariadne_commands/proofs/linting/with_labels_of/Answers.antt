-- The labels of one offence.
use Rattle.std.proofs.Common.{append_assoc}
use Rattle.ariadne_commands.proofs.linting.with_labels_of.Goals as goal

pub returns-in-Unopened : goal.returns-in-Unopened
returns-in-Unopened c = rw (c.in-Offends.is, c.in-Unopened.is) c.marked.ensures

pub returns-in_ok-builder-in-Mismatched : goal.returns-in_ok-builder-in-Mismatched
returns-in_ok-builder-in-Mismatched c =
    rw (c.in-Offends.is, c.in-Mismatched.is)
    (simp append_assoc at (rw c.in_ok-builder-in-Mismatched.ensures at c.marked-in-Mismatched-2.ensures))

pub returns-in-Unclosed : goal.returns-in-Unclosed
returns-in-Unclosed c = rw (c.in-Offends.is, c.in-Unclosed.is) c.marked-in-Unclosed.ensures
