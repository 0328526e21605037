-- The first word is the message, and the others ask for the labels.
use Rattle.std.proofs.Common.{refl}
use Rattle.ariadne_commands.proofs.words.read_behind.Goals as goal

pub returns : goal.returns
returns c = rw (c.in-Some.ensures.cases.0, c.in_ok-labels.ensures, c.as_str.ensures.value) refl
