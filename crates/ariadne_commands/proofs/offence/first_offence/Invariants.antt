-- the brackets that are open behind the characters so far
use Rattle.std.proofs.Common.{length, take, reverse}
use Rattle.std.specs.Prelude.{chars}
use Rattle.ariadne_commands.proofs.Stacks.{IsOpen}
use Rattle.ariadne_commands.proofs.offence.first_offence.Given as goal

abbrev pub invariant-loop-offset : goal.invariant-loop-offset
invariant-loop-offset l = IsOpen (reverse l.opened.items) (take (length l.yielded) (chars l.text))
