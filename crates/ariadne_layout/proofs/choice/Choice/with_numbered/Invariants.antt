-- so far those of the first numbers are considered
use Rattle.std.proofs.Common.{take}
use Rattle.ariadne_layout.specs.Choices.{Considers, numbered}
use Rattle.ariadne_layout.proofs.choice.Choice.with_numbered.Given as goal

abbrev pub invariant-loop-number : goal.invariant-loop-number
invariant-loop-number l = Considers l.fn.self l.choice (numbered l.infos (take l.number-index l.numbers))
