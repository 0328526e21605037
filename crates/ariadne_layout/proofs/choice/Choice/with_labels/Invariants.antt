-- so far the first labels are considered
use Rattle.std.proofs.Common.{take}
use Rattle.ariadne_layout.specs.Choices.{Considers, infos_of}
use Rattle.ariadne_layout.proofs.choice.Choice.with_labels.Given as goal

abbrev pub invariant-loop-label : goal.invariant-loop-label
invariant-loop-label l = Considers l.fn.self l.choice (infos_of (take l.label-index l.labels))
