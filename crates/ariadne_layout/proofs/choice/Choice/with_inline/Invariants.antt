-- so far those of the first labels are considered that lie within the line
use Rattle.std.proofs.Common.{take}
use Rattle.ariadne_layout.specs.Choices.{Considers, inline_infos}
use Rattle.ariadne_layout.proofs.choice.Choice.with_inline.Given as goal

abbrev pub invariant-loop-label : goal.invariant-loop-label
invariant-loop-label l = Considers l.fn.self l.choice (inline_infos (take l.label-index l.labels))
