use Rattle.std.proofs.Common.{length}
use Rattle.ariadne_layout.proofs.LabelVerticals.{AreOfLast}
use Rattle.ariadne_layout.proofs.verticals.Verticals.fill.Given as goal

-- the verticals of the labels that the loop has gone over are held
abbrev pub invariant-loop-label : goal.invariant-loop-label
invariant-loop-label l = AreOfLast l.layout (length l.yielded) l.self
