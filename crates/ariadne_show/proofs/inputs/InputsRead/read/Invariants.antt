use Rattle.std.proofs.Common.{◌≡◌, ◌-◌, length}
use Rattle.ariadne_show.proofs.inputs.InputsRead.read.Given as goal

-- no input is added
abbrev pub invariant-loop-input : goal.invariant-loop-input
invariant-loop-input g l = l.self.inputs ≡ l.initial.self.inputs

-- one input after the other is read to its end
abbrev pub decreases-loop-input : goal.decreases-loop-input
decreases-loop-input g l = length l.self.inputs.now - l.self.at
