use Rattle.ariadne_matching.specs.SettledLines.{AreSettled}
use Rattle.ariadne_matching.proofs.settling.MatchedLines.settle.Given as goal

-- lines wait no more, and what stands for them is ready
abbrev pub invariant-loop : goal.invariant-loop
invariant-loop g l = AreSettled l.initial.self.waiting.items l.initial.self.ready.items l.self.waiting.items l.self.ready.items
