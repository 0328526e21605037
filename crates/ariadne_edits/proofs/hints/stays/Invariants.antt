use Rattle.std.proofs.Common.{drop}
use Rattle.ariadne_edits.proofs.StayLists.{AreSoFar}
use Rattle.ariadne_edits.proofs.hints.stays.Given as goal

abbrev pub invariant-loop-change : goal.invariant-loop-change
invariant-loop-change l = AreSoFar l.text l.size l.changes (drop l.change-index l.changes) l.at l.to l.back l.stays.items
