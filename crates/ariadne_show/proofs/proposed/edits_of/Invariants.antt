use Rattle.std.specs.Prelude.{take}
use Rattle.std.specs.List.{AllZip}
use Rattle.ariadne_show.specs.DrawnProposals.{IsEdit}
use Rattle.ariadne_show.proofs.proposed.edits_of.Given as goal

-- the changes that are passed have their edits
abbrev pub invariant-loop-change : goal.invariant-loop-change
invariant-loop-change l = AllZip (IsEdit l.held l.proposal) (take l.change-index l.changes) l.edits.items
