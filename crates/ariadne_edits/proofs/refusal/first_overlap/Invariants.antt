use Rattle.std.proofs.Common.{◌≡◌, drop}
use Rattle.ariadne_edits.specs.Refusals.{first_overlap}
use Rattle.ariadne_edits.proofs.refusal.first_overlap.Given as goal

abbrev pub invariant-loop-change : goal.invariant-loop-change
invariant-loop-change l = first_overlap 0 l.changes ≡ first_overlap l.at (drop l.change-index l.changes)
