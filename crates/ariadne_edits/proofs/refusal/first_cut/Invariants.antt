use Rattle.std.proofs.Common.{◌≡◌, drop}
use Rattle.ariadne_edits.specs.Refusals.{first, cuts}
use Rattle.ariadne_edits.proofs.refusal.first_cut.Given as goal

abbrev pub invariant-loop-change : goal.invariant-loop-change
invariant-loop-change l = first (cuts l.counts l.text) l.changes ≡ first (cuts l.counts l.text) (drop l.change-index l.changes)
