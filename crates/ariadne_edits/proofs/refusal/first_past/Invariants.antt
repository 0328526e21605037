use Rattle.std.proofs.Common.{◌≡◌, drop}
use Rattle.ariadne_edits.specs.Refusals.{first, is_past}
use Rattle.ariadne_edits.proofs.refusal.first_past.Given as goal

abbrev pub invariant-loop-change : goal.invariant-loop-change
invariant-loop-change l = first (is_past l.size) l.changes ≡ first (is_past l.size) (drop l.change-index l.changes)
