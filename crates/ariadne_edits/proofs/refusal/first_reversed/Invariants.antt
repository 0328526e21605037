use Rattle.std.proofs.Common.{◌≡◌, drop}
use Rattle.ariadne_edits.specs.Refusals.{first, is_reversed}
use Rattle.ariadne_edits.proofs.refusal.first_reversed.Given as goal

abbrev pub invariant-loop-change : goal.invariant-loop-change
invariant-loop-change l = first is_reversed l.changes ≡ first is_reversed (drop l.change-index l.changes)
