use Rattle.std.proofs.Common.{◌≡◌, ◌+◌, drop}
use Rattle.ariadne_edits.specs.Views.{common_len}
use Rattle.ariadne_edits.proofs.cut.common_len.Given as goal

abbrev pub invariant-loop-count : goal.invariant-loop-count
invariant-loop-count l = l.count + common_len (drop l.count l.text) (drop l.count l.other) ≡ common_len l.text l.other
