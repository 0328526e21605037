use Rattle.std.proofs.Common.{◌≡◌, ◌+◌, drop}
use Rattle.ariadne_edits.specs.Views.{columns_in}
use Rattle.ariadne_edits.proofs.cut.columns_in.Given as goal

abbrev pub invariant-loop-c : goal.invariant-loop-c
invariant-loop-c l = l.columns + columns_in (drop l.c-index l.text) ≡ columns_in l.text
