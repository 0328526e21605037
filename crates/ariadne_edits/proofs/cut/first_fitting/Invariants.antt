use Rattle.std.proofs.Common.{◌≡◌, ◌++◌, drop, take}
use Rattle.ariadne_edits.specs.Views.{first_fitting}
use Rattle.ariadne_edits.proofs.cut.first_fitting.Given as goal

abbrev pub invariant-loop-count : goal.invariant-loop-count
invariant-loop-count l = take l.count l.text ++ first_fitting l.left (drop l.count l.text) ≡ first_fitting l.fn.room l.text
