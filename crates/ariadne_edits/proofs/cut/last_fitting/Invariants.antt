use Rattle.std.proofs.Common.{◌≡◌, drop}
use Rattle.ariadne_edits.specs.Views.{columns_in, last_fitting}
use Rattle.ariadne_edits.proofs.cut.last_fitting.Given as goal

abbrev pub invariant-loop-count : goal.invariant-loop-count
invariant-loop-count l =
    (l.left ≡ columns_in (drop l.count l.text)) × (last_fitting l.fn.room (drop l.count l.text) ≡ last_fitting l.fn.room l.text)
