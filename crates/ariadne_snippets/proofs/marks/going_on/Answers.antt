use Rattle.std.proofs.Common.{refl}
use Rattle.ariadne_snippets.proofs.Covering.{zip_same}
use Rattle.ariadne_snippets.proofs.marks.going_on.Goals as goal

-- it is still that of its run
pub returns-then-not-is_empty-clause-marks : goal.returns-then-not-is_empty-clause-marks
returns-then-not-is_empty-clause-marks c =
    λ quoted runs all.
    zip_same quoted runs c.args.marks.items 0 _ c.index_mut.result.now c.index_mut.ensures.value refl refl refl all
