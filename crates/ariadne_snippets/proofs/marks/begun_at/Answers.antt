use Rattle.std.proofs.Common.{refl, rules}
use Rattle.ariadne_snippets.proofs.Covering.{zip_begun}
use Rattle.ariadne_snippets.proofs.marks.begun_at.Goals as goal

-- it is still that of its run
pub returns-then-is_before-clause-marks : goal.returns-then-is_before-clause-marks
returns-then-is_before-clause-marks c =
    λ quoted runs all.
    zip_begun quoted runs c.args.marks.items c.args.place _ c.index.result.now c.index_mut.result.now (search rules)
    c.index.ensures c.index_mut.ensures.value (c.is_before.ensures c.if-is_before.true) refl refl all
