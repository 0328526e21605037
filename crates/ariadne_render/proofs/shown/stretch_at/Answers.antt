use Rattle.std.proofs.Common.{sym, arith, ◌∙◌}
use Rattle.std.proofs.lemmas.Option.{slice_get_within}
use Rattle.ariadne_render.proofs.ShownRows.{stretch_passed, stretch_reaches}
use Rattle.ariadne_render.proofs.shown.stretch_at.Goals as goal

-- a stretch that ends before the place shows nothing there
pub loop-number-preserved : goal.loop-number-preserved
loop-number-preserved c = λ k h.
    sym (stretch_passed c.args.paints.now c.loop-number.number c.args.place k _ c.loop-number-test.true c.if-paints-number.true h)
    ∙ c.loop-number.invariant k h

-- a stretch that ends behind the place is the one
pub returns-else-paints-number-clause-reaches : goal.returns-else-paints-number-clause-reaches
returns-else-paints-number-clause-reaches c = λ s e.
    stretch_reaches c.args.paints.now c.loop-number.number c.args.place s _ e c.if-paints-number.false

-- behind the last there is none
pub returns-after-loop-number-clause-reaches : goal.returns-after-loop-number-clause-reaches
returns-after-loop-number-clause-reaches c = λ s e.
    let there = slice_get_within c.args.paints.now c.loop-number.number s e in
    omega (arith, there, c.loop-number-test.false)
