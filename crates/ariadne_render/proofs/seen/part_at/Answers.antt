use Rattle.std.proofs.Common.{arith}
use Rattle.std.proofs.lemmas.Option.{slice_get_within}
use Rattle.ariadne_render.proofs.SeenPlaces.{part-reaches, passed-more}
use Rattle.ariadne_render.proofs.seen.part_at.Goals as goal

-- a part that ends by the place is passed
pub loop-number-preserved : goal.loop-number-preserved
loop-number-preserved c = λ h. passed-more c.args.parts.now c.loop-number.number c.args.place _ c.loop-number-test.true c.if-parts-number.true

-- one that ends behind the place is not
pub returns-else-parts-number-clause-reaches : goal.returns-else-parts-number-clause-reaches
returns-else-parts-number-clause-reaches c = λ p e. part-reaches c.args.parts.now c.loop-number.number c.args.place p _ e c.if-parts-number.false

-- behind the last there is none
pub returns-after-loop-number-clause-reaches : goal.returns-after-loop-number-clause-reaches
returns-after-loop-number-clause-reaches c = λ p e.
    let there = slice_get_within c.args.parts.now c.loop-number.number p e in
    omega (arith, there, c.loop-number-test.false)
