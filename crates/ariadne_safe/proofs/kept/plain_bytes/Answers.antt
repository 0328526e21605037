use Rattle.std.proofs.Common.{arith}
use Rattle.ariadne_safe.proofs.PlainBytes.{run_more, run_block}
use Rattle.ariadne_safe.proofs.kept.plain_bytes.Goals as goal

-- the run ends at the first mark of the block
pub returns-then-others-ne0 : goal.returns-then-others-ne0
returns-then-others-ne0 c =
    run_more c.args.layout.first c.args.layout.last c.args.bytes.now c.loop-at.at c.others-others.result c.lowest.result c.loop-at.invariant
    (omega (arith, c.loop-at-test.true, c.loop-at.invariant.fits)) (omega (arith, c.lowest.ensures.bound))
    c.others-others.ensures c.lowest.ensures.below

-- a block without a mark belongs to the run
pub loop-at-preserved : goal.loop-at-preserved
loop-at-preserved c =
    run_block c.args.layout.first c.args.layout.last c.args.bytes.now c.loop-at.at c.others-others.result c.loop-at.invariant
    (omega (arith, c.loop-at-test.true, c.loop-at.invariant.fits)) c.others-others.ensures c.if-others-ne0.false
