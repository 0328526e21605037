use Rattle.ariadne_base.proofs.Lanes.{high_mask}
use Rattle.ariadne_base.proofs.blocks.marks.high.Goals as goal

-- the comparison is the test, lane by lane
pub returns : goal.returns
returns c = high_mask c.args.block c.fits-block.0
