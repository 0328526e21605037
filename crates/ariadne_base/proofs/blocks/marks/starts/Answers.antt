use Rattle.ariadne_base.proofs.Lanes.{starts_mask}
use Rattle.ariadne_base.proofs.blocks.marks.starts.Goals as goal

-- the comparison is the test, lane by lane
pub returns : goal.returns
returns c = starts_mask c.args.block c.fits-block
