use Rattle.ariadne_base.proofs.Lanes.{controls_mask}
use Rattle.ariadne_base.proofs.blocks.marks.controls.Goals as goal

-- the comparison is the test, lane by lane
pub returns : goal.returns
returns c = controls_mask c.args.block c.fits-block
