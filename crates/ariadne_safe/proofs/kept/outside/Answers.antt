use Rattle.ariadne_safe.proofs.PlainBytes.{outside_mask}
use Rattle.ariadne_safe.proofs.kept.outside.Goals as goal

-- the comparison is the test, lane by lane
pub returns : goal.returns
returns c = outside_mask c.args.block c.args.first c.args.last c.fits-block c.requires c.ranges.last.fits
