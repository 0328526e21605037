use Rattle.ariadne_base.proofs.Lanes.{wide_marks}
use Rattle.ariadne_base.proofs.blocks.marks.wide_separators.Goals as goal

-- the comparisons are the test, lane by lane
pub returns : goal.returns
returns c k l = wide_marks c.args.first c.args.second c.args.third c.fits-first.0 c.fits-second.0 c.fits-third k l
