use Rattle.ariadne_matching.specs.SettledLines.{none}
use Rattle.ariadne_matching.proofs.Settled.{settled_trans}
use Rattle.ariadne_matching.proofs.settling.MatchedLines.settle.Goals as goal

-- nothing yet
pub loop-init : goal.loop-init
loop-init g c = none

-- the first lines that wait
pub loop-preserved : goal.loop-preserved
loop-preserved g c = settled_trans c.loop.invariant c.in_ok-settle_first.ensures
