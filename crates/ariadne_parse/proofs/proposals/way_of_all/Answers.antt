use Rattle.ariadne_parse.proofs.Ways.{way_done}
use Rattle.ariadne_parse.proofs.proposals.way_of_all.Goals as goal

-- all are
pub returns : goal.returns
returns c =
    way_done c.args.changes.now c.loop-change.change-index c.loop-change.way.items c.loop-change-test.false c.loop-change.invariant
