use Rattle.ariadne_parse.proofs.Ways.{ways_done}
use Rattle.ariadne_parse.proofs.proposals.ways_of.Goals as goal

-- all are
pub returns : goal.returns
returns c =
    ways_done c.args.changes.now c.loop-change.change-index c.loop-change.ways.items c.loop-change-test.false
    c.loop-change.invariant
