use Rattle.ariadne_matchers.proofs.LastLines.{last_more}
use Rattle.ariadne_matchers.proofs.lasts.last.Goals as goal

-- what this line caught counts, or what those before it did
pub loop-caught-preserved : goal.loop-caught-preserved
loop-caught-preserved c =
    last_more c.args.group c.args.lines.now c.loop-caught.caught-index _ c.loop-caught.last c.piece_in.result c.or-last.result
    c.loop-caught-test.true c.or-last.ensures c.piece_in.ensures c.loop-caught.invariant
