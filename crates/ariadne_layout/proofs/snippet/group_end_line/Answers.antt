use Rattle.std.proofs.Common.{arith}
use Rattle.ariadne_layout.proofs.LinesBounds.{greatest-start, greatest-more, greatest-done}
use Rattle.ariadne_layout.proofs.snippet.group_end_line.Goals as goal

-- all labels are to come
pub loop-info-init : goal.loop-info-init
loop-info-init c = greatest-start c.args.group.now

-- one label less
pub loop-info-preserved : goal.loop-info-preserved
loop-info-preserved c = greatest-more c.args.group.now c.loop-info.info-index _ c.loop-info.last c.max-last.result _ (omega arith) c.max-last.ensures
    c.loop-info.invariant

-- no label is to come
pub returns : goal.returns
returns c = greatest-done c.args.group.now c.loop-info.info-index _ _ (omega arith) c.loop-info.invariant
