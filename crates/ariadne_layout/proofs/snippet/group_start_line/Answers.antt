use Rattle.std.proofs.Common.{arith}
use Rattle.ariadne_layout.proofs.LinesBounds.{least-start, least-more, least-done}
use Rattle.ariadne_layout.proofs.snippet.group_start_line.Goals as goal

-- all labels are to come
pub loop-info-init : goal.loop-info-init
loop-info-init c = record { bound = omega arith; least = least-start _ _ c.group_end_line-first.ensures }

-- one label less
pub loop-info-preserved : goal.loop-info-preserved
loop-info-preserved c = record {
  bound = omega arith;
  least = least-more _ c.args.group.now c.loop-info.info-index _ c.loop-info.first c.min-first.result _ (omega arith) c.min-first.ensures
      c.loop-info.invariant.least;
}

-- no label is to come
pub returns : goal.returns
returns c = least-done _ c.args.group.now c.loop-info.info-index _ _ (omega arith) c.loop-info.invariant.bound c.loop-info.invariant.least
