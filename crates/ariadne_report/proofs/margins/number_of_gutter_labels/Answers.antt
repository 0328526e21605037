-- One label more is counted, if it owns a column.
use Rattle.std.proofs.Common.{arith}
use Rattle.ariadne_report.proofs.FrontColumns.{owner_more, owner_none, owners_all}
use Rattle.ariadne_report.proofs.margins.number_of_gutter_labels.Goals as goal
use Rattle.ariadne_report.proofs.margins.number_of_gutter_labels.Goals.{then-owns_gutter_column, else-owns_gutter_column}

pub loop-info-preserved : goal.loop-info-preserved
loop-info-preserved c = elim c.if-owns_gutter_column.branch [
  | then-owns_gutter_column w ↦ record {
    number =
        owner_more c.args.group.now c.loop-info.info-index _ c.loop-info-test.true c.owns_gutter_column.result c.owns_gutter_column.ensures
        c.loop-info.number _ c.loop-info.invariant.number w.if-owns_gutter_column.true w.number-is;
    within = omega arith;
  }
  | else-owns_gutter_column w ↦ record {
    number =
        owner_none c.args.group.now c.loop-info.info-index _ c.loop-info-test.true c.owns_gutter_column.result c.owns_gutter_column.ensures
        c.loop-info.number _ c.loop-info.invariant.number w.if-owns_gutter_column.false w.number-is;
    within = omega arith;
  }
]

pub returns-clause-number : goal.returns-clause-number
returns-clause-number c = owners_all c.args.group.now c.loop-info.number c.loop-info.info-index (omega arith) c.loop-info.invariant.number
