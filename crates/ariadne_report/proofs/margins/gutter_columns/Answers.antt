-- Compact pictures have one cell a column, and others two.
use Rattle.std.proofs.Common.{refl}
use Rattle.ariadne_report.specs.DrawnGroups.{gutter_sheet}
use Rattle.ariadne_report.proofs.FrontColumns.{compact_columns, gutter_is, wide_columns}
use Rattle.ariadne_report.proofs.margins.gutter_columns.Goals as goal

pub returns-then-switches-clause-columns : goal.returns-then-switches-clause-columns
returns-then-switches-clause-columns c =
    let s = gutter_sheet c.args.switches.now c.args.group.now in
    compact_columns s c.args.switches.now c.gutter_len-columns.result (gutter_is s c.gutter_len-columns.result c.gutter_len-columns.ensures.columns)
    refl c.if-switches.true

pub returns-else-switches-clause-columns : goal.returns-else-switches-clause-columns
returns-else-switches-clause-columns c =
    let s = gutter_sheet c.args.switches.now c.args.group.now in
    wide_columns s c.args.switches.now c.gutter_len-columns.result (gutter_is s c.gutter_len-columns.result c.gutter_len-columns.ensures.columns)
    refl c.if-switches.false
