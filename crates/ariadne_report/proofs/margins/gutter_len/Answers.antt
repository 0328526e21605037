-- One column more than there are gutter labels, if there are some.
use Rattle.std.proofs.Common.{arith}
use Rattle.ariadne_report.proofs.FrontColumns.{gutter_none, gutter_some}
use Rattle.ariadne_report.proofs.margins.gutter_len.Goals as goal

pub returns-in-0-clause-columns : goal.returns-in-0-clause-columns
returns-in-0-clause-columns c =
    let number = c.number_of_gutter_labels.ensures.number in gutter_none _ (omega (arith, number))

pub returns-in_default-clause-columns : goal.returns-in_default-clause-columns
returns-in_default-clause-columns c =
    gutter_some _ c.number_of_gutter_labels.result c.number_of_gutter_labels.ensures.number (omega arith)
