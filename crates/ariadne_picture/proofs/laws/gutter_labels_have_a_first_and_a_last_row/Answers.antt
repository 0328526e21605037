use Rattle.ariadne_picture.proofs.Rows.BarCases.{first-before-last}
use Rattle.ariadne_picture.proofs.Rows.GutterLabelRows.{starts-somewhere, ends-somewhere, first-at-source, first-at-arrow, last-at-arrow}
use Rattle.ariadne_picture.proofs.Rows.RowsThere.{first-row-there, last-row-there}
use Rattle.ariadne_picture.proofs.laws.gutter_labels_have_a_first_and_a_last_row.Goals as goal

pub returns-clause-starts : goal.returns-clause-starts
returns-clause-starts c = starts-somewhere

pub returns-clause-ends : goal.returns-clause-ends
returns-clause-ends c = ends-somewhere

pub returns-clause-from_margin : goal.returns-clause-from_margin
returns-clause-from_margin c = first-at-source

pub returns-clause-from_label : goal.returns-clause-from_label
returns-clause-from_label c = first-at-arrow

pub returns-clause-to_label : goal.returns-clause-to_label
returns-clause-to_label c = last-at-arrow

pub returns-clause-first_is_there : goal.returns-clause-first_is_there
returns-clause-first_is_there c = first-row-there

pub returns-clause-last_is_there : goal.returns-clause-last_is_there
returns-clause-last_is_there c = last-row-there

pub returns-clause-first_before_last : goal.returns-clause-first_before_last
returns-clause-first_before_last c = first-before-last
