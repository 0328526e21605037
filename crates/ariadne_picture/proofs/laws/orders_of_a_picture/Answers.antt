use Rattle.ariadne_picture.proofs.Labels.Orders.{by-order, by-length, nearer-margin, line-labels-order, preferred}
use Rattle.ariadne_picture.proofs.laws.orders_of_a_picture.Goals as goal

pub returns-clause-labels : goal.returns-clause-labels
returns-clause-labels c = by-order

pub returns-clause-lengths : goal.returns-clause-lengths
returns-clause-lengths c = by-length

pub returns-clause-line_labels : goal.returns-clause-line_labels
returns-clause-line_labels c = line-labels-order

pub returns-clause-margin_label : goal.returns-clause-margin_label
returns-clause-margin_label c = nearer-margin

pub returns-clause-underline : goal.returns-clause-underline
returns-clause-underline c = preferred
