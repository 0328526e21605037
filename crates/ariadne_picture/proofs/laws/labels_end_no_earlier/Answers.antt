use Rattle.ariadne_picture.proofs.Labels.Accepted.{drawn-rise, group-gutter-label}
use Rattle.ariadne_picture.proofs.laws.labels_end_no_earlier.Goals as goal

pub returns-clause-drawn : goal.returns-clause-drawn
returns-clause-drawn g c w r infos accepted = drawn-rise w r infos accepted

pub returns-clause-gutter_labels : goal.returns-clause-gutter_labels
returns-clause-gutter_labels g c same_source labels s k i a = group-gutter-label same_source labels k s i a
