-- By the corners in the gutter.
use Rattle.ariadne_picture.proofs.OneReading.StrokesFound.{every-head-agrees, every-end-agrees}
use Rattle.ariadne_picture.proofs.laws.gutter_labels_are_read_in_one_way.Goals as goal

pub returns-clause-heads : goal.returns-clause-heads
returns-clause-heads g c w r infos accepted forward p q h k = every-head-agrees w r infos accepted forward p q h k

pub returns-clause-ends : goal.returns-clause-ends
returns-clause-ends g c w r infos accepted forward p q h k = every-end-agrees w r infos accepted forward p q h k
