-- By the numbers in the margins.
use Rattle.ariadne_picture.proofs.OneReading.StrokesFound.{every-line-agrees}
use Rattle.ariadne_picture.proofs.laws.lines_are_found_in_one_way.Goals as goal

pub returns : goal.returns
returns g c w r infos accepted forward p q h k = every-line-agrees w r infos accepted forward p q h k
