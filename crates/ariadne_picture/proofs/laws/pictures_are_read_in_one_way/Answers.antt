-- By the corners in the text, beside what the numbers in the margins and the corners in the gutter give.
use Rattle.ariadne_picture.proofs.OneReading.ReadingsAgree.{every-agree}
use Rattle.ariadne_picture.proofs.laws.pictures_are_read_in_one_way.Goals as goal

pub returns : goal.returns
returns g c w r infos accepted law forward p q h k = every-agree w r infos accepted law forward p q h k
