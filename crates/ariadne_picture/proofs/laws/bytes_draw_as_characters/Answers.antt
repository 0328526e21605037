-- By acceptance, and by the group headers.
use Rattle.ariadne_picture.proofs.Variants.CharLabels.{bytes-draw}
use Rattle.ariadne_picture.proofs.laws.bytes_draw_as_characters.Goals as goal

pub returns : goal.returns
returns g c w r infos accepted law = bytes-draw w r infos accepted law
