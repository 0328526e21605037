-- Cell by cell.
use Rattle.ariadne_safe.proofs.SafePictures.{pictures_hide_nothing}
use Rattle.ariadne_safe.proofs.laws.pictures_hide_nothing.Goals as goal

pub returns : goal.returns
returns g c w r infos h = pictures_hide_nothing w r infos h
