-- Cell by cell.
use Rattle.ariadne_safe.proofs.SafePictures.{cells_hide_nothing}
use Rattle.ariadne_safe.proofs.laws.cells_hide_nothing.Goals as goal

pub returns : goal.returns
returns g c w r infos h = cells_hide_nothing w r infos h
