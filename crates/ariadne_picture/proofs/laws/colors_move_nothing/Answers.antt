-- In cells and in bytes.
use Rattle.ariadne_picture.proofs.Variants.ColorsMoveNothing.{colors-move-nothing}
use Rattle.ariadne_picture.proofs.laws.colors_move_nothing.Goals as goal

pub returns : goal.returns
returns g c w r infos = colors-move-nothing w r infos
