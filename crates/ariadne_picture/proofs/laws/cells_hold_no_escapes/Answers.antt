-- Piece by piece.
use Rattle.ariadne_picture.proofs.Variants.PlainTexts.{no-cell-escapes}
use Rattle.ariadne_picture.proofs.laws.cells_hold_no_escapes.Goals as goal

pub returns : goal.returns
returns g c w r infos none = no-cell-escapes w r infos none
