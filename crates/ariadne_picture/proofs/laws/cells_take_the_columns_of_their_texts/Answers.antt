-- Piece by piece.
use Rattle.ariadne_picture.proofs.Sent.CellColumns.{columns-of-texts}
use Rattle.ariadne_picture.proofs.laws.cells_take_the_columns_of_their_texts.Goals as goal

pub returns : goal.returns
returns g c w r infos = columns-of-texts w r infos
