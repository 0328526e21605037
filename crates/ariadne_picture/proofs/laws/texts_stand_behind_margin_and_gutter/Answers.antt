-- The margin and the gutter are in front, and the places of the line follow.
use Rattle.ariadne_picture.proofs.Cells.RowColumns.{row-columns}
use Rattle.ariadne_picture.proofs.laws.texts_stand_behind_margin_and_gutter.Goals as goal

pub returns : goal.returns
returns c t digits l s same = row-columns t digits l s same
