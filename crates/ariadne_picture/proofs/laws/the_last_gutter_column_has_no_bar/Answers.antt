use Rattle.ariadne_picture.proofs.Cells.GutterStrokes.{shows-last}
use Rattle.ariadne_picture.proofs.laws.the_last_gutter_column_has_no_bar.Goals as goal

pub returns : goal.returns
returns c = shows-last
