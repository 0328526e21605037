use Rattle.ariadne_picture.proofs.Cells.GutterStrokes.{shows-head, shows-corner, shows-beside-line, shows-beside-hidden, shows-alternate}
use Rattle.ariadne_picture.proofs.Cells.GutterStrokes.{shows-arrow, shows-outside}
use Rattle.ariadne_picture.proofs.laws.gutter_columns_show_their_strokes.Goals as goal

pub returns-clause-head : goal.returns-clause-head
returns-clause-head c s i a m = shows-head s i a m

pub returns-clause-corner : goal.returns-clause-corner
returns-clause-corner c s i a m = shows-corner s i a m

pub returns-clause-beside_a_line : goal.returns-clause-beside_a_line
returns-clause-beside_a_line c s i l a m = shows-beside-line s i a m l

pub returns-clause-beside_hidden_lines : goal.returns-clause-beside_hidden_lines
returns-clause-beside_hidden_lines c s i l a m = shows-beside-hidden s i a m l

pub returns-clause-in_alternate_rows : goal.returns-clause-in_alternate_rows
returns-clause-in_alternate_rows c s i l r a m = shows-alternate s i a m l r

pub returns-clause-in_arrow_rows : goal.returns-clause-in_arrow_rows
returns-clause-in_arrow_rows c s i l r a m = shows-arrow s i a m l r

pub returns-clause-outside : goal.returns-clause-outside
returns-clause-outside c s i a x m = shows-outside s i a m x
