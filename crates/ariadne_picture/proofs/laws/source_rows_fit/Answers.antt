-- A line that is cut fits, and one that isn't is short.
use Rattle.ariadne_picture.proofs.Cells.RowColumns.{row-fits}
use Rattle.ariadne_picture.proofs.laws.source_rows_fit.Goals as goal

pub returns : goal.returns
returns c t digits l s same some = row-fits t digits l s same some
