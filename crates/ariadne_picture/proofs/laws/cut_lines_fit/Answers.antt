-- Parts are widened as long as they fit, and spans are shown where they fit.
use Rattle.ariadne_picture.proofs.Cells.CutLines.{cut-fits}
use Rattle.ariadne_picture.proofs.laws.cut_lines_fit.Goals as goal

pub returns : goal.returns
returns c switches offset labels text = cut-fits switches offset labels text
