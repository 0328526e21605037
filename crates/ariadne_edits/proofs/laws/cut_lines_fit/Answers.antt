use Rattle.ariadne_edits.proofs.Widths.{line_fits}
use Rattle.ariadne_edits.proofs.laws.cut_lines_fit.Goals as goal

pub returns : goal.returns
returns c = line_fits
