use Rattle.ariadne_edits.proofs.Widths.{difference_shown}
use Rattle.ariadne_edits.proofs.laws.first_differences_are_shown.Goals as goal

pub returns : goal.returns
returns c = difference_shown
