use Rattle.ariadne_edits.proofs.Widths.{fronts_alike}
use Rattle.ariadne_edits.proofs.laws.pairs_are_cut_alike.Goals as goal

pub returns : goal.returns
returns c = fronts_alike
