use Rattle.ariadne_outputs.proofs.PieceLemmas.{pieces_are_line}
use Rattle.ariadne_outputs.proofs.laws.pieces_make_up_the_line.Goals as goal

pub returns : goal.returns
returns c = pieces_are_line
