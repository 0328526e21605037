use Rattle.ariadne_outputs.proofs.PieceLemmas.{line_leaves_plain}
use Rattle.ariadne_outputs.proofs.laws.a_line_leaves_a_terminal_as_it_was.Goals as goal

pub returns : goal.returns
returns c = line_leaves_plain
