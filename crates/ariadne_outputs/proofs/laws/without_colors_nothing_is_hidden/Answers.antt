use Rattle.ariadne_outputs.proofs.PieceLemmas.{bare_is_clear}
use Rattle.ariadne_outputs.proofs.laws.without_colors_nothing_is_hidden.Goals as goal

pub returns : goal.returns
returns c = bare_is_clear
