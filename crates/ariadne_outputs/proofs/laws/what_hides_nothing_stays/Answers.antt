use Rattle.ariadne_outputs.proofs.PieceLemmas.{clear_stays_whole}
use Rattle.ariadne_outputs.proofs.laws.what_hides_nothing_stays.Goals as goal

pub returns : goal.returns
returns c = clear_stays_whole
