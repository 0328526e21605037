use Rattle.ariadne_color.proofs.Turns.{rises_evenly}
use Rattle.ariadne_color.proofs.color.generator.numbers_rise_evenly.Goals as goal

-- by induction on the number of calls
pub returns : goal.returns
returns c = rises_evenly
