-- The number that is read is the one that is shown, or there is none.
use Rattle.ariadne_show.proofs.entries.context_of.Goals as goal

pub returns : goal.returns
returns c = (c.number_of.result, c.number_of.ensures, c.unwrap_or.ensures)
