-- What the call leaves by its ending is what C sees by numbers.
use Rattle.ariadne_calls.proofs.Suggestions.{numbered}
use Rattle.sewarqo_c.proofs.sewarqo_suggest.Goals as goal

pub returns : goal.returns
returns c = rw (c.len.ensures, c.count.ensures, c.status.ensures) (numbered _ _ _ _ c.suggest-told.ensures)
