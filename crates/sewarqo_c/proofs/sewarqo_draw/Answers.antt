-- What the call leaves by its ending is what C sees by numbers.
use Rattle.ariadne_calls.proofs.Endings.{numbered}
use Rattle.sewarqo_c.proofs.sewarqo_draw.Goals as goal

pub returns : goal.returns
returns c = rw (c.len.ensures, c.count.ensures, c.status.ensures) (numbered _ _ _ _ _ _ _ c.draw-ending.ensures)
