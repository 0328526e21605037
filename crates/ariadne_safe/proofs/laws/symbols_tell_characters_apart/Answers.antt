-- A symbol gives its character back.
use Rattle.ariadne_safe.proofs.VisibleLaws.{symbols_tell}
use Rattle.ariadne_safe.proofs.laws.symbols_tell_characters_apart.Goals as goal

pub returns : goal.returns
returns c a b e n = symbols_tell a b e n
