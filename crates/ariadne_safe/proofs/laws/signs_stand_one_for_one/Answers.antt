-- Character by character.
use Rattle.ariadne_safe.proofs.VisibleLaws.{length_visible}
use Rattle.ariadne_safe.proofs.laws.signs_stand_one_for_one.Goals as goal

pub returns : goal.returns
returns c kind t = length_visible kind t
