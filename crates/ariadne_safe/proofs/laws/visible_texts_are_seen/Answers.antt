-- Sign by sign.
use Rattle.ariadne_safe.proofs.Signs.{signs_are_seen}
use Rattle.ariadne_safe.proofs.laws.visible_texts_are_seen.Goals as goal

pub returns : goal.returns
returns c kind t = signs_are_seen kind t
