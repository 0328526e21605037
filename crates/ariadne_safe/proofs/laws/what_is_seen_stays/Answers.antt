-- Character by character.
use Rattle.ariadne_safe.proofs.VisibleLaws.{seen_stays}
use Rattle.ariadne_safe.proofs.laws.what_is_seen_stays.Goals as goal

pub returns : goal.returns
returns c kind t h = seen_stays kind t h
