-- A sign is not hidden, and what stays once stays twice.
use Rattle.ariadne_safe.proofs.VisibleLaws.{twice_is_once}
use Rattle.ariadne_safe.proofs.laws.visible_twice_is_visible_once.Goals as goal

pub returns : goal.returns
returns c kind t = twice_is_once kind t
