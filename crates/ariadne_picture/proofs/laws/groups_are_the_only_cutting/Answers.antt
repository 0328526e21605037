use Rattle.ariadne_picture.proofs.Labels.Cutting.{groups-exist, groups-only}
use Rattle.ariadne_picture.proofs.laws.groups_are_the_only_cutting.Goals as goal

pub returns-clause-exists : goal.returns-clause-exists
returns-clause-exists c = groups-exist

pub returns-clause-only : goal.returns-clause-only
returns-clause-only c = groups-only
