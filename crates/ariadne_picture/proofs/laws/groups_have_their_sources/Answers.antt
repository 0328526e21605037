use Rattle.ariadne_picture.proofs.Labels.DrawnLabels.{groups-held}
use Rattle.ariadne_picture.proofs.laws.groups_have_their_sources.Goals as goal

pub returns : goal.returns
returns g c w r infos accepted = groups-held w r infos accepted
