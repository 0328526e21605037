-- By its six clauses.
use Rattle.ariadne_picture.proofs.Reading.EveryReport.{every-traced}
use Rattle.ariadne_picture.proofs.laws.every_picture_can_be_read.Goals as goal

pub returns : goal.returns
returns g c w r infos accepted law forward = every-traced w r infos accepted forward law
