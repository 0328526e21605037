-- Every picture is read back, and so that of a report.
use Rattle.ariadne_picture.proofs.ReadingBack.ReportsRead.{every-read-by-gutters}
use Rattle.ariadne_picture.proofs.laws.cut_pictures_can_be_read_back.Goals as goal

pub returns : goal.returns
returns g c w r infos accepted law forward short = every-read-by-gutters w r infos accepted law forward short
