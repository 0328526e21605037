-- Every picture is read back, and so that of a report.
use Rattle.ariadne_picture.proofs.ReadingBack.ReportsRead.{every-read}
use Rattle.ariadne_picture.proofs.laws.pictures_can_be_read_back.Goals as goal

pub returns : goal.returns
returns g c w r infos accepted law forward short whole = every-read w r infos accepted law forward short whole
