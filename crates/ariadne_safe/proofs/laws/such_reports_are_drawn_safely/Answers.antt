-- By its cells and its texts.
use Rattle.ariadne_safe.proofs.SafeReports.{drawn_safely}
use Rattle.ariadne_safe.proofs.laws.such_reports_are_drawn_safely.Goals as goal

pub returns : goal.returns
returns g c w r h = drawn_safely w r h
