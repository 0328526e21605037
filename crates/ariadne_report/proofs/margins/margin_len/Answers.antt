-- Compact pictures have no blank behind the bar.
use Rattle.std.proofs.Common.{rules}
use Rattle.ariadne_picture.specs.Margins.{margin_len}
use Rattle.ariadne_report.proofs.margins.margin_len.Goals as goal

pub returns-clause-len : goal.returns-clause-len
unfolding margin_len
returns-clause-len c = search rules
