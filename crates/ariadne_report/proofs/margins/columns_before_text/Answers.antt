-- The margin and the gutter, of as many columns as the sheet's switches say.
use Rattle.std.proofs.Common.{◌+◌}
use Rattle.ariadne_picture.specs.Margins.{columns_before_text}
use Rattle.ariadne_report.proofs.margins.columns_before_text.Goals as goal

pub returns : goal.returns
unfolding columns_before_text
returns c = λ i. c.margin_len.ensures.len i + c.gutter_columns.ensures.columns i
