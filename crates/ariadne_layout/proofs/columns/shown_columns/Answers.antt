use Rattle.std.proofs.Common.{sym, arith}
use Rattle.ariadne_layout.proofs.PlaceColumns.{shown_columns-printable}
use Rattle.ariadne_layout.proofs.columns.shown_columns.Goals as goal

-- printable ASCII has one column
pub returns-in-32-to-126 : goal.returns-in-32-to-126
returns-in-32-to-126 c = sym (shown_columns-printable c.args.tab_width c.args.column c.args.c (omega arith) (omega arith))
