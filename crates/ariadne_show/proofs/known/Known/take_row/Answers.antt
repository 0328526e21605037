use Rattle.ariadne_show.proofs.Waiting.{none_wait, row_in_front_if}
use Rattle.ariadne_show.proofs.known.Known.take_row.Goals as goal

-- the diagnostic in front has taken it in, or not
pub returns-in-Some-clause-row : goal.returns-in-Some-clause-row
returns-in-Some-clause-row g c =
    row_in_front_if c.take_row_of.result c.args.line c.args.self.now c.take_row_of.new.finder c.in-Some.block
    c.take_row_of.new.block c.in-Some.is
    (none_wait c.args.self.now c.lines_wait.result c.lines_wait.ensures c.if-lines_wait.false) c.take_row_of.ensures.row
