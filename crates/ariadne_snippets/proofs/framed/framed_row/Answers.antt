use Rattle.ariadne_snippets.specs.Snippets.{AreMarksIn}
use Rattle.ariadne_snippets.proofs.Endings.{end_of_all, in_by_end}
use Rattle.ariadne_snippets.proofs.framed.framed_row.Goals as goal

-- the row is one of marks
pub returns-in-Some-clause-tells : goal.returns-in-Some-clause-tells
returns-in-Some-clause-tells c =
    let row = c.args.row.now in
    let marks : AreMarksIn c.take_written.new.self row c.in-Some.marks.items = rw c.in-Some.is at (c.in_ok-marks.ensures).marks in
    (row, in_by_end row row (end_of_all row), marks)
