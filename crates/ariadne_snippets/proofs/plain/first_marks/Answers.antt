use Rattle.ariadne_snippets.proofs.Endings.{end_without, in_by_end, in_further, in_same}
use Rattle.ariadne_snippets.proofs.Telling.{ok_weaker, some_weaker}
use Rattle.ariadne_snippets.proofs.plain.first_marks.Goals as goal

-- without the blank in front the row stands in the line too
pub returns-then-is_one_over-clause-marks : goal.returns-then-is_one_over-clause-marks
returns-then-is_one_over-clause-marks c =
    let row = c.before_dots-row.result.now in
    let part = in_further c.without.result.now row c.args.line.now
    (in_same c.without.result.now _ row c.without.ensures (in_by_end _ row (end_without 32 row))) c.before_dots-row.ensures in
    ok_weaker _ _ c.take_marks.result
    (λ marks found. some_weaker _ _ marks (λ all are. (c.without.result.now, part, are)) found)
    c.take_marks.ensures.marks
