use Rattle.ariadne_snippets.proofs.Endings.{end_of_all, end_of_rest, in_by_end, in_by_trim, in_front_of, in_same}
use Rattle.ariadne_snippets.proofs.rows.cut_at.Goals as goal

-- the front is a part of the row
pub returns-in-Some-clause-front : goal.returns-in-Some-clause-front
returns-in-Some-clause-front c =
    in_same c.in-Some.front.now _ c.args.row.now (c.in-Some.ensures).front (in_front_of c.byte_at.result c.args.row.now)

-- so is what stands behind it
pub returns-in-Some-clause-text : goal.returns-in-Some-clause-text
returns-in-Some-clause-text c =
    in_by_trim c.trim_end.result.now c.in-Some.text.now c.args.row.now c.trim_end.ensures.value
    (in_same c.in-Some.text.now _ c.args.row.now (c.in-Some.ensures).back
    (in_by_end _ c.args.row.now (end_of_rest c.byte_at.result c.args.row.now)))

-- the row is one of itself
pub returns-in-None-clause-front : goal.returns-in-None-clause-front
returns-in-None-clause-front c = in_by_end c.args.row.now c.args.row.now (end_of_all c.args.row.now)
