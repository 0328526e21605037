use Rattle.ariadne_snippets.proofs.Endings.{end_of_all, in_by_end, in_front_of, in_same}
use Rattle.ariadne_snippets.proofs.plain.before_dots.Goals as goal

-- what stands in front of the dots stands in the line
pub returns-in-Some : goal.returns-in-Some
returns-in-Some c = in_same c.in-Some.row.now _ c.args.line.now (c.in-Some.ensures).cases.2 (in_front_of _ c.args.line.now)

-- and so does the line
pub returns-in-None : goal.returns-in-None
returns-in-None c = in_by_end c.args.line.now c.args.line.now (end_of_all c.args.line.now)
