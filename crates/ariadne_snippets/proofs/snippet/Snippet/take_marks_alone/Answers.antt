use Rattle.ariadne_snippets.proofs.snippet.Snippet.take_marks_alone.Goals as goal

-- the line is none of the snippet
pub returns-else-is_marks-clause-tells : goal.returns-else-is_marks-clause-tells
returns-else-is_marks-clause-tells c = c.take_none.ensures.tells c.args.line.now
