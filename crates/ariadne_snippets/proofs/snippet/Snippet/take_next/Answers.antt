use Rattle.ariadne_snippets.proofs.snippet.Snippet.take_next.Goals as goal

-- a line that is none of the snippet tells nothing
pub returns-in_default-clause-tells : goal.returns-in_default-clause-tells
returns-in_default-clause-tells c = c.take_none.ensures.tells c.args.line.now
