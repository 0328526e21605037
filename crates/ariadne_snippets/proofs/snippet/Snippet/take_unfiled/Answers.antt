use Rattle.ariadne_snippets.proofs.snippet.Snippet.take_unfiled.Goals as goal

-- the line is none of the snippet
pub returns-in_default-clause-tells : goal.returns-in_default-clause-tells
returns-in_default-clause-tells c = c.take_none.ensures.tells c.args.line.now
