use Rattle.ariadne_snippets.proofs.snippet.Snippet.take_unquoted.Goals as goal

-- the line is none of the snippet
pub returns-in-None-2-clause-tells : goal.returns-in-None-2-clause-tells
returns-in-None-2-clause-tells c = c.take_none.ensures.tells c.args.line.now
