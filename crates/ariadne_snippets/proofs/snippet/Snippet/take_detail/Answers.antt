use Rattle.ariadne_snippets.proofs.snippet.Snippet.take_detail.Goals as goal

-- the line is none of the snippet
pub returns-in-None-clause-tells : goal.returns-in-None-clause-tells
returns-in-None-clause-tells c = c.take_none.ensures.tells c.args.line.now
