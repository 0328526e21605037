use Rattle.ariadne_snippets.proofs.snippet.Snippet.take_first_gutter.Goals as goal

-- a quote tells nothing of its own
pub returns-in-Some-clause-tells : goal.returns-in-Some-clause-tells
returns-in-Some-clause-tells c = c.take_first_behind.ensures.tells c.args.line.now

pub returns-in-None-clause-tells : goal.returns-in-None-clause-tells
returns-in-None-clause-tells c = c.take_frame.ensures.tells c.args.line.now
