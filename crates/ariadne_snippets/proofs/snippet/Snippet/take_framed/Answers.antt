use Rattle.ariadne_snippets.proofs.Nexts.{quoted_further}
use Rattle.ariadne_snippets.proofs.Telling.{ok_weaker}
use Rattle.ariadne_snippets.proofs.snippet.Snippet.take_framed.Goals as goal

-- an empty line is the last
pub returns-then-is_empty-clause-tells : goal.returns-then-is_empty-clause-tells
returns-then-is_empty-clause-tells c = c.take_end.ensures.tells c.args.line.now

-- a gutter stands in front
pub returns-in-Some-clause-quotes : goal.returns-in-Some-clause-quotes
returns-in-Some-clause-quotes c =
    ok_weaker _ _ c.take_framed_gutter.result (λ taken next. quoted_further _ _ _ _ _ (c.in-Some.ensures).end next)
    c.take_framed_gutter.ensures.quotes
