use Rattle.ariadne_snippets.proofs.Nexts.{quoted_further}
use Rattle.ariadne_snippets.proofs.Telling.{ok_weaker}
use Rattle.ariadne_snippets.proofs.snippet.Snippet.take_signed.Goals as goal

-- an empty line is the last
pub returns-then-is_empty-clause-tells : goal.returns-then-is_empty-clause-tells
returns-then-is_empty-clause-tells c = c.take_end.ensures.tells c.args.line.now

-- a number stands in front of a quote
pub returns-in-Some-number-clause-quotes : goal.returns-in-Some-number-clause-quotes
returns-in-Some-number-clause-quotes c =
    ok_weaker _ _ c.take_signed_quote.result (λ taken next. quoted_further _ _ _ _ _ (c.in-Some.ensures).end next)
    c.take_signed_quote.ensures.quotes

pub returns-in-Some-number-clause-tells : goal.returns-in-Some-number-clause-tells
returns-in-Some-number-clause-tells c = c.take_signed_quote.ensures.tells c.args.line.now

-- and none in front of a row
pub returns-in-None-clause-quotes : goal.returns-in-None-clause-quotes
returns-in-None-clause-quotes c =
    ok_weaker _ _ c.take_row.result (λ taken next. quoted_further _ _ _ _ _ (c.in-Some.ensures).end next)
    (c.take_row.ensures.quotes _)

-- there is no gutter
pub returns-in_default-clause-tells : goal.returns-in_default-clause-tells
returns-in_default-clause-tells c = c.take_none.ensures.tells c.args.line.now
