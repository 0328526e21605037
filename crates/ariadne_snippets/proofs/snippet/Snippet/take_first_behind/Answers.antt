use Rattle.ariadne_snippets.proofs.Nexts.{quoted_further}
use Rattle.ariadne_snippets.proofs.Telling.{ok_weaker}
use Rattle.ariadne_snippets.proofs.snippet.Snippet.take_first_behind.Goals as goal

-- what is quoted behind the gutter is so in the line
pub returns-then-starts_with-clause-quotes : goal.returns-then-starts_with-clause-quotes
returns-then-starts_with-clause-quotes c =
    ok_weaker _ _ c.take_signed_quote.result (λ taken next. quoted_further _ _ _ _ _ c.requires next)
    c.take_signed_quote.ensures.quotes

pub returns-clause-quotes : goal.returns-clause-quotes
returns-clause-quotes c =
    ok_weaker _ _ c.take_quote.result (λ taken next. quoted_further _ _ _ _ _ c.requires next) c.take_quote.ensures.quotes
