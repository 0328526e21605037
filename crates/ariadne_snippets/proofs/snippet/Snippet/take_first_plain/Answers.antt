use Rattle.ariadne_snippets.proofs.Nexts.{next_from}
use Rattle.ariadne_snippets.proofs.Telling.{ok_weaker}
use Rattle.ariadne_snippets.proofs.snippet.Snippet.take_first_plain.Goals as goal

-- what is no quote leaves what was quoted
pub returns-clause-quotes : goal.returns-clause-quotes
returns-clause-quotes c =
    ok_weaker _ _ c.take_unquoted.result
    (λ taken next. next_from _ _ _ c.quotes.new.self.quoted _ ((c.in_ok-quotes.ensures).none c.if-branch.false) next)
    c.take_unquoted.ensures.quotes
