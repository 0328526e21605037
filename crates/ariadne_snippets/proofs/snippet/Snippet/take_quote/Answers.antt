use Rattle.ariadne_snippets.proofs.Nexts.{next_same}
use Rattle.ariadne_snippets.proofs.snippet.Snippet.take_quote.Goals as goal

-- nothing else is quoted
pub returns-else-branch-clause-quotes : goal.returns-else-branch-clause-quotes
returns-else-branch-clause-quotes c =
    next_same _ _ _ c.quotes.new.self.quoted _ c.take_none.ensures.quoted (c.in_ok-quotes.ensures).quotes
