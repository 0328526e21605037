use Rattle.ariadne_snippets.proofs.Nexts.{quote_by_characters}
use Rattle.ariadne_snippets.proofs.quote.Quote.by_characters.Goals as goal

-- it is quoted character by character
pub returns : goal.returns
returns c =
    λ text is.
    quote_by_characters c.args.self c.in_ok-itself.itself text c.args.line.now is (c.in_ok-itself.ensures).chars
    (c.in_ok-itself.ensures).begins
