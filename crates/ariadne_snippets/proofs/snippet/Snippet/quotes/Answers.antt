use Rattle.std.proofs.Common.{ap, refl, chars, option_map, List, ℕ, Option, Bor}
use Rattle.ariadne_snippets.specs.Snippets.{newly_quoted, IsQuoteOf}
use Rattle.ariadne_snippets.proofs.Endings.{end_of_all}
use Rattle.ariadne_snippets.proofs.Nexts.{quote_same}
use Rattle.ariadne_snippets.proofs.snippet.Snippet.quotes.Goals as goal

-- the text quotes the line
pub returns-clause-quotes : goal.returns-clause-quotes
returns-clause-quotes c =
    let quote : IsQuoteOf c.in-Some-2.quote (chars c.args.text.now) c.in-Some.line.now = rw c.in-Some-2.is at (c.in_ok-quote.ensures).quote in
    newly_quoted c.new-2.result c.args.text.now c.in-Some.line.now refl (end_of_all c.args.text.now)
    (ap (λ (o : Option (Bor (List ℕ))). option_map (λ (s : Bor (List ℕ)). s.now) o) c.in-Some.is)
    (quote_same c.new-2.result.quote c.in_ok-quote-2.quote _ _ c.new-2.ensures.quote (c.in_ok-quote-2.ensures (chars c.args.text.now) quote))
