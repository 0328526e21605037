use Rattle.std.proofs.Common.{ap, refl, chars, option_map, List, ℕ, Option, Some, Bor}
use Rattle.ariadne_snippets.specs.Snippets.{newly_quoted, IsQuoteOf}
use Rattle.ariadne_snippets.proofs.Endings.{end_of_all}
use Rattle.ariadne_snippets.proofs.Nexts.{next_same, quote_same}
use Rattle.ariadne_snippets.proofs.snippet.Snippet.take_drawn_quote.Goals as goal

-- the text quotes the line
pub returns-clause-quotes : goal.returns-clause-quotes
returns-clause-quotes c =
    let quote : IsQuoteOf c.in-Some-found.quote (chars c.args.text.now) c.in-Some.line.now = rw c.in-Some-found.is at c.in_ok-found.ensures in
    next_same _ _ _ (Some c.new.result) _ c.open_at.ensures
    (newly_quoted c.new.result c.args.text.now c.in-Some.line.now refl (end_of_all c.args.text.now)
    (ap (λ (o : Option (Bor (List ℕ))). option_map (λ (s : Bor (List ℕ)). s.now) o) c.in-Some.is)
    (quote_same c.new.result.quote c.in-Some-found.quote _ _ c.new.ensures.quote quote))
