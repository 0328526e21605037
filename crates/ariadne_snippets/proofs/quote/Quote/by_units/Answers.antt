use Rattle.ariadne_snippets.proofs.Nexts.{quote_by_units}
use Rattle.ariadne_snippets.proofs.quote.Quote.by_units.Goals as goal

-- it is quoted in units
pub returns : goal.returns
returns c =
    λ text is.
    quote_by_units c.args.self c.in_ok-units.units text c.args.line.now is (c.in_ok-units.ensures).chars
    (c.in_ok-units.ensures).begins
