use Rattle.std.proofs.Common.{◌∙◌, sym, rules}
use Rattle.ariadne_snippets.specs.Quotes.{whole}
use Rattle.ariadne_snippets.specs.Snippets.{as_shown}
use Rattle.ariadne_snippets.proofs.Wholes.{has_places, not_missing}
use Rattle.ariadne_snippets.proofs.quote.Quote.new.Goals as goal

-- it begins as a whole line does
pub returns-in-Some-clause-quote : goal.returns-in-Some-clause-quote
returns-in-Some-clause-quote c = as_shown c.in_ok-chars.ensures (whole c.args.strokes (search rules))

-- a line itself does
pub returns-in-None-clause-whole : goal.returns-in-None-clause-whole
returns-in-None-clause-whole c =
    λ none same.
    absurd
    (not_missing c.in_ok-begins.field-0
    (has_places (λ begins. begins.items) c.in_ok-begins.field-0 c.args.line.now c.as_slice.result.now c.args.strokes
    c.in_ok-begins.ensures none (same ∙ sym c.in_ok-chars.ensures ∙ sym c.as_slice.ensures.value))
    c.in_default.not-Some)
