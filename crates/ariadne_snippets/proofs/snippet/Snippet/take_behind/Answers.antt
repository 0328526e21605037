use Rattle.std.proofs.Common.{◌∙◌, ap, sym, [], ◌∷◌}
use Rattle.ariadne_snippets.specs.Snippets.{change_of_line, line_added}
use Rattle.ariadne_snippets.specs.declared.taken.FixKind.TheVariants.{PutLine}
use Rattle.ariadne_snippets.proofs.Nexts.{quoted_further}
use Rattle.ariadne_snippets.proofs.Telling.{ok_weaker}
use Rattle.ariadne_snippets.proofs.snippet.Snippet.take_behind.Goals as goal

-- a line is to be put between others
pub returns-in-Some-clause-tells : goal.returns-in-Some-clause-tells
returns-in-Some-clause-tells c =
    let number = c.next_number-number.result in
    line_added number c.in-Some.text.now (sym c.in-Some.ensures)
    (c.in_ok-fixes.ensures ∙ ap (λ t. change_of_line number PutLine t ∷ []) c.trim.ensures.trim)

-- a number stands in front of a quote
pub returns-in-Some-number-clause-quotes : goal.returns-in-Some-number-clause-quotes
returns-in-Some-number-clause-quotes c =
    ok_weaker _ _ c.take_quote.result (λ taken next. quoted_further _ _ _ _ _ (c.in-Some-gutter_of.ensures).end next) c.take_quote.ensures.quotes

pub returns-in-Some-number-clause-tells : goal.returns-in-Some-number-clause-tells
returns-in-Some-number-clause-tells c = c.take_quote.ensures.tells c.args.line.now

-- and none in front of a row
pub returns-in-None-number-clause-quotes : goal.returns-in-None-number-clause-quotes
returns-in-None-number-clause-quotes c =
    ok_weaker _ _ c.take_row.result (λ taken next. quoted_further _ _ _ _ _ (c.in-Some-gutter_of.ensures).end next) (c.take_row.ensures.quotes _)

-- there is no gutter
pub returns-in_default-gutter_of-clause-tells : goal.returns-in_default-gutter_of-clause-tells
returns-in_default-gutter_of-clause-tells c = c.take_none.ensures.tells c.args.line.now
