use Rattle.std.proofs.Common.{◌∙◌, refl, chars, []}
use Rattle.ariadne_snippets.specs.Snippets.{newly_quoted, IsQuoteOf}
use Rattle.ariadne_snippets.proofs.Endings.{end_of_nothing}
use Rattle.ariadne_snippets.proofs.Nexts.{quote_same}
use Rattle.ariadne_snippets.proofs.snippet.Snippet.take_marks_below.Goals as goal

-- the line is none of the snippet
pub returns-in_default-clause-tells : goal.returns-in_default-clause-tells
returns-in_default-clause-tells c = c.take_none.ensures.tells c.args.line.now

pub returns-clause-tells : goal.returns-clause-tells
returns-clause-tells c = c.take_none-in-None.ensures.tells c.args.line.now

-- nothing quotes a line that has nothing
pub returns-in-Some-2-clause-quotes : goal.returns-in-Some-2-clause-quotes
returns-in-Some-2-clause-quotes c =
    let shown : IsQuoteOf c.in-Some.quote (chars []) c.args.empty.now = rw c.in-Some.is at (c.in_ok-quote.ensures).quote in
    newly_quoted c.first_marks.new.quoted [] c.args.empty.now refl (end_of_nothing c.args.line.now) refl
    (quote_same c.first_marks.new.quoted.quote c.in-Some.quote _ _
    (c.first_marks.ensures.line.quote ∙ c.new-quoted.ensures.quote) shown)
