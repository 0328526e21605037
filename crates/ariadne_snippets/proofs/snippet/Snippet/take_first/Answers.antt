use Rattle.std.proofs.Common.{◌∙◌, ap, sym, [], ◌∷◌}
use Rattle.ariadne_snippets.specs.Gutters.{gutter_told}
use Rattle.ariadne_snippets.specs.Snippets.{change_of_line, line_added}
use Rattle.ariadne_snippets.specs.declared.taken.FixKind.TheVariants.{PutLine}
use Rattle.ariadne_snippets.proofs.Wholes.{shown_behind, shown_plain}
use Rattle.ariadne_snippets.proofs.snippet.Snippet.take_first.Goals as goal

-- a line is to be put in front of that of the place
pub returns-in-Some-clause-tells : goal.returns-in-Some-clause-tells
returns-in-Some-clause-tells c =
    line_added c.args.self.now.line c.in-Some.text.now (sym c.in-Some.ensures)
    (c.in_ok-fixes.ensures ∙ ap (λ t. change_of_line c.args.self.now.line PutLine t ∷ []) c.trim.ensures.trim)

-- a gutter begins it
pub returns-in-Some-gutter_of-clause-whole : goal.returns-in-Some-gutter_of-clause-whole
returns-in-Some-gutter_of-clause-whole c =
    λ shows.
    let shown = shown_behind c.args.line.now _ (gutter_told c.in-Some-gutter_of.gutter) (sym (c.in-Some-gutter_of.ensures).parts) shows in
    c.take_first_gutter.ensures.whole shown.0 shown.1

-- or none does
pub returns-in-None-clause-whole : goal.returns-in-None-clause-whole
returns-in-None-clause-whole c =
    λ shows. c.take_first_plain.ensures.whole (shown_plain c.args.line.now _ (sym (c.in-None.ensures).parts) shows)
