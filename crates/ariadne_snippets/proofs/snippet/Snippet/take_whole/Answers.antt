use Rattle.std.proofs.Common.{◌∙◌, ap, [], ◌∷◌}
use Rattle.ariadne_snippets.specs.Snippets.{change_of_line, line_changed}
use Rattle.ariadne_snippets.specs.declared.taken.FixKind.TheVariants.{Become}
use Rattle.ariadne_snippets.proofs.snippet.Snippet.take_whole.Goals as goal

-- the line is to be as the text is
pub returns-clause-tells : goal.returns-clause-tells
returns-clause-tells c =
    λ line how quoted.
    line_changed c.args.number c.args.text.now how
    (c.in_ok-fixes.ensures ∙ ap (λ t. change_of_line c.args.number Become t ∷ []) c.trim.ensures.trim)
