use Rattle.std.proofs.Common.{◌∙◌, ap, [], ◌∷◌}
use Rattle.std.specs.Str.{trim}
use Rattle.ariadne_snippets.specs.Snippets.{change_of_line, line_changed_below}
use Rattle.ariadne_snippets.specs.declared.taken.FixKind.TheVariants.{Become}
use Rattle.ariadne_snippets.proofs.snippet.Snippet.take_changed.Goals as goal

-- the line where its number leads without the lines above it is to be as the text is
pub returns-in_ok-fixes-in-Changed-clause-tells : goal.returns-in_ok-fixes-in-Changed-clause-tells
returns-in_ok-fixes-in-Changed-clause-tells c =
    λ line is.
    line_changed_below c.args.number c.above-above.result c.args.text.now is
    (c.in_ok-fixes-in-Changed.ensures
    ∙ ap (λ t. change_of_line c.saturating_sub-line.result Become t ∷ []) c.trim.ensures.trim
    ∙ ap (λ n. change_of_line n Become (trim c.args.text.now) ∷ []) c.saturating_sub-line.ensures)
