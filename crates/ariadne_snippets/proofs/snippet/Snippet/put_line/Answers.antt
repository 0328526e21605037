use Rattle.std.proofs.Common.{◌∙◌, ap, [], ◌∷◌}
use Rattle.std.specs.Str.{trim}
use Rattle.ariadne_snippets.specs.Snippets.{change_of_line, line_inserted}
use Rattle.ariadne_snippets.specs.declared.taken.FixKind.TheVariants.{PutLine}
use Rattle.ariadne_snippets.proofs.snippet.Snippet.put_line.Goals as goal

-- it is put where its number leads without the lines above it
pub returns-clause-tells : goal.returns-clause-tells
returns-clause-tells c =
    λ line is.
    line_inserted c.args.number c.above.result c.args.text.now is
    (c.in_ok-fixes.ensures
    ∙ ap (λ t. change_of_line c.saturating_sub-line.result PutLine t ∷ []) c.trim.ensures.trim
    ∙ ap (λ n. change_of_line n PutLine (trim c.args.text.now) ∷ []) c.saturating_sub-line.ensures)
