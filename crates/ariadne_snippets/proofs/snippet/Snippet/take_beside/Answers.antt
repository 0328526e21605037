use Rattle.std.proofs.Common.{◌∙◌, ap, map, [], ◌∷◌}
use Rattle.ariadne_snippets.specs.Snippets.{change_of_line, line_put, put_in_line, put_into}
use Rattle.ariadne_snippets.specs.declared.taken.FixKind.TheVariants.{PutLine}
use Rattle.ariadne_snippets.proofs.snippet.Snippet.take_beside.Goals as goal

-- pieces of the text are put into the line
pub returns-then-not-is_empty-clause-tells : goal.returns-then-not-is_empty-clause-tells
returns-then-not-is_empty-clause-tells c =
    λ line how quoted.
    put_in_line c.args.number c.args.text.now how
    (record {
      pieces = c.in_ok-put.put.items;
      are_there = c.in_ok-put.ensures;
      told = c.in_ok-puts.ensures ∙ ap (map (put_into c.args.number)) c.as_slice.ensures.value;
    })

-- or the text is put in front of it
pub returns-then-is_new_line-clause-tells : goal.returns-then-is_new_line-clause-tells
returns-then-is_new_line-clause-tells c =
    λ line how quoted.
    line_put c.args.number c.args.text.now how
    (c.in_ok-fixes.ensures ∙ ap (λ t. change_of_line c.args.number PutLine t ∷ []) c.trim.ensures.trim)
