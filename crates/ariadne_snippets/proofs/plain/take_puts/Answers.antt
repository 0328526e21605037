use Rattle.std.proofs.Common.{◌∙◌, ap, map}
use Rattle.ariadne_snippets.specs.Snippets.{in_row, insertion, insertions}
use Rattle.ariadne_snippets.proofs.Endings.{end_of_all, in_by_end}
use Rattle.ariadne_snippets.proofs.plain.take_puts.Goals as goal

-- the line is a row of texts that are to be put there
pub returns-then-may_have_fixes : goal.returns-then-may_have_fixes
returns-then-may_have_fixes c =
    let line = c.args.line.now in
    in_row line (in_by_end line line (end_of_all line))
    (insertions c.in_ok-pieces.pieces.items c.in_ok-pieces.ensures
    (c.in_ok-fixes_of.ensures ∙ ap (map (insertion c.args.quoted.now)) c.as_slice-then-may_have_fixes.ensures.value))
