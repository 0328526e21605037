use Rattle.std.proofs.Common.{◌∙◌, ap, map}
use Rattle.ariadne_snippets.specs.Snippets.{insertion, insertions}
use Rattle.ariadne_snippets.proofs.gutters.gutter_row.Goals as goal

-- a row of `-` says what is to be removed
pub returns-then-is_marked-clause-tells : goal.returns-then-is_marked-clause-tells
returns-then-is_marked-clause-tells c = c.in_ok-removals_in.ensures

-- the texts of another say what is to be put there
pub returns-clause-tells : goal.returns-clause-tells
returns-clause-tells c =
    insertions c.in_ok-pieces.pieces.items c.in_ok-pieces.ensures
    (c.in_ok-fixes_of.ensures ∙ ap (map (insertion c.take_labels.new.self)) c.as_slice.ensures.value)
