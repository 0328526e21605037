use Rattle.std.proofs.Common.{◌∙◌, ap}
use Rattle.std.specs.Str.Iter.{chars_rest}
use Rattle.ariadne_snippets.proofs.Parts.{left_all, left_next, left_none}
use Rattle.ariadne_snippets.proofs.rows.behind_text.Goals as goal

-- all are left
pub loop-c-init : goal.loop-c-init
loop-c-init c =
    left_all c.args.unit c.args.column c.args.text.now _ c.utf8.text
    (ap chars_rest c.into_iter-c-iterator.ensures.into_iter_gives ∙ c.chars-c-items.ensures.rest)

-- one is passed
pub loop-c-preserved : goal.loop-c-preserved
loop-c-preserved c =
    left_next c.args.unit c.loop-c.at c.in-Some.c c.columns_of.result c.saturating_add-at.result _
    (chars_rest c.loop-c.c-iterator) (chars_rest c.next.new.self) (c.in-Some.ensures).steps.0 c.columns_of.ensures
    c.saturating_add-at.ensures c.loop-c.invariant

-- none is left
pub returns : goal.returns
returns c =
    left_none c.args.unit c.loop-c.at _ (chars_rest c.loop-c.c-iterator) (c.in-None.ensures).steps.0.0 c.loop-c.invariant
