use Rattle.std.proofs.Common.{◌≡◌, ◌∙◌, ◌+◌, ap, rules, subst}
use Rattle.std.specs.Str.Iter.{chars_rest}
use Rattle.ariadne.specs.Columns.{char_columns, text_columns}
use Rattle.ariadne_show.specs.Wrapped.{word_columns}
use Rattle.ariadne_show.proofs.InRows.{AreCounted, counted_all, counted_next, counted_none}
use Rattle.ariadne_show.proofs.wrapping.columns_of.Goals as goal

-- none is counted at first
pub loop-c-init : goal.loop-c-init
unfolding word_columns
loop-c-init c =
    subst (AreCounted (chars_rest c.into_iter-c-iterator.result) 0)
    (ap text_columns (c.deref.ensures ∙ c.in_ok-shown.ensures.signs))
    (counted_none c.deref.result.now (chars_rest c.into_iter-c-iterator.result) c.deref.utf8
    (ap chars_rest c.into_iter-c-iterator.ensures.into_iter_gives ∙ c.chars-c-items.ensures.rest))

-- a character more
pub loop-c-preserved : goal.loop-c-preserved
unfolding char_columns
loop-c-preserved c =
    let wide : c.unwrap_or.result ≡ char_columns c.in-Some.c = search rules in
    let sum : c.in_ok-columns.columns ≡ c.loop-c.columns + c.unwrap_or.result = search rules in
    counted_next c.in-Some.c c.unwrap_or.result c.loop-c.columns c.in_ok-columns.columns _
    (chars_rest c.loop-c.c-iterator) (chars_rest c.next.new.self) (c.in-Some.ensures).steps.0 wide sum c.loop-c.invariant

-- all are
pub returns : goal.returns
returns c =
    counted_all c.loop-c.columns _ (chars_rest c.loop-c.c-iterator) (c.in-None.ensures).steps.0.0 c.loop-c.invariant
