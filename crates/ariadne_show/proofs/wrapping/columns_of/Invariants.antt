use Rattle.std.specs.Str.Iter.{chars_rest}
use Rattle.ariadne_show.specs.Wrapped.{word_columns}
use Rattle.ariadne_show.proofs.InRows.{AreCounted}
use Rattle.ariadne_show.proofs.wrapping.columns_of.Given as goal

-- the columns of the characters that are passed are counted
abbrev pub invariant-loop-c : goal.invariant-loop-c
invariant-loop-c l = AreCounted (chars_rest l.c-iterator) l.columns (word_columns l.word)
