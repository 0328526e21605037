use Rattle.std.specs.Str.Iter.{chars_rest}
use Rattle.ariadne_snippets.specs.Rows.{column_behind}
use Rattle.ariadne_snippets.proofs.Parts.{LeadsTo}
use Rattle.ariadne_snippets.proofs.rows.behind_text.Given as goal

-- the characters that are left lead to the column behind the text
abbrev pub invariant-loop-c : goal.invariant-loop-c
invariant-loop-c l = LeadsTo l.unit l.at (chars_rest l.c-iterator) (column_behind l.unit l.column l.text)
