use Rattle.std.proofs.Common.{◌≡◌, take}
use Rattle.ariadne_snippets.specs.Rows.{column_past}
use Rattle.ariadne_snippets.proofs.quote.column_behind.Given as goal

-- the column behind the characters that are passed
abbrev pub invariant-loop-c : goal.invariant-loop-c
invariant-loop-c l = l.at ≡ column_past l.unit 0 (take l.c-index l.text)
