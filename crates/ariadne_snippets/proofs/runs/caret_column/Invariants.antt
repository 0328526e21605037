use Rattle.std.proofs.Common.{◌*◌, ◌≤◌}
use Rattle.ariadne_snippets.proofs.runs.caret_column.Given as goal

-- a character takes 8 columns at most
abbrev pub invariant-loop-byte : goal.invariant-loop-byte
invariant-loop-byte l = l.column ≤ 8 * l.byte-index
