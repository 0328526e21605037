use Rattle.std.proofs.Common.{◌≡◌, ◌++◌, drop}
use Rattle.ariadne_parse.specs.Columns.{begins_behind, line_begins}
use Rattle.ariadne_parse.proofs.columns.begins_of.Given as goal

-- the beginnings that are pushed, and those of what is left
abbrev pub invariant-loop-span : goal.invariant-loop-span
invariant-loop-span l =
    l.begins.items ++ begins_behind l.span (drop l.span l.text) ≡ line_begins l.text
