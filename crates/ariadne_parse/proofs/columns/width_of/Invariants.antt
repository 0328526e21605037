use Rattle.std.proofs.Common.{◌≡◌, take}
use Rattle.ariadne_parse.specs.Columns.{columns_in}
use Rattle.ariadne_parse.proofs.columns.width_of.Given as goal

-- the columns of the characters that are passed
abbrev pub invariant-loop-c : goal.invariant-loop-c
invariant-loop-c l = l.at ≡ columns_in l.unit (take l.c-index l.text)
