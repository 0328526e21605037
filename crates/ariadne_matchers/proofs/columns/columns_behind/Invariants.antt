use Rattle.std.proofs.Common.{◌≡◌, take}
use Rattle.ariadne_matchers.specs.Measures.{width_from}
use Rattle.ariadne_matchers.proofs.columns.columns_behind.Given as goal

-- the columns of the characters that are passed
abbrev pub invariant-loop-c : goal.invariant-loop-c
invariant-loop-c l = l.at ≡ width_from l.measure l.front (take l.c-index l.text)
