use Rattle.std.specs.Prelude.{string_bytes}
use Rattle.std.specs.Str.Iter.{chars_rest}
use Rattle.ariadne_outputs.proofs.Parted.{IsParted}
use Rattle.ariadne_outputs.proofs.github.push_parted.Given as goal

-- the characters so far were added
abbrev pub invariant-loop-c : goal.invariant-loop-c
invariant-loop-c l = IsParted l.text (chars_rest l.c-iterator) (string_bytes l.initial.safe) (string_bytes l.safe)
