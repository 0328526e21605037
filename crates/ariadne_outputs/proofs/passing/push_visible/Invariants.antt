use Rattle.std.specs.Prelude.{string_bytes}
use Rattle.std.specs.Str.Iter.{chars_rest}
use Rattle.ariadne_outputs.proofs.Pushed.{IsPushed, line_bytes}
use Rattle.ariadne_outputs.proofs.passing.push_visible.Given as goal

-- what stands for the characters so far was added
abbrev pub invariant-loop-c : goal.invariant-loop-c
invariant-loop-c l =
    IsPushed line_bytes l.text (chars_rest l.c-iterator) (string_bytes l.initial.shown) (string_bytes l.shown)
