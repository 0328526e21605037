use Rattle.std.specs.Prelude.{string_bytes}
use Rattle.std.specs.Str.Iter.{chars_rest}
use Rattle.ariadne_outputs.proofs.Pushed.{IsPushed, command_bytes}
use Rattle.ariadne_outputs.proofs.github.push_escaped.Given as goal

-- what stands for the characters so far was added
abbrev pub invariant-loop-c : goal.invariant-loop-c
invariant-loop-c l =
    IsPushed (command_bytes l.role) l.value (chars_rest l.c-iterator) (string_bytes l.initial.text) (string_bytes l.text)
