use Rattle.std.proofs.Common.{◌++◌}
use Rattle.std.specs.Prelude.{string_bytes, encode_utf8_all}
use Rattle.std.specs.Str.{chars}
use Rattle.std.specs.Str.Iter.{chars_rest}
use Rattle.ariadne_edits.specs.Bodies.{spread}
use Rattle.ariadne_edits.proofs.Pushing.{IsAppended}
use Rattle.ariadne_edits.proofs.body.push_spread.Given as goal

abbrev pub invariant-loop-c : goal.invariant-loop-c
invariant-loop-c l =
    IsAppended (spread l.tab_width l.column) (chars_rest l.rest) (string_bytes l.out)
    (string_bytes l.initial.out ++ encode_utf8_all (spread l.tab_width 0 (chars l.line)))
