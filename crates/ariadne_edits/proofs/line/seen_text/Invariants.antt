use Rattle.std.specs.Prelude.{string_bytes, encode_utf8_all}
use Rattle.std.specs.Str.{chars}
use Rattle.std.specs.Str.Iter.{chars_rest}
use Rattle.ariadne_edits.specs.SuggestionRows.{seen_of}
use Rattle.ariadne_edits.proofs.Pushing.{IsAppended}
use Rattle.ariadne_edits.proofs.line.seen_text.Given as goal

abbrev pub invariant-loop-c : goal.invariant-loop-c
invariant-loop-c l =
    IsAppended seen_of (chars_rest l.rest) (string_bytes l.seen) (encode_utf8_all (seen_of (chars l.text)))
