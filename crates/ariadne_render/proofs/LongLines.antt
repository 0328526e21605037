-- What is remembered of a line is read off its layout.
use Rattle.std.proofs.Common.{◌≡◌, ◌∙◌, ℕ, List, Option, Some, None, false, ap, encode_utf8_all, length, sym}
use Rattle.std.specs.Option.{is_some}
use Rattle.std.specs.Str.{chars, IsUtf8}
use Rattle.std.proofs.lemmas.Str.{encodes-chars}
use Rattle.ariadne_picture.specs.Columns.{Layout, shown}
use Rattle.ariadne_layout.specs.Ends.{shown_bytes}
use Rattle.ariadne_render.specs.LongLines.{IsRemembered}
use Rattle.ariadne_render.specs.declared.long_line.LongLine.{LongLine}

-- the bytes that spell the shown characters are as many as are shown
pub bytes_shown : (y : Layout) (bytes : List ℕ) → IsUtf8 bytes → chars bytes ≡ shown y → length bytes ≡ shown_bytes y.text
unfolding shown
bytes_shown y bytes utf8 e = ap length (sym (encodes-chars bytes utf8) ∙ ap encode_utf8_all e)

-- where no line is remembered nothing is claimed
pub none_remembered : (lines : List (List ℕ)) (long : Option LongLine) → is_some long ≡ false → IsRemembered lines long
none_remembered lines None e = tt
none_remembered lines (Some x) e = cc
