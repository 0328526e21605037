use Rattle.std.proofs.Common.{◌≡◌, take}
use Rattle.std.specs.Prelude.{chars, string_bytes}
use Rattle.ariadne_show.proofs.held.latin_text.Given as goal

-- the bytes that are passed are characters of the text
abbrev pub invariant-loop-byte : goal.invariant-loop-byte
invariant-loop-byte l = chars (string_bytes l.text) ≡ take l.byte-index l.bytes
