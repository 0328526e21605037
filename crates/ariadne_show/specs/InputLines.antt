-- The lines of an input, and their texts. The line feed is 10, the carriage return 13.
use Rattle.std.specs.Prelude.{ℕ, ◌≡◌, List, Option, IfSome}
use Rattle.std.specs.Io.BufRead.{strip_last, take_through}
use Rattle.std.specs.Io.KnownBytes.{Consumes}
use Rattle.std.specs.Str.Lossy.{utf8_lossy}
use Rattle.ariadne_blocks.specs.declared.line.Line.{Line}
use Rattle.ariadne_parse.specs.Sgr.{bare_line}

-- the next line of an input, with the line feed that ends it, was read
pub record ReadsLine (before after : Option (List ℕ)) (line : List ℕ) : Type 0 where
  pub taken : Consumes before after line
  pub whole : IfSome before (λ bytes. line ≡ take_through 10 bytes)

-- the text of a line: without what ends it, and with U+FFFD in place of what is not UTF-8
abbrev pub whole_text : List ℕ → List ℕ
whole_text line = utf8_lossy (strip_last 13 (strip_last 10 line))

-- the same without the colours that its tool gave it
abbrev pub bare_text : List ℕ → List ℕ
bare_text line = bare_line (whole_text line)

-- what is read of a line with these bytes
pub record IsLineOf (bytes : List ℕ) (line : Line) : Type 0 where
  pub bytes_read : line.bytes.now ≡ bytes
  pub whole : line.whole.now ≡ whole_text bytes
  pub text : line.text.now ≡ bare_text bytes
