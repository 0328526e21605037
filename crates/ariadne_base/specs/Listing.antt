-- What a caller sees of a source: a text with numbered lines.
use Rattle.std.specs.Prelude.{ℕ, List, chars}
use Rattle.ariadne_base.specs.Lines.{lines_of}

-- the text as its bytes in UTF-8, and what is added to the number of each line
pub record Listing : Type 0 where
  pub text : List ℕ
  pub display_offset : ℕ

-- the characters of its lines
abbrev pub listed_lines : Listing → List (List ℕ)
listed_lines s = lines_of (chars s.text)
