-- How far the characters of a source are counted.
use Rattle.std.specs.Prelude.{ℕ, ◌≡◌, List, length, take}
use Rattle.std.specs.Str.{chars, IsCharBoundary, IsUtf8}
use Rattle.ariadne_report.specs.declared.counting.Known.{Known}

-- a place between two characters of a text, where its bytes are one, and the characters before it
pub record IsKnown (text : List ℕ) (known : Known) : Type 0 where
  pub whole : IsUtf8 text → IsCharBoundary text known.bytes
  pub counted : known.chars ≡ length (chars (take known.bytes text))
