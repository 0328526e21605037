-- What is kept of each line of a text: where it lies and how long it is, in characters and in
-- bytes. And what a look-up of an offset gives: the line of its location, that line's number, and
-- the column.
use Rattle.std.specs.Prelude.{ℕ, ◌+◌, List, map, length}
use Rattle.ariadne_base.specs.Locations.{byte_len, upto, line_text, line_offset, line_at, column_at}

-- a line's offset in its text and its length, in characters and in bytes
pub record LineExtent : Type 0 where
  pub offset : ℕ
  pub len : ℕ
  pub byte_offset : ℕ
  pub byte_len : ℕ

-- where its bytes end
abbrev pub byte_end : LineExtent → ℕ
byte_end l = l.byte_offset + l.byte_len

-- the extent of line n
unfoldable pub line_extent : List (List ℕ) → ℕ → LineExtent
line_extent ls n = record {
  offset = line_offset length ls n;
  len = length (line_text ls n);
  byte_offset = line_offset byte_len ls n;
  byte_len = byte_len (line_text ls n);
}

-- the extents of all lines, in order
unfoldable pub line_table : List (List ℕ) → List LineExtent
line_table ls = map (line_extent ls) (upto (length ls))

-- the location of an offset: its line, the number of that line, and its column
unfoldable pub location_of : (List ℕ → ℕ) → List (List ℕ) → ℕ → LineExtent × ℕ × ℕ
location_of size ls o = (line_extent ls (line_at size ls o), line_at size ls o, column_at size ls o)
