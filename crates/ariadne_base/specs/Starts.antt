-- What a source keeps of its lines: where each begins, and where the text ends. A line lies between
-- its own start and that of the next one.
use Rattle.std.specs.Prelude.{ℕ, ◌-◌, ◌≤◌, List, [], ◌∷◌, ◌++◌, map, length}
use Rattle.ariadne_base.specs.Locations.{byte_len, upto, line_offset}
use Rattle.ariadne_base.specs.Table.{LineExtent}
use Rattle.ariadne_base.specs.declared.source.start.Start.{Start}

-- where line n begins, or behind the last line the text ends
unfoldable pub line_start : List (List ℕ) → ℕ → Start
line_start ls n = record { chars = line_offset length ls n; bytes = line_offset byte_len ls n }

-- where each line begins, in order
unfoldable pub line_begins : List (List ℕ) → List Start
line_begins ls = map (line_start ls) (upto (length ls))

-- and where the text ends
unfoldable pub line_starts : List (List ℕ) → List Start
line_starts ls = line_begins ls ++ line_start ls (length ls) ∷ []

-- the line between two starts
abbrev pub extent : Start → Start → LineExtent
extent s e = record {
  offset = s.chars;
  len = e.chars - s.chars;
  byte_offset = s.bytes;
  byte_len = e.bytes - s.bytes;
}

-- the lines between starts that follow one another
abbrev pub extents : List Start → List LineExtent
extents [] = []
extents (s ∷ []) = []
extents (s ∷ e ∷ t) = extent s e ∷ extents (e ∷ t)

-- no start is before the one in front of it
abbrev pub Rise : List Start → Type 0
Rise [] = Unit {0}
Rise (s ∷ []) = Unit {0}
Rise (s ∷ e ∷ t) = (s.chars ≤ e.chars) × (s.bytes ≤ e.bytes) × Rise (e ∷ t)
