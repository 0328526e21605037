-- Ranges of a source: the lines that a span of characters runs across, also where it is reversed or
-- lies past the source, and which bytes are a text that can be cut out.
use Rattle.std.specs.Prelude.{ℕ, suc, ◌-◌, max, nat_le, Option, Some, None, unwrap_or}
use Rattle.std.specs.Prelude.{if◌then◌else◌, List, length, sum_by}
use Rattle.std.specs.Option.{option_map_or}
use Rattle.std.specs.Str.{IsCharBoundary}
use Rattle.ariadne_base.specs.Locations.{line_at}

-- the last offset of a span from start to before stop; an empty or reversed span has its start
abbrev pub last_offset : ℕ → ℕ → ℕ
last_offset start stop = max (stop - 1) start

-- the number of the line that an offset in characters lies in, if it lies in one
unfoldable pub line_number : List (List ℕ) → ℕ → Option ℕ
line_number ls o = if nat_le o (sum_by length ls) then Some (line_at length ls o) else None

-- the first line of a span: that of its start, or line 0 where it has none
abbrev pub first_line : List (List ℕ) → ℕ → ℕ
first_line ls start = unwrap_or (line_number ls start) 0

-- one past the last line of a span: that of its last offset, or the last there is where it has none
abbrev pub line_end : List (List ℕ) → ℕ → ℕ → ℕ
line_end ls start stop = option_map_or suc (line_number ls (last_offset start stop)) (length ls)

-- the bytes of a text from i to before j are whole characters of it
abbrev pub IsCutOut : List ℕ → ℕ → ℕ → Type 0
IsCutOut text i j = IsCharBoundary text i × IsCharBoundary text j
