-- The location of an offset: the line that it lies in, and how far behind the line's start. Lines,
-- offsets and columns count from 0, in characters or, by the size of a line, in bytes.
use Rattle.std.specs.Prelude.{ℕ, suc, ◌-◌, nat_le, List, [], length, take, filter, Option, None}
use Rattle.std.specs.Prelude.{find, slice_index_or, sum_by, unwrap_or, encode_utf8_all, ◌==◌}
use Rattle.std.specs.List.{last_or, range_with_len}

-- the sizes of a list of characters: their number, and that of their bytes
abbrev pub byte_len : List ℕ → ℕ
byte_len t = length (encode_utf8_all t)

-- the numbers below n
abbrev pub upto : ℕ → List ℕ
upto n = range_with_len 0 n

-- line n
abbrev pub line_text : List (List ℕ) → ℕ → List ℕ
line_text ls n = slice_index_or ls n []

-- the offset of line n: the size of the lines before it
unfoldable pub line_offset : (List ℕ → ℕ) → List (List ℕ) → ℕ → ℕ
line_offset size ls n = sum_by size (take n ls)

-- the last line whose offset is at most o
unfoldable pub line_at : (List ℕ → ℕ) → List (List ℕ) → ℕ → ℕ
line_at size ls o =
    unwrap_or (last_or None (filter (λ n. nat_le (line_offset size ls n) o) (upto (length ls)))) 0

-- how far behind the start of its line an offset lies
unfoldable pub column_at : (List ℕ → ℕ) → List (List ℕ) → ℕ → ℕ
column_at size ls o = o - line_offset size ls (line_at size ls o)

-- the number of characters that the first b bytes of a text are, if they are whole characters
unfoldable pub char_offset : List ℕ → ℕ → Option ℕ
char_offset t b = find (λ n. byte_len (take n t) == b) (upto (suc (length t)))
