-- What the columns of a line count, and the characters of a text that they mean. Lines count from 1
-- and end at line feeds alone, as compilers count them. Columns count from 1, offsets count characters
-- from 0, and a text is a list of characters.
use Rattle.std.specs.Prelude.{ℕ, zero, suc, ◌+◌, ◌-◌, ◌%◌, ◌^◌, Bool, false, not, ◌&&◌, ◌||◌, ◌==◌}
use Rattle.std.specs.Prelude.{nat_le, nat_lt, max, min, if◌then◌else◌, List, [], ◌∷◌, drop, take, Option, None}
use Rattle.std.specs.Prelude.{count_by, fold, option_map, unwrap_or, slice_get}
use Rattle.std.specs.Io.BufRead.{strip_last}
use Rattle.std.specs.List.{prefix_len}
use Rattle.std.specs.Char.{is_ascii_alphanumeric, len_utf8}
use Rattle.unicode_width.specs.Width.{char_width}
use Rattle.ariadne_parse.specs.declared.unit.Unit.{Unit}
use Rattle.ariadne_parse.specs.declared.unit.Unit.TheVariants.{Byte, Char, Display, Utf16}

-- ---- columns

-- the columns of a character that stands behind `at` columns of its line. UTF-16 has two units for those past
-- U+FFFF. On a terminal a tab reaches
-- to the next multiple of 8, and what has no width of its own has one column
unfoldable pub columns_of : Unit → ℕ → ℕ → ℕ
columns_of Byte at c = len_utf8 c
columns_of Char at c = 1
columns_of Utf16 at c = if nat_lt 65535 c then 2 else 1
columns_of Display at c = if c == 9 then 8 - at % 8 else unwrap_or (char_width false c) 1

-- how many characters end at most `limit` columns behind the start of their line, of which `at` are
-- passed; none behind the line feed that ends it
unfoldable pub passed : Unit → ℕ → ℕ → List ℕ → ℕ
passed unit limit at [] = 0
passed unit limit at (c ∷ line) =
    let behind = at + columns_of unit at c in
    if not (c == 10) && nat_le behind limit then suc (passed unit limit behind line) else 0

-- the column of the character behind the first k of a line
unfoldable pub columns_before : Unit → ℕ → ℕ → List ℕ → ℕ
columns_before unit at zero line = at
columns_before unit at (suc k) [] = at
columns_before unit at (suc k) (c ∷ line) = columns_before unit (at + columns_of unit at c) k line

-- ---- lines

-- where lines begin in a text that stands at an offset: behind each line feed
unfoldable pub begins_behind : ℕ → List ℕ → List ℕ
begins_behind at [] = []
begins_behind at (c ∷ t) =
    if c == 10 then (at + 1) ∷ begins_behind (at + 1) t else begins_behind (at + 1) t

-- where the lines of a text begin
abbrev pub line_begins : List ℕ → List ℕ
line_begins t = 0 ∷ begins_behind 0 t

-- where a line begins, if the text has it
unfoldable pub line_start : List ℕ → ℕ → Option ℕ
line_start t zero = None
line_start t (suc line) = slice_get (line_begins t) line

-- the offset of a column of a line, if the text has that line: at most the end of the line
unfoldable pub offset_of : Unit → List ℕ → ℕ → ℕ → Option ℕ
offset_of unit t line column =
    option_map (λ start. start + passed unit (column - 1) 0 (drop start t)) (line_start t line)

-- the first line of a text, without the line feed that ends it, and a carriage return in front of that
abbrev pub first_line : List ℕ → List ℕ
first_line t = strip_last 13 (take (prefix_len (λ c. not (c == 10)) t) t)

-- a line, if the text has it
unfoldable pub line_of : List ℕ → ℕ → Option (List ℕ)
line_of t line = option_map (λ start. first_line (drop start t)) (line_start t line)

-- ---- locations

-- the number of the line that an offset stands in: how many lines begin up to there
abbrev pub line_at : List ℕ → ℕ → ℕ
line_at t offset = count_by (λ begin. nat_le begin offset) (line_begins t)

-- where it begins
abbrev pub start_at : List ℕ → ℕ → ℕ
start_at t offset = unwrap_or (line_start t (line_at t offset)) 0

-- how many columns the characters of a line take, up to the greatest number
abbrev pub columns_in : Unit → List ℕ → ℕ
columns_in unit line = fold (λ at c. min (at + columns_of unit at c) (2 ^ 64 - 1)) 0 line

-- the column of an offset: those in front of it in its line, and one more
abbrev pub column_at : Unit → List ℕ → ℕ → ℕ
column_at unit t offset =
    min (columns_in unit (drop (start_at t offset) (take offset t)) + 1) (2 ^ 64 - 1)

-- ---- words

-- letters and digits of ASCII, the low line, and all that is not ASCII
abbrev pub is_word : ℕ → Bool
is_word c = is_ascii_alphanumeric c || (c == 95) || nat_le 128 c

-- the end of the word at an offset: behind one character where none stands there
unfoldable pub word_end : List ℕ → ℕ → ℕ
word_end t start = start + max (prefix_len is_word (drop start t)) 1
