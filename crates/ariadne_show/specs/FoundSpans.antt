-- Where spans stand in the files that were read. Offsets count characters from 0, and a column that
-- would pass the greatest number of the machine is that number.
use Rattle.std.specs.Prelude.{ℕ, ◌+◌, ◌-◌, ◌^◌, ◌==◌, max, min, nat_le, nat_lt, Bool, ◌&&◌, ◌||◌}
use Rattle.std.specs.Prelude.{true, false, if◌then◌else◌, List, length}
use Rattle.std.specs.Prelude.{Option, Some, None, is_some, option_map, option_and_then, unwrap_or}
use Rattle.std.specs.HashMap.{get_by_text}
use Rattle.std.specs.Prelude.{string_bytes}
use Rattle.std.specs.declared.ops.Range.{Range}
use Rattle.ariadne_parse.specs.Columns.{offset_of, word_end}
use Rattle.ariadne_parse.specs.declared.unit.Unit.{Unit}
use Rattle.ariadne_parse.specs.declared.unit.Unit.TheVariants.{Byte, Char, Display, Utf16}
use Rattle.ariadne_parse.specs.declared.diagnostic.End.{End}
use Rattle.ariadne_parse.specs.declared.diagnostic.End.TheVariants.{Before, Behind, OfWord}
use Rattle.ariadne_parse.specs.declared.diagnostic.Span.{Span}
use Rattle.ariadne_parse.specs.declared.diagnostic.Location.{Location}
use Rattle.ariadne_show.specs.declared.found.FoundSpan.{FoundSpan}
use Rattle.ariadne_show.specs.declared.held.HeldFile.{HeldFile}
use Rattle.ariadne_show.specs.declared.shelf.Shelf.{Shelf}

-- ---- files

-- what is held of the file at a path: nothing where it was not tried, or can't be read
abbrev pub Files : Type 0
Files = List ℕ → Option (Option HeldFile)

-- of those that were read
abbrev pub read_in : Shelf → Files
read_in shelf path = get_by_text shelf.files path

-- and of those that a diagnostic quotes
abbrev pub quoted_in : Shelf → List ℕ → Option HeldFile
quoted_in shelf path = get_by_text shelf.quoted path

-- what was read comes first
abbrev pub read_or_quoted : Option (Option HeldFile) → Option HeldFile → Option (Option HeldFile)
read_or_quoted None None = None
read_or_quoted None (Some held) = Some (Some held)
read_or_quoted (Some None) quoted = Some quoted
read_or_quoted (Some (Some held)) quoted = Some (Some held)

abbrev pub files_of : Shelf → Files
files_of shelf path = read_or_quoted (read_in shelf path) (quoted_in shelf path)

abbrev pub held_at : Files → List ℕ → Option HeldFile
held_at files path = option_and_then (λ held. held) (files path)

-- ---- spans in a file

-- what columns count: where a file is not UTF-8, each byte is a character
abbrev pub unit_in : HeldFile → Unit → Unit
unit_in held Byte = if held.is_utf8 then Byte else Char
unit_in held Char = Char
unit_in held Utf16 = Utf16
unit_in held Display = Display

-- how many bytes of a byte order mark the columns of a line leave out
abbrev pub mark_before : HeldFile → Bool → ℕ → ℕ
mark_before held is_past_mark line =
    if held.has_mark && (is_past_mark && line == 1) then 3 else 0

-- the offset of a location, which is at this column where it names none, if the file has its line
unfoldable pub location_by : HeldFile → Unit → Bool → Location → ℕ → Option ℕ
location_by held unit is_past_mark location column =
    offset_of (unit_in held unit) held.columns (location.line - held.above)
    (min (unwrap_or location.column column + mark_before held is_past_mark location.line) (2 ^ 64 - 1))

-- that of a location of a span
abbrev pub location_in : HeldFile → Span → Location → ℕ → Option ℕ
location_in held span location column = location_by held span.unit span.is_past_mark location column

-- that of the location where a span ends: the end of its line, where it names no column; the end of what is
-- held of the file, where that has no such line, and its start, where the line stands above it
unfoldable pub end_location_in : HeldFile → Span → Location → ℕ
end_location_in held span location =
    unwrap_or (location_in held span location (2 ^ 64 - 1))
    (if nat_le location.line held.above then 0 else length held.columns)

-- where a span ends that starts at an offset
abbrev pub end_of : HeldFile → Span → ℕ → End → ℕ
end_of held span start (Before location) = end_location_in held span location
end_of held span start (Behind location) = min (end_location_in held span location + 1) (2 ^ 64 - 1)
end_of held span start OfWord =
    if is_some span.start.column then word_end held.columns start else end_location_in held span span.start

-- the characters of a span itself, if the file has its start
unfoldable pub own_range_in : HeldFile → Span → Option (Range ℕ)
own_range_in held span =
    option_map (λ start. record { start = start; end = max (end_of held span start span.end) start })
    (location_in held span span.start 1)

-- the offset of a location whose column counts characters
unfoldable pub char_at : HeldFile → Location → Option ℕ
char_at held location =
    offset_of Char held.columns (location.line - held.above) (unwrap_or location.column 1)

-- the characters that marks cover, from a location up to another
unfoldable pub marked_in : HeldFile → Location × Location → Option (Range ℕ)
marked_in held marks =
    option_and_then
    (λ start. option_map (λ end. record { start = start; end = max end start }) (char_at held marks.1))
    (char_at held marks.0)

-- those of a span: those that marks cover, where it has some
abbrev pub range_by : HeldFile → Span → Option (Location × Location) → Option (Range ℕ)
range_by held span None = own_range_in held span
range_by held span (Some marks) = marked_in held marks

abbrev pub range_in : HeldFile → Span → Option (Range ℕ)
range_in held span = range_by held span span.marks

-- a span points at a column that counts characters, which is sure
abbrev pub is_char : Unit → Bool
is_char Char = true
is_char Byte = false
is_char Utf16 = false
is_char Display = false

abbrev pub is_sure : Span → Bool
is_sure span = is_some span.caret.column && is_char span.unit

-- the character that the tool points at: the first that its marks cover, where they don't cover that one,
-- and its column isn't sure
abbrev pub caret_in_marks : Option (Range ℕ) → ℕ → ℕ
caret_in_marks None caret = caret
caret_in_marks (Some marked) caret =
    if nat_lt caret marked.start || nat_le marked.end caret then marked.start else caret

abbrev pub caret_by : HeldFile → Span → Option (Location × Location) → ℕ → ℕ
caret_by held span None caret = caret
caret_by held span (Some marks) caret =
    if is_sure span then caret else caret_in_marks (marked_in held marks) caret

abbrev pub caret_in : HeldFile → Span → Option ℕ
caret_in held span = option_map (caret_by held span span.marks) (location_in held span span.caret 1)

-- ---- spans that were found

-- the number of a file, the character that the tool points at, those of a span, and whether the file has
-- the first of these
pub record FoundFields : Type 0 where
  pub number : ℕ
  pub caret : ℕ
  pub start : ℕ
  pub end : ℕ
  pub is_in_text : Bool
  pub span : Span

abbrev pub found_of : FoundSpan → FoundFields
found_of it = record {
  number = it.number;
  caret = it.caret;
  start = it.start;
  end = it.end;
  is_in_text = it.is_in_text;
  span = it.span.now;
}

-- where a span stands in a file, which points at its start where the file has no caret, and whether the
-- file has its first character
abbrev pub found_at : HeldFile → Span → Range ℕ → FoundFields
found_at held span range = record {
  number = held.number;
  caret = unwrap_or (caret_in held span) range.start;
  start = range.start;
  end = range.end;
  is_in_text = nat_lt range.start (length held.columns);
  span = span;
}

-- where it stands in the files, if its own could be read and has it
unfoldable pub found_in : Files → Span → Option FoundFields
found_in files span =
    option_and_then (λ held. option_map (found_at held span) (range_in held span))
    (held_at files (string_bytes span.file))

abbrev pub is_found : Files → Span → Bool
is_found files span = is_some (found_in files span)
