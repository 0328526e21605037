-- A file whose lines rows quote. A column that would pass the greatest number of the machine is that number.
use Rattle.std.specs.Prelude.{ℕ, ◌+◌, ◌-◌, ◌^◌, ◌==◌, min, Bool, false, ◌&&◌, List, [], length, slice_index}
use Rattle.std.specs.Char.{is_ascii_digit}
use Rattle.std.specs.List.{list_any}
use Rattle.std.specs.Str.{trim_start}
use Rattle.std.specs.Prelude.{Option, None, Some, option_and_then, option_map, unwrap_or}
use Rattle.ariadne_parse.specs.Columns.{column_at, line_of, offset_of}
use Rattle.ariadne_parse.specs.declared.unit.Unit.{Unit}
use Rattle.ariadne_parse.specs.declared.unit.Unit.TheVariants.{Byte, Char, Display, Utf16}
use Rattle.ariadne_snippets.specs.Snippets.{number_quoted}
use Rattle.ariadne_snippets.specs.declared.snippet.Snippet.{Snippet}
use Rattle.ariadne_snippets.specs.declared.taken.Point.{Point}
use Rattle.ariadne_parse.specs.Spans.{Seen}
use Rattle.ariadne_blocks.specs.declared.file.QuotedFile.{QuotedFile}

-- its characters, what a column in bytes counts in it, and how many lines stand above those that are held
pub record File : Type 0 where
  pub characters : List ℕ
  pub byte_unit : Unit
  pub above : ℕ

abbrev pub file_of : QuotedFile → File
file_of file = record {
  characters = file.columns.now;
  byte_unit = file.byte_unit;
  above = file.above;
}

-- a line of it without what ends it, if it has that
abbrev pub line_in : File → ℕ → Option (List ℕ)
line_in file line = line_of file.characters (line - file.above)

-- what columns count in it
abbrev pub unit_in : File → Unit → Unit
unit_in file Byte = file.byte_unit
unit_in file Char = Char
unit_in file Utf16 = Utf16
unit_in file Display = Display

-- the column, from 1, of the character with this number, from 0
abbrev pub char_column : ℕ → ℕ
char_column offset = min (offset + 1) (2 ^ 64 - 1)

-- the offset of a point, if the file has its line
abbrev pub offset_in : File → Point → Option ℕ
offset_in file at = offset_of Char file.characters (at.line - file.above) (char_column at.offset)

-- the column of a point by what it counts: characters, where the file has no such line, or is not held
abbrev pub column_at_offset : File → Unit → ℕ → ℕ
column_at_offset file unit offset =
    column_at (unit_in file unit) file.characters (min offset (length file.characters))

abbrev pub column_in_file : File → Unit → Point → ℕ
column_in_file file unit at =
    unwrap_or (option_map (column_at_offset file unit) (offset_in file at)) (char_column at.offset)

abbrev pub column_in : Option File → Unit → Point → ℕ
column_in None unit at = char_column at.offset
column_in (Some file) unit at = column_in_file file unit at

-- the line with a number, if the file is held and has it
abbrev pub source_in : Option File → Option ℕ → Option (List ℕ)
source_in file number = option_and_then (λ file. option_and_then (line_in file) number) file

-- the path of the file of a span, if there is one
abbrev pub file_at : Option Seen → List ℕ
file_at None = []
file_at (Some span) = span.file

-- the line that it begins in; 0 where there is none
abbrev pub line_at : Option Seen → ℕ
line_at None = 0
line_at (Some span) = span.start.line

-- a text begins with a digit, behind white space
abbrev pub begins_with_number : List ℕ → Bool
begins_with_number text = is_ascii_digit (slice_index (trim_start text) 0)

-- a line has an escape
abbrev pub has_escape : Option (List ℕ) → Bool
has_escape None = false
has_escape (Some line) = list_any (λ c. c == 27) line

-- a text quotes a line with an escape, behind a gutter
abbrev pub quotes_escape : Option File → Snippet → List ℕ → Bool
quotes_escape file snippet text =
    has_escape (source_in file (number_quoted snippet text)) && begins_with_number text
