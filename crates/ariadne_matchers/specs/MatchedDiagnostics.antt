-- The diagnostic that lines tell, by what an entry's rows caught of them. Lines and columns count from 1.
use Rattle.std.specs.Prelude.{ℕ, zero, suc, ◌≡◌, ◌+◌, ◌-◌, nat_le, max, if◌then◌else◌}
use Rattle.std.specs.Prelude.{List, [], Option, Some, None, option_and_then, option_map, string_bytes}
use Rattle.std.specs.Option.{unwrap_or}
use Rattle.ariadne_matchers.specs.Catches.{Catch, Cut}
use Rattle.ariadne_matchers.specs.Lasts.{last_of, number_of, place_lines}
use Rattle.ariadne_matchers.specs.QuotedMarks.{marks_by, marks_told}
use Rattle.ariadne_matchers.specs.MatchedMessages.{message_of, unescaped}
use Rattle.ariadne_matchers.specs.WordSeverities.{severity_by}
use Rattle.ariadne_matchers.specs.declared.entry.Entry.{Entry}
use Rattle.ariadne_matchers.specs.declared.entry.Word.{Word}
use Rattle.ariadne_matchers.specs.declared.lasts.Group.TheVariants as group
use Rattle.ariadne_matchers.specs.declared.matched.Begin.{Begin}
use Rattle.ariadne_matchers.specs.declared.matched.Begin.TheVariants as begins
use Rattle.ariadne_matchers.specs.declared.matched.End.{End}
use Rattle.ariadne_matchers.specs.declared.matched.Matched.{Matched}

-- ---- the place

-- the file that lines name, and the line, if they name both
abbrev pub line_named : List Catch → Option ℕ
line_named lines = number_of (last_of group.Line (place_lines lines))

abbrev pub with_line : List Catch → Cut → Option (Cut × ℕ)
with_line lines file = option_map (λ line. (file, line)) (line_named lines)

unfoldable pub named_place : List Catch → Option (Cut × ℕ)
named_place lines = option_and_then (with_line lines) (last_of group.File lines)

-- the lines that tell the rest of the place: none where line 0 stands for the whole file
abbrev pub lines_of_place : ℕ → List Catch → List Catch
lines_of_place zero lines = []
lines_of_place (suc line) lines = place_lines lines

-- a column from 1, by its number, where the first one has another; one below the first is none
abbrev pub column_from_one : ℕ → ℕ → Option ℕ
column_from_one first number = if nat_le first number then Some (number - first + 1) else None

-- it begins at the column that is told, where marks stand if none is, or with its line
abbrev pub begin_at : Option ℕ → Begin
begin_at None = begins.Line
begin_at (Some column) = begins.Column column

abbrev pub begin_of_number : ℕ → Option ℕ → Begin
begin_of_number first None = begins.Marked
begin_of_number first (Some number) = begin_at (column_from_one first number)

abbrev pub begin_by : ℕ → List Catch → Begin
begin_by first lines = begin_of_number first (number_of (last_of group.Column lines))

-- it ends in front of this column: the one behind the last, where an entry's ends are the last one
abbrev pub end_column : Entry → ℕ → ℕ
end_column entry number = max (number + (if entry.ends_at_last then 2 else 1) - entry.first_column) 1

-- the end of a whole line
abbrev pub line_end : ℕ → End
line_end line = record { line = line; column = None }

-- at the end, if one is told: its line is that of the diagnostic where none is told
abbrev pub end_at : Entry → ℕ → Option ℕ → Option ℕ → Option End
end_at entry line last None = option_map line_end last
end_at entry line last (Some number) =
    Some (record { line = unwrap_or last line; column = Some (end_column entry number) })

unfoldable pub end_by : Entry → ℕ → List Catch → Option End
end_by entry line lines =
    end_at entry line (number_of (last_of group.EndLine lines)) (number_of (last_of group.EndColumn lines))

-- ---- the whole

-- a diagnostic is what lines tell that name this place
pub record IsMatchedAt (entry : Entry) (words : List Word) (lines : List Catch) (file : Cut) (line : ℕ) (matched : Matched) : Type 0 where
  pub severity : matched.severity ≡ severity_by words (last_of group.Severity lines) entry.severity
  pub code : option_map string_bytes matched.code ≡ option_map (λ cut. cut.text) (last_of group.Code lines)
  pub message : string_bytes matched.message ≡ message_of entry lines (last_of group.Code lines)
  pub file_is : string_bytes matched.file ≡ unescaped entry.is_escaped file.text
  pub line_is : matched.line ≡ max line 1
  pub begin : matched.begin ≡ begin_by entry.first_column (lines_of_place line lines)
  pub end : matched.end ≡ end_by entry line (lines_of_place line lines)
  pub marks : option_map marks_told matched.marks
      ≡ marks_by entry.measure (last_of group.Quoted (lines_of_place line lines))
      (last_of group.Marks (lines_of_place line lines))

-- lines tell a diagnostic exactly where they name a file and a line
abbrev pub IsMatchedBy : Entry → List Word → List Catch → Option (Cut × ℕ) → Option Matched → Type 0
IsMatchedBy entry words lines None matched = matched ≡ None
IsMatchedBy entry words lines (Some place) matched =
    (one : Matched) × (matched ≡ Some one) × IsMatchedAt entry words lines place.0 place.1 one

abbrev pub IsMatchedOf : Entry → List Word → List Catch → Option Matched → Type 0
IsMatchedOf entry words lines matched = IsMatchedBy entry words lines (named_place lines) matched
