-- What the lines of an entry caught together. What a group catches replaces what it caught before, and the place
-- begins anew at a line that names a file or a line.
use Rattle.std.specs.Prelude.{ℕ, ◌^◌, ◌==◌, nat_lt, Bool, false, not, ◌&&◌, ◌||◌, if◌then◌else◌}
use Rattle.std.specs.Prelude.{List, [], ◌∷◌, drop, length}
use Rattle.std.specs.Prelude.{Option, Some, None, is_some, option_and_then}
use Rattle.std.specs.List.{list_any}
use Rattle.std.specs.Option.{option_or}
use Rattle.std.specs.Str.{all_ascii_digits, trim}
use Rattle.std.specs.Str.Parse.{digits_value}
use Rattle.ariadne_matchers.specs.Catches.{Catch, Cut}
use Rattle.ariadne_matchers.specs.declared.lasts.Group.{Group}
use Rattle.ariadne_matchers.specs.declared.lasts.Group.TheVariants.{File, Line, Column, EndLine, EndColumn}
use Rattle.ariadne_matchers.specs.declared.lasts.Group.TheVariants.{Severity, Code, Quoted, Marks}

-- what a group caught of a line
abbrev pub cut_in : Group → Catch → Option Cut
cut_in File caught = caught.file
cut_in Line caught = caught.line
cut_in Column caught = caught.column
cut_in EndLine caught = caught.end_line
cut_in EndColumn caught = caught.end_column
cut_in Severity caught = caught.severity
cut_in Code caught = caught.code
cut_in Quoted caught = caught.quoted
cut_in Marks caught = caught.marks

-- what it caught last
abbrev pub last_of : Group → List Catch → Option Cut
last_of group [] = None
last_of group (caught ∷ lines) = option_or (last_of group lines) (cut_in group caught)

-- a line names a file or a line
abbrev pub names_place : Catch → Bool
names_place caught = is_some caught.file || is_some caught.line

-- the lines from the last such one on, which tell the place
abbrev pub place_lines : List Catch → List Catch
place_lines [] = []
place_lines (caught ∷ lines) = if list_any names_place lines then place_lines lines else caught ∷ lines

-- the number that a text of decimal digits is, if it has some, and 32 bits have it
unfoldable pub number_in : List ℕ → Option ℕ
number_in text =
    if nat_lt 0 (length text) && all_ascii_digits text && nat_lt (digits_value 10 text) (2 ^ 32)
    then Some (digits_value 10 text) else None

-- that of what was caught
abbrev pub number_of : Option Cut → Option ℕ
number_of caught = option_and_then (λ cut. number_in cut.text) caught

-- ---- the lines that are taken in

-- a line names a file
abbrev pub names_file : Catch → Bool
names_file caught = is_some caught.file

-- it tells something of the place in the file, and something beside the place
abbrev pub is_of_place : Catch → Bool
is_of_place caught =
    is_some caught.line || is_some caught.column || is_some caught.end_line || is_some caught.end_column
    || is_some caught.quoted || is_some caught.marks

abbrev pub is_beside : Catch → Bool
is_beside caught = is_some caught.severity || is_some caught.code || is_some caught.message

-- something of it counts: none of the lines behind it began the place anew, or named another file
abbrev pub is_kept_before : List Catch → Catch → Bool
is_kept_before behind caught =
    is_beside caught || names_file caught && not (list_any names_file behind)
    || is_of_place caught && not (list_any names_place behind)

-- a line has blanks alone
abbrev pub is_blank : List ℕ → Bool
is_blank line = length (trim line) == 0

-- a line is taken in for the diagnostic that is blank, or of which something counts
abbrev pub is_taken_before : List Catch → Bool
is_taken_before [] = false
is_taken_before (caught ∷ behind) = is_blank caught.row || is_kept_before behind caught

abbrev pub is_taken_in : List Catch → ℕ → Bool
is_taken_in lines place = is_taken_before (drop place lines)
