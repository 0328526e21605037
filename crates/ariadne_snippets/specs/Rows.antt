-- What rows below a quoted line are made of. Characters stand as their numbers: 9 is a tab, 32 a blank, 45
-- `-`, 94 `^`, 95 the stroke `_`, 124 the bar.
use Rattle.std.specs.Prelude.{ℕ, ◌+◌, ◌-◌, ◌^◌, ◌==◌, min, nat_le, nat_lt, Bool, ◌&&◌, ◌||◌, List, Option, chars, fold}
use Rattle.std.specs.List.{list_all, list_any, position, prefix_len}
use Rattle.ariadne_parse.specs.Columns.{columns_of}
use Rattle.ariadne_parse.specs.declared.unit.Unit.{Unit}
use Rattle.ariadne_snippets.specs.Marks.{is_mark}
use Rattle.ariadne_snippets.specs.declared.run.Run.{Run}

-- a blank or a tab
abbrev pub is_gap : ℕ → Bool
is_gap c = c == 32 || c == 9

-- nothing but blanks; and bars; or `-`
abbrev pub is_blank_row : List ℕ → Bool
is_blank_row row = list_all is_gap row

abbrev pub is_bar_row : List ℕ → Bool
is_bar_row row = list_all (λ c. is_gap c || c == 124) row

abbrev pub is_dash_row : List ℕ → Bool
is_dash_row row = list_all (λ c. is_gap c || c == 45) row

-- a mark, or what stands between marks
abbrev pub is_of_marks : ℕ → Bool
is_of_marks c = is_mark c || (is_gap c || c == 124)

-- a mark, and nothing but marks, blanks and bars
abbrev pub is_mark_row : List ℕ → Bool
is_mark_row row = list_any is_mark row && list_all is_of_marks row

-- how far a row is one of marks, with the strokes that lead to them
abbrev pub marks_length : List ℕ → ℕ
marks_length row = prefix_len (λ c. is_of_marks c || c == 95) row

-- the column behind characters that begin in one, up to the greatest number
abbrev pub column_past : Unit → ℕ → List ℕ → ℕ
column_past unit column characters =
    fold (λ at c. min (at + columns_of unit at c) (2 ^ 64 - 1)) column characters

-- the column behind a text
abbrev pub column_behind : Unit → ℕ → List ℕ → ℕ
column_behind unit column text = column_past unit column (chars text)

-- the number of the first run that has a column
abbrev pub run_with : List Run → ℕ → Option ℕ
run_with runs column = position (λ run. nat_le run.start column && nat_lt column run.end) runs
