-- The entries of a table at lines: the first that fits counts.
use Rattle.std.specs.Prelude.{ℕ, Bool, true, false, if◌then◌else◌, List, drop, map, Option, Some, None, is_some, string_bytes}
use Rattle.std.specs.List.{enumerate_from, filter, find, list_any}
use Rattle.std.specs.Str.{bytes_eq}
use Rattle.ariadne_matchers.specs.Catches.{Catch, caught_at}
use Rattle.ariadne_matchers.specs.MatchedRows.{fit_entry, open_yet, rows_of, takes, unfit, Pattern, Taking}
use Rattle.ariadne_matchers.specs.MatchedDiagnostics.{named_place}
use Rattle.ariadne_matchers.specs.declared.entry.Entry.{Entry}
use Rattle.ariadne_matchers.specs.declared.entry.Word.{Word}
use Rattle.ariadne_matchers.specs.declared.reader.Fitting.{Fitting}
use Rattle.ariadne_matchers.specs.declared.reader.Fitting.TheVariants as fitting
use Rattle.ariadne_matchers.specs.declared.reader.Reader.{Reader}
use Rattle.ariadne_matchers.specs.declared.table.Table.{Table}

-- ---- the entries

-- those that a reader has, their rows, and its words
abbrev pub entries_of : Reader → List Entry
entries_of reader = map (λ search. search.entry.now) reader.entries.items

abbrev pub rows_in : Reader → List (List Pattern)
rows_in reader = map rows_of reader.entries.items

abbrev pub words_of : Reader → List Word
words_of reader = reader.words.now

-- an entry reads the lines of a tool; each does where none is named
abbrev pub is_read_by : Option (List ℕ) → Entry → Bool
is_read_by None entry = true
is_read_by (Some tool) entry = list_any (λ it. bytes_eq (string_bytes it) tool) entry.tools.items

-- those of a table that do
abbrev pub entries_in : Option (List ℕ) → Table → List Entry
entries_in tool table = filter (is_read_by tool) table.entries.items

-- ---- the first that fits

-- lines name a file and a line
abbrev pub has_place : List Catch → Bool
has_place lines = is_some (named_place lines)

-- an entry counts that fits and names a place, or for which the next line tells
abbrev pub may_count : Taking → Bool
may_count open_yet = true
may_count unfit = false
may_count (takes lines) = has_place lines

abbrev pub counted : ℕ → Taking → Option (ℕ × Taking)
counted number taking = if may_count taking then Some (number, taking) else None

-- what entries take, by their numbers
abbrev pub taken_by_entry : Bool → List (List ℕ) → ℕ × List Pattern → ℕ × Taking
taken_by_entry is_all lines numbered = (numbered.0, fit_entry numbered.1 is_all lines)

-- the first that counts from a number on, and what it takes
unfoldable pub first_fit : ℕ → List (List Pattern) → Bool → List (List ℕ) → Option (ℕ × Taking)
first_fit from entries is_all lines =
    find (λ taken. may_count taken.1) (map (taken_by_entry is_all lines) (enumerate_from from (drop from entries)))

-- what is held of it
abbrev pub fitting_told : Fitting → Option (ℕ × Taking)
fitting_told fitting.Nothing = None
fitting_told (fitting.Open number) = Some (number, open_yet)
fitting_told (fitting.Fits fit) = Some (fit.entry, takes (map caught_at fit.lines.items))
