-- Which entries lines are tried by: people's own, and behind them those of the program, if one of these may begin with
-- the first line. The others begin with no line that has nothing of the pattern for this.
use Rattle.std.specs.Prelude.{ℕ, ◌≡◌, ◌⊎◌, ⊤, ◌+◌, ◌-◌, ◌^◌, min, ◌==◌, Bool, false, ◌||◌, if◌then◌else◌, List, [], ◌∷◌, map}
use Rattle.std.specs.Prelude.{Option, Some, None, is_some, option_map}
use Rattle.std.specs.List.{slice_get}
use Rattle.std.specs.Option.{option_or}
use Rattle.regex.specs.Patterns.{Re, find_str}
use Rattle.regex.specs.Strings.{matcher_pattern}
use Rattle.ariadne_matchers.specs.Catches.{Catch, caught_at}
use Rattle.ariadne_matchers.specs.MatchedRows.{open_yet, takes, Pattern, Taking}
use Rattle.ariadne_matchers.specs.Readers.{entries_of, first_fit, rows_in, words_of}
use Rattle.ariadne_matchers.specs.declared.entry.Entry.{Entry}
use Rattle.ariadne_matchers.specs.declared.entry.Word.{Word}
use Rattle.ariadne_matchers.specs.declared.reader.Reader.{Reader}
use Rattle.ariadne_matching.specs.declared.matchers.EntryAt.{EntryAt}
use Rattle.ariadne_matching.specs.declared.matchers.EntryAt.TheVariants.{Own, Program as Programs}
use Rattle.ariadne_matching.specs.declared.matchers.Matchers.{Matchers}
use Rattle.ariadne_matching.specs.declared.matchers.Program.{Program}
use Rattle.ariadne_matching.specs.declared.matchers.Search.{Search}
use Rattle.ariadne_matching.specs.declared.matchers.Search.TheVariants as search

-- ---- places

-- two of them are one
abbrev pub is_place : EntryAt → EntryAt → Bool
is_place (Own number) (Own other) = number == other
is_place (Own number) (Programs other) = false
is_place (Programs number) (Own other) = false
is_place (Programs number) (Programs other) = number == other

-- another number in the same table, and the next one, if there is a greater number
abbrev pub renumbered : EntryAt → ℕ → EntryAt
renumbered (Own _) number = Own number
renumbered (Programs _) number = Programs number

abbrev pub number_behind : ℕ → ℕ
number_behind number = min (number + 1) (2 ^ 64 - 1)

abbrev pub place_behind : EntryAt → EntryAt
place_behind (Own number) = Own (number_behind number)
place_behind (Programs number) = Programs (number_behind number)

-- ---- what is held

-- the rows of the program's entries, if they were read
abbrev pub rows_read : Option Reader → List (List Pattern)
rows_read None = []
rows_read (Some reader) = rows_in reader

abbrev pub program_rows : Program → List (List Pattern)
program_rows program = rows_read program.reader

-- the entry of a number, and the words for severities, if they were read
abbrev pub entry_read : Option Reader → ℕ → Option Entry
entry_read None number = None
entry_read (Some reader) number = slice_get (entries_of reader) number

abbrev pub words_read : Option Reader → List Word
words_read None = []
words_read (Some reader) = words_of reader

-- the entry at a place, and the words of its table
abbrev pub entry_at : Matchers → EntryAt → Option Entry
entry_at matchers (Own number) = slice_get (entries_of matchers.own) number
entry_at matchers (Programs number) = entry_read matchers.program.reader number

abbrev pub words_at : Matchers → EntryAt → List Word
words_at matchers (Own number) = words_of matchers.own
words_at matchers (Programs number) = words_read matchers.program.reader

abbrev pub own_entries : Matchers → List Entry
own_entries matchers = entries_of matchers.own

abbrev pub has_own : Matchers → Bool
has_own matchers = is_some (entry_at matchers (Own 0))

abbrev pub has_programs : Matchers → Bool
has_programs matchers = is_some (entry_at matchers (Programs 0))

-- what is held of an entry that lines may fit
abbrev pub search_told : Search → Option (EntryAt × Taking)
search_told search.Nothing = None
search_told (search.Open place) = Some (place, open_yet)
search_told (search.Fits place fit) = Some (place, takes (map caught_at fit.lines.items))

-- the place of an entry that fits has its number
abbrev pub IsNumbered : Search → Type 0
IsNumbered search.Nothing = ⊤
IsNumbered (search.Open place) = ⊤
IsNumbered (search.Fits place fit) = place ≡ renumbered place fit.entry

-- ---- which entries are tried

-- one of the program's may begin with the first of some lines
abbrev pub begins_with : Re → List (List ℕ) → Bool
begins_with begins [] = false
begins_with begins (line ∷ lines) = is_some (find_str begins line 0)

-- the first of the program's that counts from a number on
abbrev pub fits_program : Re → List (List Pattern) → ℕ → Bool → List (List ℕ) → Option (ℕ × Taking)
fits_program begins rows from is_all lines =
    if begins_with begins lines then first_fit from rows is_all lines else None

-- an entry by its number in people's own table, and in the program's
abbrev pub as_own : Option (ℕ × Taking) → Option (EntryAt × Taking)
as_own = option_map (λ it. (Own it.0, it.1))

abbrev pub as_programs : Option (ℕ × Taking) → Option (EntryAt × Taking)
as_programs = option_map (λ it. (Programs it.0, it.1))

-- the first that counts from one on
abbrev pub fits_first : List (List Pattern) → Re → List (List Pattern) → EntryAt → Bool → List (List ℕ) → Option (EntryAt × Taking)
fits_first own begins program (Own from) is_all lines =
    option_or (as_own (first_fit from own is_all lines)) (as_programs (fits_program begins program 0 is_all lines))
fits_first own begins program (Programs from) is_all lines =
    as_programs (fits_program begins program from is_all lines)

-- ---- what is tried with what is held

-- the pattern with which the program's begin, and whether one may begin with the first of some lines
abbrev pub begins_of : Matchers → Re
begins_of matchers = matcher_pattern matchers.program.begins

abbrev pub may_begin_with : Matchers → List (List ℕ) → Bool
may_begin_with matchers lines = has_own matchers || begins_with (begins_of matchers) lines

-- the first that counts from one on
abbrev pub tried : Matchers → EntryAt → Bool → List (List ℕ) → Option (EntryAt × Taking)
tried matchers from is_all lines =
    fits_first (rows_in matchers.own) (begins_of matchers) (program_rows matchers.program) from is_all lines

-- people's own entries and the pattern stay, and those of the program, once they were read
pub record AreKept (before : Matchers) (after : Matchers) : Type 0 where
  pub own : rows_in after.own ≡ rows_in before.own
  pub begins : begins_of after ≡ begins_of before
  pub program : (program_rows before.program ≡ []) ⊎ (program_rows after.program ≡ program_rows before.program)

-- an entry is tried: the first one, or the one behind one that fits the lines
pub data IsReached (matchers : Matchers) (is_all : Bool) (lines : List (List ℕ)) : EntryAt → Type 0 where
  foremost : IsReached matchers is_all lines (Own 0)
  behind : {from : EntryAt} {place : EntryAt} {caught : List Catch} → IsReached matchers is_all lines from
      → tried matchers from is_all lines ≡ Some (place, takes caught) → IsReached matchers is_all lines (place_behind place)
