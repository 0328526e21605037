-- Which lines an entry fits. Its rows are gone through in their order, without a way back: a line that fits a
-- row which may fit one more belongs to it, even if a later row fits too. Lines are those from a place on: all,
-- or the first of them where more may come.
use Rattle.std.specs.Prelude.{ℕ, ◌==◌, nat_le, Bool, true, false, not, ◌&&◌, ◌||◌, if◌then◌else◌}
use Rattle.std.specs.Prelude.{List, [], ◌∷◌, ◌++◌, drop, length, map, take}
use Rattle.std.specs.Borrow.{Bor}
use Rattle.std.specs.Option.{some_prefix}
use Rattle.regex.specs.Patterns.{Re}
use Rattle.regex.specs.Strings.{matcher_pattern, regex_pattern}
use Rattle.ariadne_matchers.specs.Catches.{Catch, catch_by, caught_at}
use Rattle.ariadne_matchers.specs.declared.entry.Entry.{Entry}
use Rattle.ariadne_matchers.specs.declared.entry.Groups.{Groups}
use Rattle.ariadne_matchers.specs.declared.entry.Often.{Often}
use Rattle.ariadne_matchers.specs.declared.entry.Often.TheVariants.{Once, Maybe, Many, Loop}
use Rattle.ariadne_matchers.specs.declared.entry.Row.{Row}
use Rattle.ariadne_matchers.specs.declared.rows.EntrySearch.{EntrySearch}
use Rattle.ariadne_matchers.specs.declared.rows.RowSearch.{RowSearch}
use Rattle.ariadne_matchers.specs.declared.rows.Taken.{Taken}
use Rattle.ariadne_matchers.specs.declared.rows.Taken.TheVariants.{Open, Unfit, Lines}

-- how many lines a row may fit, what they look like, and what its groups catch
pub record Pattern : Type 0 where
  pub often : Often
  pub re : Re
  pub groups : Groups

-- what rows take of lines: the next line tells; they don't fit; or these, with what was caught of them
pub data Taking : Type 0 where
  open_yet : Taking
  unfit : Taking
  takes : List Catch → Taking

-- ---- what is held of them

abbrev pub row_in : Row → Pattern
row_in row = record { often = row.often; re = regex_pattern row.pattern; groups = row.groups }

abbrev pub entry_in : Entry → List Pattern
entry_in entry = map row_in entry.rows.items

abbrev pub row_of : RowSearch → Pattern
row_of search = record { often = search.often; re = matcher_pattern search.matcher; groups = search.groups }

abbrev pub rows_of : EntrySearch → List Pattern
rows_of search = map row_of search.rows.items

abbrev pub taken_told : Taken → Taking
taken_told Open = open_yet
taken_told Unfit = unfit
taken_told (Lines caught) = takes (map caught_at caught.items)

abbrev pub texts : List (Bor (List ℕ)) → List (List ℕ)
texts lines = map (λ line. line.now) lines

-- ---- one row

-- the lines that a row may fit
abbrev pub reach : Often → List (List ℕ) → List (List ℕ)
reach Once lines = take 1 lines
reach Maybe lines = take 1 lines
reach Many lines = lines
reach Loop lines = take 1 lines

-- a row has to fit a line
abbrev pub is_needed : Often → Bool
is_needed Once = true
is_needed Maybe = false
is_needed Many = false
is_needed Loop = true

-- a row may fit as many lines as it can
abbrev pub is_many : Often → Bool
is_many Once = false
is_many Maybe = false
is_many Many = true
is_many Loop = false

-- a row that fits so many of the lines that it may fit could fit one more
abbrev pub is_open : Often → ℕ → ℕ → Bool
is_open often lines caught = caught == lines && (is_many often || caught == 0)

-- what it catches of those that fit, from the first on
abbrev pub caught_front : Pattern → List (List ℕ) → List Catch
caught_front row lines = some_prefix (map (catch_by row.re row.groups) lines)

-- what it takes: of lines that are not all that there are the next may tell
abbrev pub taken_of : Often → Bool → ℕ → List Catch → Taking
taken_of often is_all lines caught =
    if not is_all && is_open often lines (length caught) then open_yet else
    (if length caught == 0 && is_needed often then unfit else takes caught)

unfoldable pub taken_by : Pattern → Bool → List (List ℕ) → Taking
taken_by row is_all lines =
    taken_of row.often is_all (length (reach row.often lines)) (caught_front row (reach row.often lines))

-- ---- all rows

-- lines in front of those that are taken
abbrev pub before : List Catch → Taking → Taking
before front open_yet = open_yet
before front unfit = unfit
before front (takes behind) = takes (front ++ behind)

-- what is taken by a row, and behind its lines by the next ones
abbrev pub go_on : Taking → (List Catch → Taking) → Taking
go_on open_yet next = open_yet
go_on unfit next = unfit
go_on (takes front) next = before front (next front)

unfoldable pub fit_rows : List Pattern → Bool → List (List ℕ) → Taking
fit_rows [] is_all lines = takes []
fit_rows (row ∷ rows) is_all lines =
    go_on (taken_by row is_all lines) (λ front. fit_rows rows is_all (drop (length front) lines))

-- an entry takes 64 lines at most
unfoldable pub fit_entry : List Pattern → Bool → List (List ℕ) → Taking
fit_entry rows is_all lines = fit_rows rows (is_all || nat_le 64 (length lines)) (take 64 lines)
