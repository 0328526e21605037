-- Runs of marks in a row, and the characters of a quoted line that they cover. Columns count from 0, and
-- characters stand as their numbers: 9 is a tab, 45 `-`, 94 `^`, 126 `~`.
use Rattle.std.specs.Prelude.{ℕ, suc, ◌+◌, ◌-◌, ◌%◌, ◌^◌, ◌<◌, ◌≤◌, ◌==◌, nat_le, Bool, ◌&&◌, ◌||◌, if◌then◌else◌}
use Rattle.std.specs.Prelude.{List, [], ◌∷◌, drop, Some, None, IfSome}
use Rattle.std.specs.Bool.{beq}
use Rattle.std.specs.List.{prefix_len}
use Rattle.std.specs.Option.{option_or}
use Rattle.ariadne_parse.specs.Columns.{columns_of}
use Rattle.ariadne_parse.specs.declared.unit.Unit.{Unit}
use Rattle.ariadne_parse.specs.declared.unit.Unit.TheVariants.{Byte, Char, Display, Utf16}
use Rattle.ariadne_snippets.specs.declared.run.Run.{Run}

-- ---- runs

-- a mark is `^`, `~` or `-`
abbrev pub is_mark : ℕ → Bool
is_mark c = c == 94 || (c == 126 || c == 45)

-- the run of one mark in a column
abbrev pub run_of : ℕ → ℕ → Run
run_of mark column = record {
  start = column;
  end = column + 1;
  caret = if mark == 94 then Some column else None;
  is_dashed = mark == 45;
}

-- a run goes on with another: that begins where it ends, and is of its kind
abbrev pub goes_on : Run → Run → Bool
goes_on run next = run.end == next.start && beq run.is_dashed next.is_dashed

-- both as one
abbrev pub joined : Run → Run → Run
joined run next = record {
  start = run.start;
  end = next.end;
  caret = option_or run.caret next.caret;
  is_dashed = run.is_dashed;
}

-- a run in front of others
abbrev pub in_front : Run → List Run → List Run
in_front run [] = run ∷ []
in_front run (next ∷ runs) =
    if goes_on run next then joined run next ∷ runs else run ∷ next ∷ runs

-- a run has a column at least, its first `^` stands in it, and the machine has the columns of a quote behind it
pub record IsNear (run : Run) : Type 0 where
  pub has_column : run.start < run.end
  pub caret : IfSome run.caret (λ caret. (run.start ≤ caret) × (caret < run.end))
  pub fits : run.end < 2 ^ 63

-- runs with another behind them
abbrev pub with_last : List Run → Run → List Run
with_last [] last = last ∷ []
with_last (run ∷ []) last = in_front run (last ∷ [])
with_last (run ∷ next ∷ runs) last = run ∷ with_last (next ∷ runs) last

-- how many columns a character of a row takes behind this many: one, but for a tab of a terminal
unfoldable pub width_of : Unit → ℕ → ℕ → ℕ
width_of Byte at c = 1
width_of Char at c = 1
width_of Utf16 at c = 1
width_of Display at c = if c == 9 then 8 - at % 8 else 1

-- the runs of a row that goes on in a column
unfoldable pub runs_from : Unit → ℕ → List ℕ → List Run
runs_from unit at [] = []
runs_from unit at (c ∷ row) =
    let runs = runs_from unit (at + width_of unit at c) row in
    if is_mark c then in_front (run_of c at) runs else runs

-- the runs of a row
abbrev pub mark_runs : Unit → List ℕ → List Run
mark_runs unit row = runs_from unit 0 row

-- ---- what they cover

-- the character of a quote in a column, of which `at` are passed. Behind its end each has one column
unfoldable pub place_in : Unit → ℕ → ℕ → List ℕ → ℕ
place_in unit column at [] = column - at
place_in unit column at (c ∷ quote) =
    let behind = at + columns_of unit at c in
    if nat_le behind column then suc (place_in unit column behind quote) else 0

-- the character of a quoted line that stands there, by where its characters begin: how many end in front of it
unfoldable pub char_in : List ℕ → ℕ → ℕ
char_in begins place = prefix_len (λ end. nat_le end place) (drop 1 begins)
