-- What rows take of lines: one row behind the other.
use Rattle.std.proofs.Common.{◌≡◌, ℕ, ◌+◌, ◌<◌, ◌≤◌, ◌||◌, nat_le, take, Bool, List, [], ◌∷◌, ◌++◌, drop, length, map, get_or, refl, sym, ap, ap₂, ◌∙◌, append_assoc, append-nil}
use Rattle.std.proofs.lemmas.List.{at_drop_more, at_drop_all, drop-drop, length-append, length-map, map-append}
use Rattle.std.specs.Borrow.{Bor}
use Rattle.std.specs.Option.{some_prefix}
use Rattle.std.specs.Prelude.{Option, Some, None, Vec}
use Rattle.std.specs.declared.alloc.Global.{Global}
use Rattle.regex.specs.Patterns.{Re}
use Rattle.ariadne_matchers.specs.Catches.{caught_at, Catch, catch_by}
use Rattle.ariadne_matchers.specs.MatchedRows.{before, caught_front, fit_entry, fit_rows, go_on, open_yet, reach, takes, taken_by, taken_of, taken_told, texts, unfit, Pattern, Taking}
use Rattle.ariadne_matchers.specs.declared.caught.Caught.{Caught}
use Rattle.ariadne_matchers.specs.declared.entry.Groups.{Groups}
use Rattle.ariadne_matchers.specs.declared.entry.Often.{Often}
use Rattle.ariadne_matchers.specs.declared.rows.Taken.{Taken}
use Rattle.ariadne_matchers.specs.declared.rows.Taken.TheVariants as taken

-- ---- one row

abbrev pub pattern : Often → Groups → Re → Pattern
pattern often groups re = record { often = often; re = re; groups = groups }

module _ (row : Pattern) (lines : List (Bor (List ℕ))) (i : ℕ) (d : Bor (List ℕ)) (within : i < length lines) where
  front_at : caught_front row (texts (drop i lines))
      ≡ some_prefix (catch_by row.re row.groups (get_or lines i d).now ∷ map (catch_by row.re row.groups) (texts (drop (i + 1) lines)))
  front_at = at_drop_more (λ rest. caught_front row (texts rest)) lines i d within

  -- a line that fits
  front_more : (caught : Catch) → Some caught ≡ catch_by row.re row.groups (get_or lines i d).now
      → caught_front row (texts (drop i lines)) ≡ caught ∷ caught_front row (texts (drop (i + 1) lines))
  front_more caught fits =
      front_at ∙ ap (λ (o : Option Catch). some_prefix (o ∷ map (catch_by row.re row.groups) (texts (drop (i + 1) lines)))) (sym fits)

  -- a line that doesn't
  front_end : None ≡ catch_by row.re row.groups (get_or lines i d).now → caught_front row (texts (drop i lines)) ≡ []
  front_end other =
      front_at ∙ ap (λ (o : Option Catch). some_prefix (o ∷ map (catch_by row.re row.groups) (texts (drop (i + 1) lines)))) (sym other)

-- no line is left
front_all : (row : Pattern) (lines : List (Bor (List ℕ))) (i : ℕ) → length lines ≤ i → caught_front row (texts (drop i lines)) ≡ []
front_all row lines i end = at_drop_all (λ rest. caught_front row (texts rest)) lines i end

-- the same of another row that looks alike
pub fits_as : (row other : Pattern) (line : List ℕ) (caught : Option Catch) → caught ≡ catch_by row.re row.groups line → row ≡ other
    → caught ≡ catch_by other.re other.groups line
fits_as row other line caught is same = is ∙ ap (λ (it : Pattern). catch_by it.re it.groups line) same

module _ (row : Pattern) (lines : List (Bor (List ℕ))) (i : ℕ) (all : List Caught)
    (so_far : caught_front row (texts lines) ≡ map caught_at all ++ caught_front row (texts (drop i lines))) where
  -- one more is caught
  pub caught_more : (d : Bor (List ℕ)) (new : Caught) (pushed : List Caught) → i < length lines
      → Some (caught_at new) ≡ catch_by row.re row.groups (get_or lines i d).now → pushed ≡ all ++ new ∷ []
      → caught_front row (texts lines) ≡ map caught_at pushed ++ caught_front row (texts (drop (i + 1) lines))
  caught_more d new pushed within fits more =
      so_far ∙ ap (λ (rest : List Catch). map caught_at all ++ rest) (front_more row lines i d within (caught_at new) fits)
      ∙ sym (append_assoc (map caught_at all) (caught_at new ∷ []) (caught_front row (texts (drop (i + 1) lines))))
      ∙ ap (λ (front : List Catch). front ++ caught_front row (texts (drop (i + 1) lines)))
      (sym (ap (map caught_at) more ∙ map-append caught_at all (new ∷ [])))

  -- none is
  pub caught_end : (d : Bor (List ℕ)) → i < length lines → None ≡ catch_by row.re row.groups (get_or lines i d).now
      → map caught_at all ≡ caught_front row (texts lines)
  caught_end d within other =
      sym (so_far ∙ ap (λ (rest : List Catch). map caught_at all ++ rest) (front_end row lines i d within other) ∙ append-nil (map caught_at all))

  -- none is left
  pub caught_all : length lines ≤ i → map caught_at all ≡ caught_front row (texts lines)
  caught_all end = sym (so_far ∙ ap (λ (rest : List Catch). map caught_at all ++ rest) (front_all row lines i end) ∙ append-nil (map caught_at all))

-- what it takes, by what it caught of the lines that it could reach
pub taken_is : (row : Pattern) (is_all : Bool) (lines reached : List (Bor (List ℕ))) (caught : List Caught)
    → texts reached ≡ reach row.often (texts lines) → map caught_at caught ≡ caught_front row (texts reached)
    → taken_of row.often is_all (length reached) (map caught_at caught) ≡ taken_by row is_all (texts lines)
unfolding taken_by
taken_is row is_all lines reached caught is_reach is_caught =
    ap (taken_of row.often is_all (length reached)) is_caught
    ∙ ap (λ (n : ℕ). taken_of row.often is_all n (caught_front row (texts reached))) (sym (length-map reached (λ (line : Bor (List ℕ)). line.now)))
    ∙ ap (λ (some : List (List ℕ)). taken_of row.often is_all (length some) (caught_front row some)) is_reach

-- ---- all rows

pub before_none : (taking : Taking) → before [] taking ≡ taking
before_none open_yet = refl
before_none unfit = refl
before_none (takes lines) = refl

before_both : (front more : List Catch) (taking : Taking) → before front (before more taking) ≡ before (front ++ more) taking
before_both front more open_yet = refl
before_both front more unfit = refl
before_both front more (takes lines) = ap takes (sym (append_assoc front more lines))

-- what isn't lines stays as it is
stopped : (front : List Catch) (given : Taken) → ((caught : Vec Caught Global) → given ≡ taken.Lines caught → ⊥) → (next : List Catch → Taking)
    → taken_told given ≡ before front (go_on (taken_told given) next)
stopped front taken.Open other next = refl
stopped front taken.Unfit other next = refl
stopped front (taken.Lines caught) other next = absurd (other caught refl)

module _ (rows : List Pattern) (is_all : Bool) (lines : List (List ℕ)) (i : ℕ) (row : Pattern) (within : i < length rows)
    (read : row ≡ get_or rows i row) where
  -- what the next row takes, and those behind it
  next_row : (at : ℕ) → fit_rows (drop i rows) is_all (drop at lines)
      ≡ go_on (taken_by row is_all (drop at lines))
      (λ front. fit_rows (drop (i + 1) rows) is_all (drop (length front) (drop at lines)))
  unfolding fit_rows
  next_row at =
      at_drop_more (λ rest. fit_rows rest is_all (drop at lines)) rows i row within
      ∙ ap (λ (x : Pattern). fit_rows (x ∷ drop (i + 1) rows) is_all (drop at lines)) (sym read)

  -- it takes some, and the next ones go on behind them
  rows_go_on : (at : ℕ) (front more : List Catch) → takes more ≡ taken_by row is_all (drop at lines)
      → before front (fit_rows (drop i rows) is_all (drop at lines))
      ≡ before (front ++ more) (fit_rows (drop (i + 1) rows) is_all (drop (at + length more) lines))
  rows_go_on at front more is =
      ap (before front) (next_row at)
      ∙ ap (λ (taking : Taking). before front (go_on taking (λ some. fit_rows (drop (i + 1) rows) is_all (drop (length some) (drop at lines))))) (sym is)
      ∙ before_both front more (fit_rows (drop (i + 1) rows) is_all (drop (length more) (drop at lines)))
      ∙ ap (λ (rest : List (List ℕ)). before (front ++ more) (fit_rows (drop (i + 1) rows) is_all rest)) (drop-drop (length more) at lines)

  -- the same of what is held
  pub rows_more : (front more pushed : List Caught) → pushed ≡ front ++ more
      → takes (map caught_at more) ≡ taken_by row is_all (drop (length front) lines)
      → before (map caught_at front) (fit_rows (drop i rows) is_all (drop (length front) lines))
      ≡ before (map caught_at pushed) (fit_rows (drop (i + 1) rows) is_all (drop (length pushed) lines))
  rows_more front more pushed joined is =
      rows_go_on (length front) (map caught_at front) (map caught_at more) is
      ∙ ap₂ (λ (some : List Catch) (n : ℕ). before some (fit_rows (drop (i + 1) rows) is_all (drop n lines)))
      (sym (map-append caught_at front more) ∙ ap (map caught_at) (sym joined))
      (ap (λ (n : ℕ). length front + n) (length-map more caught_at) ∙ sym (length-append front more) ∙ ap length (sym joined))

  -- else that is what all take
  pub rows_stop : (at : ℕ) (front : List Catch) (given : Taken) → ((caught : Vec Caught Global) → given ≡ taken.Lines caught → ⊥)
      → taken_told given ≡ taken_by row is_all (drop at lines)
      → taken_told given ≡ before front (fit_rows (drop i rows) is_all (drop at lines))
  rows_stop at front given other is =
      stopped front given other (λ some. fit_rows (drop (i + 1) rows) is_all (drop (length some) (drop at lines)))
      ∙ ap (λ (taking : Taking). before front (go_on taking (λ some. fit_rows (drop (i + 1) rows) is_all (drop (length some) (drop at lines))))) is
      ∙ sym (ap (before front) (next_row at))

-- an entry takes 64 lines at most
pub fit_is : (rows : List Pattern) (is_all whole : Bool) (lines front : List (Bor (List ℕ)))
    → texts front ≡ take 64 (texts lines) → whole ≡ (is_all || nat_le 64 (length lines))
    → fit_rows rows whole (texts front) ≡ fit_entry rows is_all (texts lines)
unfolding fit_entry
fit_is rows is_all whole lines front is_front is_whole =
    ap (fit_rows rows whole) is_front
    ∙ ap (λ (b : Bool). fit_rows rows b (take 64 (texts lines)))
    (is_whole ∙ ap (λ (n : ℕ). is_all || nat_le 64 n) (sym (length-map lines (λ (line : Bor (List ℕ)). line.now))))

-- no row is left
pub rows_end : (rows : List Pattern) (is_all : Bool) (lines : List (List ℕ)) (i : ℕ) (front : List Catch) → length rows ≤ i
    → takes front ≡ before front (fit_rows (drop i rows) is_all lines)
unfolding fit_rows
rows_end rows is_all lines i front end =
    ap takes (sym (append-nil front)) ∙ sym (at_drop_all (λ rest. before front (fit_rows rest is_all lines)) rows i end)
