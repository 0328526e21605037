-- Which lines are each other's counterparts: of the lines that are removed and added between two that are
-- kept, the first removed and the first added one, the second ones, and so on.
use Rattle.std.specs.Prelude.{ℕ, ◌+◌, ◌-◌, ◌≡◌, nat_lt, if◌then◌else◌, List, [], ◌∷◌, Option, Some, None}
use Rattle.ariadne_edits.specs.declared.rows.Row.{Row}
use Rattle.ariadne_edits.specs.declared.rows.Row.TheVariants.{Kept, KeptLast, Removed, Added}

-- the line at a place of those from one on and before another, if there are so many
abbrev pub line_in : ℕ → ℕ → ℕ → Option ℕ
line_in from to place = if nat_lt (from + place) to then Some (from + place) else None

-- the lines of both texts that are kept next, or where none is the ends
unfoldable pub next_kept : ℕ × ℕ → List Row → ℕ × ℕ
next_kept ends [] = ends
next_kept ends (Kept i j ∷ rows) = (i, j)
next_kept ends (KeptLast i j ∷ rows) = (i, j)
next_kept ends (Removed i look ∷ rows) = next_kept ends rows
next_kept ends (Added j look ∷ rows) = next_kept ends rows

-- the counterparts of the lines of rows are these, where lines of both texts from `from` on change
unfoldable pub HaveCounterparts : ℕ × ℕ → ℕ × ℕ → List Row → Type 0
HaveCounterparts from ends [] = Unit {0}
HaveCounterparts from ends (Kept i j ∷ rows) = HaveCounterparts (i + 1, j + 1) ends rows
HaveCounterparts from ends (KeptLast i j ∷ rows) = HaveCounterparts (i + 1, j + 1) ends rows
HaveCounterparts from ends (Removed i look ∷ rows) =
    (look.counterpart ≡ line_in from.1 (next_kept ends rows).1 (i - from.0))
    × HaveCounterparts from ends rows
HaveCounterparts from ends (Added j look ∷ rows) =
    (look.counterpart ≡ line_in from.0 (next_kept ends rows).0 (j - from.1))
    × HaveCounterparts from ends rows

-- ---- row by row

-- the lines of both texts behind the last that are kept
unfoldable pub behind_kept : ℕ × ℕ → List Row → ℕ × ℕ
behind_kept from [] = from
behind_kept from (Kept i j ∷ rows) = behind_kept (i + 1, j + 1) rows
behind_kept from (KeptLast i j ∷ rows) = behind_kept (i + 1, j + 1) rows
behind_kept from (Removed i look ∷ rows) = behind_kept from rows
behind_kept from (Added j look ∷ rows) = behind_kept from rows

-- the last rows are of lines that change, which reach from `from` to `to`, and so far all counterparts are
-- right
pub record EndInRun (from to : ℕ × ℕ) (rows : List Row) : Type 0 where
  pub begins : behind_kept (0, 0) rows ≡ from
  pub counterparts : HaveCounterparts (0, 0) to rows

-- the last row is of a line that is kept
abbrev pub EndKept : ℕ × ℕ → List Row → Type 0
EndKept from rows = (to : ℕ × ℕ) → EndInRun from to rows
