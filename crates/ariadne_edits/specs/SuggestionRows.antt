-- The rows of a suggestion: each line of the source is kept or removed, each line of the edited text
-- is kept or added. Lines are lists of characters, and count from 0.
use Rattle.std.specs.Prelude.{ℕ, ◌+◌, ◌<◌, ◌≡◌, ◌⊎◌, true, not, List, [], ◌∷◌, ◌++◌, length}
use Rattle.std.specs.Prelude.{filter, flat_map, map}
use Rattle.std.specs.Char.{is_whitespace}
use Rattle.std.specs.List.{AllByRecursion, list_all}
use Rattle.ariadne_base.specs.Lines.{is_separator}
use Rattle.ariadne_base.specs.Locations.{upto, line_text}
use Rattle.ariadne_edits.specs.declared.rows.Blanks.{Blanks}
use Rattle.ariadne_edits.specs.declared.rows.Blanks.TheVariants.{Plain, Marked}
use Rattle.ariadne_edits.specs.declared.rows.Row.{Row}
use Rattle.ariadne_edits.specs.declared.rows.Row.TheVariants.{Kept, KeptLast, Removed, Added}

-- ---- lines that are alike

-- one line is the other and a terminator
pub record IsTerminated (bare whole : List ℕ) : Type 0 where
  pub terminator : List ℕ
  pub is : whole ≡ bare ++ terminator
  pub ends : list_all is_separator terminator ≡ true

-- line i is the last of its text, and stands without a terminator as line j of another, where a
-- terminator and further lines follow
pub record IsLastOf (old new : List (List ℕ)) (i j : ℕ) : Type 0 where
  pub last : i + 1 ≡ length old
  pub followed : j + 1 < length new
  pub same : IsTerminated (line_text old i) (line_text new j)

-- what is seen of a line: its characters but for white space
abbrev pub seen_of : List ℕ → List ℕ
seen_of line = filter (λ c. not (is_whitespace c)) line

-- some line differs from this one in white space alone
pub record HasTwin (line : List ℕ) (lines : List (List ℕ)) : Type 0 where
  pub number : ℕ
  pub there : number < length lines
  pub same : seen_of line ≡ seen_of (line_text lines number)

-- white space is marked where there is such a line
abbrev pub AreMarked : Blanks → List ℕ → List (List ℕ) → Type 0
AreMarked Plain line lines = Unit {0}
AreMarked Marked line lines = HasTwin line lines

-- ---- rows

-- the line of the source that a row stands for
abbrev pub lines_before : Row → List ℕ
lines_before (Kept i j) = i ∷ []
lines_before (KeptLast i j) = i ∷ []
lines_before (Removed i look) = i ∷ []
lines_before (Added j look) = []

-- and that of the edited text
abbrev pub lines_after : Row → List ℕ
lines_after (Kept i j) = j ∷ []
lines_after (KeptLast i j) = j ∷ []
lines_after (Removed i look) = []
lines_after (Added j look) = j ∷ []

-- a kept line is the same in both, but for the terminator that the last line may lack
abbrev pub IsSame : List (List ℕ) → List (List ℕ) → Row → Type 0
IsSame old new (Kept i j) = line_text old i ≡ line_text new j
IsSame old new (KeptLast i j) = IsLastOf old new i j ⊎ IsLastOf new old j i
IsSame old new (Removed i look) = AreMarked look.blanks (line_text old i) new
IsSame old new (Added j look) = AreMarked look.blanks (line_text new j) old

-- a row tells that line i of the source is kept as line j of the edited text
pub record IsKept (old new : List (List ℕ)) (i j : ℕ) (row : Row) : Type 0 where
  pub there : i < length old
  pub new_there : j < length new
  pub before : lines_before row ≡ i ∷ []
  pub after : lines_after row ≡ j ∷ []
  pub same : IsSame old new row

-- rows that tell how the first i lines of one text become the first j of another: each line of the
-- first stands in one row, in order, so does each line of the second, and kept lines are the same
pub record TellFirst (old new : List (List ℕ)) (i j : ℕ) (rows : List Row) : Type 0 where
  pub before : flat_map lines_before rows ≡ upto i
  pub after : flat_map lines_after rows ≡ upto j
  pub same : AllByRecursion (IsSame old new) rows

-- and all lines
abbrev pub Tell : List (List ℕ) → List (List ℕ) → List Row → Type 0
Tell old new rows = TellFirst old new (length old) (length new) rows

-- ---- what follows

-- the source's lines with the removed ones taken out and the added ones put in. A line that is kept
-- but for its terminator has the one of the edited text
abbrev pub patched_line : List (List ℕ) → List (List ℕ) → Row → List (List ℕ)
patched_line old new (Kept i j) = line_text old i ∷ []
patched_line old new (KeptLast i j) = line_text new j ∷ []
patched_line old new (Removed i look) = []
patched_line old new (Added j look) = line_text new j ∷ []

unfoldable pub patched : List (List ℕ) → List (List ℕ) → List Row → List (List ℕ)
patched old new rows = flat_map (patched_line old new) rows

-- the source's lines: those that are kept, and those that are removed
unfoldable pub restored : List (List ℕ) → List Row → List (List ℕ)
restored old rows = map (line_text old) (flat_map lines_before rows)
