-- The columns of a line that is cut, as they are held: those of the places of which anything is seen,
-- in their order. A place between two of them takes no columns, so it begins where the next one does.
use Rattle.std.specs.Prelude.{⊤, ℕ, ◌≡◌, ◌+◌, ◌<◌, ◌≤◌, nat_le, if◌then◌else◌, List, [], ◌∷◌, length, map}
use Rattle.std.specs.List.{AllByRecursion}
use Rattle.ariadne_base.specs.Locations.{upto}
use Rattle.ariadne_picture.specs.declared.switches.Switches.{Switches}
use Rattle.ariadne_picture.specs.Columns.{Layout, column_of}
use Rattle.ariadne_layout.specs.declared.line_columns.Knot.{Knot}

-- each stands behind the one before it
unfoldable pub AreRising : List Knot → Type 0
AreRising [] = ⊤
AreRising (q ∷ knots) = AllByRecursion (λ r. q.place < r.place) knots × AreRising knots

-- the column of place k: that of the first of these from k on, or else this one
unfoldable pub knot_column : ℕ → List Knot → ℕ → ℕ
knot_column column [] k = column
knot_column column (q ∷ knots) k = if nat_le k q.place then q.column else knot_column column knots k

-- a line has a list of its columns, or these, or neither
abbrev pub HoldsOne : List ℕ → List Knot → Type 0
HoldsOne columns knots = 0 < length columns → knots ≡ []

-- the columns of the first places of a line: these, or those of n places of a cut line
unfoldable pub held_columns : List ℕ → List Knot → ℕ → List ℕ
held_columns columns [] n = columns
held_columns columns (q ∷ knots) n = map (knot_column 0 (q ∷ knots)) (upto n)

-- the columns of the places before n are held, where place k begins at f k; that of place n is this one
pub record HoldColumns (f : ℕ → ℕ) (knots : List Knot) (n column : ℕ) : Type 0 where
  pub rising : AreRising knots
  pub before : AllByRecursion (λ q. q.place < n) knots
  pub next : column ≡ f n
  pub held : (k : ℕ) → k ≤ n → knot_column column knots k ≡ f k

-- those of the places up to len of a cut line
abbrev pub AreKnots : Switches → Layout → ℕ → List Knot → Type 0
AreKnots switches y len knots =
    (k : ℕ) → k ≤ len → knot_column 0 knots k ≡ column_of switches y k

-- ---- where places begin, if place k begins at f k

-- each of the places from `from` to before `to` has one column
abbrev pub AreEven : (ℕ → ℕ) → ℕ → ℕ → Type 0
AreEven f from to = (k : ℕ) → from ≤ k → k < to → f (k + 1) ≡ f k + 1

-- all places behind `from`, up to `to`, begin at one column
abbrev pub AreAt : (ℕ → ℕ) → ℕ → ℕ → ℕ → Type 0
AreAt f from to column = (k : ℕ) → from < k → k ≤ to → f k ≡ column
