-- Which lines of a source are kept: at least each line that no change touches. Changes are those that
-- are made, in order, and their offsets count bytes.
use Rattle.std.specs.Prelude.{ℕ, ◌+◌, ◌<◌, ◌≡◌, ◌⊎◌, List, [], ◌∷◌, length, chars, Contains, true}
use Rattle.std.specs.List.{AllByRecursion}
use Rattle.ariadne_base.specs.Lines.{is_separator, lines_of, EndsIn}
use Rattle.ariadne_base.specs.Locations.{byte_len, line_offset, line_text}
use Rattle.ariadne_edits.specs.declared.change.Change.{Change}
use Rattle.ariadne_edits.specs.declared.rows.Row.{Row}
use Rattle.ariadne_edits.specs.declared.rows.Row.TheVariants.{Kept}

-- ---- what is promised

-- a line ends whatever follows: its last character is a terminator, and no CR, which LF may join
abbrev pub IsClosed : List ℕ → Type 0
IsClosed line = EndsIn (λ c. (is_separator c ≡ true) × ¬ (c ≡ 13)) line

-- a change touches neither a line from one offset to another nor its borders: it ends in front of the
-- line, or begins behind it. It may begin right behind a line that is closed
abbrev pub Misses : List ℕ → ℕ → ℕ → Change → Type 0
Misses line begin end c = (c.end < begin) ⊎ ((end < c.start) ⊎ ((end ≡ c.start) × IsClosed line))

-- no change touches line i of a text
pub record IsUntouched (text : List ℕ) (changes : List Change) (i : ℕ) : Type 0 where
  pub there : i < length (lines_of (chars text))
  pub missed : AllByRecursion (Misses (line_text (lines_of (chars text)) i)
      (line_offset byte_len (lines_of (chars text)) i)
      (line_offset byte_len (lines_of (chars text)) (i + 1))) changes

-- some row tells that line i stays as it is
pub record HasKept (rows : List Row) (i : ℕ) : Type 0 where
  pub other : ℕ
  pub told : Contains rows (Kept i other)

-- each line that no change touches is kept
abbrev pub KeepUntouched : List ℕ → List Change → List Row → Type 0
KeepUntouched text changes rows = (i : ℕ) → IsUntouched text changes i → HasKept rows i

-- ---- the pairs of lines that may be kept, of which the first that fit are

-- a pair stands in a list, and each in front of it lies before it in both texts
abbrev pub RiseTo : ℕ → ℕ → List (ℕ × ℕ) → Type 0
RiseTo i j [] = ⊥
RiseTo i j (p ∷ pairs) = (p ≡ (i, j)) ⊎ ((p.0 < i) × (p.1 < j) × RiseTo i j pairs)

-- line i of the source is the same as line j of the edited text
pub record AreSame (old new : List (List ℕ)) (i j : ℕ) : Type 0 where
  pub there : i < length old
  pub new_there : j < length new
  pub same : line_text old i ≡ line_text new j

-- line i stands in such a pair, with a line of the edited text that is the same
pub record IsPaired (old new : List (List ℕ)) (pairs : List (ℕ × ℕ)) (i : ℕ) : Type 0 where
  pub other : ℕ
  pub same : AreSame old new i other
  pub rise : RiseTo i other pairs

-- what some rows keep, others keep too
abbrev pub KeepAlso : List Row → List Row → Type 0
KeepAlso before after = (i : ℕ) → HasKept before i → HasKept after i
