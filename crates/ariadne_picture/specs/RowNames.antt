-- Which rows a group has, case by case: whether there is a row of this name. `rows` lists them, in
-- their order.
use Rattle.std.specs.Prelude.{ℕ, ◌≡◌, ◌⊎◌, ◌-◌, ◌<◌, ◌≤◌, Bool, true, false, List, Some, length, slice_get}
use Rattle.std.specs.Str.Lines.{lines}
use Rattle.ariadne_picture.specs.declared.label_info.LineLabel.{LineLabel}
use Rattle.ariadne_picture.specs.Ranks.{Sheet, line_labels, is_hidden_line, first_line, last_line}
use Rattle.ariadne_picture.specs.Rows.{Aside, help, note, Row, group_header, spacer, source, alternate}
use Rattle.ariadne_picture.specs.Rows.{arrow, gap, bare, blank, piece, tail, is_inside, is_lone}

-- the texts of one kind
abbrev pub asides_of : Aside → List (List ℕ) → List (List ℕ) → List (List ℕ)
asides_of help helps notes = helps
asides_of note helps notes = notes

-- a group has line l
abbrev pub HasLine : Sheet → ℕ → Type 0
HasLine h l = (first_line h ≤ l) × (l ≤ last_line h)

-- line l is hidden, and the line before it is not, or is none of the group
pub record BeginsHidden (h : Sheet) (l : ℕ) : Type 0 where
  pub line : HasLine h l
  pub hidden : is_hidden_line h l ≡ true
  pub first : (l ≡ first_line h) ⊎ (is_hidden_line h (l - 1) ≡ false)

-- line label r of line l has a message
pub record HasMessage (h : Sheet) (l r : ℕ) : Type 0 where
  pub line : HasLine h l
  pub label : LineLabel
  pub there : slice_get (line_labels h.labels l) r ≡ Some label
  pub message : label.info.has_message ≡ true

-- line l has a row of underlines alone, and n, as many labels as it has, is its rank
pub record HasUnderlines (h : Sheet) (l n : ℕ) : Type 0 where
  pub line : HasLine h l
  pub lone : is_lone h l ≡ true
  pub behind : n ≡ length (line_labels h.labels l)

module _ (h : Sheet) (is_last : Bool) (helps notes : List (List ℕ)) where
  -- the group has help or note number k
  pub record HasAside (a : Aside) (k : ℕ) : Type 0 where
    pub last : is_last ≡ true
    pub text : List ℕ
    pub there : slice_get (asides_of a helps notes) k ≡ Some text

  -- the group has this row
  abbrev pub HasRow : Row → Type 0
  HasRow group_header = Unit {0}
  HasRow spacer = h.switches.compact ≡ false
  HasRow (source l) = HasLine h l × (is_hidden_line h l ≡ false)
  HasRow (alternate l r) = ((h.switches.compact ≡ false) × HasMessage h l r) ⊎ HasUnderlines h l r
  HasRow (arrow l r) = HasMessage h l r
  HasRow (gap l) = BeginsHidden h l × (is_inside h l ≡ true)
  HasRow (bare l) = (h.switches.compact ≡ false) × BeginsHidden h l × (is_inside h l ≡ false)
  HasRow (blank a k) = (h.switches.compact ≡ false) × HasAside a k
  HasRow (piece a k n) = (aside : HasAside a k) × (n < length (lines aside.text))
  HasRow tail = h.switches.compact ≡ false
