-- The rows where a gutter bar stands, case by case, as a reader of a picture finds them. Beside a
-- source row it is by the lines that the gutter label covers. Beside the rows of a line label it is
-- by what the gutter label does at that line. `bar_at` says the same by two rows: the cases are those
-- strictly between.
use Rattle.std.specs.Prelude.{true, ◌⊎◌, ◌≡◌, ◌≢◌, ℕ, ◌<◌, ◌≤◌, false, Some, slice_get}
use Rattle.ariadne_picture.specs.declared.label_info.LabelInfo.{LabelInfo}
use Rattle.ariadne_picture.specs.declared.label_info.LineLabel.{LineLabel}
use Rattle.ariadne_picture.specs.declared.label_info.Side.{Side}
use Rattle.ariadne_picture.specs.declared.label_info.Side.TheVariants.{Starts, Ends}
use Rattle.ariadne_picture.specs.Ranks.{Sheet, gutter_labels, margin_label, line_labels}
use Rattle.ariadne_picture.specs.Rows.{before, Row, group_header, spacer, source, alternate, arrow, gap}
use Rattle.ariadne_picture.specs.Rows.{bare}
use Rattle.ariadne_picture.specs.Rows.{blank, piece, tail}
use Rattle.ariadne_picture.specs.declared.cell.Glyph.{Glyph}
use Rattle.ariadne_picture.specs.Strokes.{is_at_margin, first_row, last_row}
use Rattle.ariadne_picture.specs.Cells.{column_ink}

-- a label ends on the line where it starts, or on a later one
abbrev pub EndsNoEarlier : LabelInfo → Type 0
EndsNoEarlier a = a.start_line ≤ a.end_line

-- a is gutter label i, and ends no earlier than it starts
pub record IsGutterLabel (h : Sheet) (i : ℕ) (a : LabelInfo) : Type 0 where
  pub owned : slice_get (gutter_labels h.labels) i ≡ Some a
  pub rises : EndsNoEarlier a

-- the start, or the end, of gutter label i is the margin label of line l
pub record IsMarginLabel (h : Sheet) (l : ℕ) (side : Side) (i : ℕ) : Type 0 where
  pub label : LineLabel
  pub there : margin_label h.labels l ≡ Some label
  pub same_side : label.side ≡ side
  pub same_gutter_column : label.gutter_column ≡ i

-- the start, or the end, of gutter label i is the line label of rank n of line l
pub record IsLineLabel (h : Sheet) (l : ℕ) (side : Side) (i n : ℕ) : Type 0 where
  pub label : LineLabel
  pub there : slice_get (line_labels h.labels l) n ≡ Some label
  pub same_side : label.side ≡ side
  pub same_gutter_column : label.gutter_column ≡ i

-- beside the source row of line l, or the gap row in its place: gutter label i, which is a, covers
-- the line, is not its margin label and doesn't start there
pub record BarBesideLine (h : Sheet) (i : ℕ) (a : LabelInfo) (l : ℕ) : Type 0 where
  pub from : a.start_line ≤ l
  pub to : l ≤ a.end_line
  pub not_at_margin : is_at_margin h l i ≡ false
  pub not_its_start : a.start_line ≢ l

-- beside a row of the line label of rank r of line l: `IsAbove e` says that the row stands above
-- the arrow row of rank e
pub data BarBesideLabel (h : Sheet) (i : ℕ) (a : LabelInfo) (l r : ℕ)
    (IsAbove : ℕ → Type 0) : Type 0 where
  -- gutter label i, which is a, starts on an earlier line and ends on a later one
  passes : a.start_line < l → l < a.end_line → BarBesideLabel h i a l r IsAbove
  -- it starts on this line as the margin label
  leaves_margin : a.start_line ≡ l → IsMarginLabel h l Starts i → BarBesideLabel h i a l r IsAbove
  -- it starts on this line as a line label of a lower rank
  started_above : (n : ℕ) → a.start_line ≡ l → IsLineLabel h l Starts i n → n < r
      → BarBesideLabel h i a l r IsAbove
  -- it ends on this line as a line label whose arrow row is below
  ends_below : (e : ℕ) → a.end_line ≡ l → IsLineLabel h l Ends i e → IsAbove e
      → BarBesideLabel h i a l r IsAbove

-- the alternate row of rank r stands above the arrow row of that rank; that one itself doesn't
abbrev pub BarBesideAlternate : Sheet → ℕ → LabelInfo → ℕ → ℕ → Type 0
BarBesideAlternate h i a l r = BarBesideLabel h i a l r (λ e. r ≤ e)

-- the arrow row of rank r itself is no row above it
abbrev pub BarBesideArrow : Sheet → ℕ → LabelInfo → ℕ → ℕ → Type 0
BarBesideArrow h i a l r = BarBesideLabel h i a l r (λ e. r < e)

-- the rows of a line
abbrev pub IsOfLine : Row → Type 0
IsOfLine group_header = ⊥
IsOfLine spacer = ⊥
IsOfLine (source l) = Unit {0}
IsOfLine (alternate l r) = Unit {0}
IsOfLine (arrow l r) = Unit {0}
IsOfLine (gap l) = Unit {0}
IsOfLine (bare l) = Unit {0}
IsOfLine (blank a k) = ⊥
IsOfLine (piece a k n) = ⊥
IsOfLine tail = ⊥

-- ---- what a gutter column shows

-- row x shows this in gutter column i
abbrev pub Shows : Sheet → Row → ℕ → Glyph → Type 0
Shows h row i glyph = (column_ink h row i).first ≡ glyph

-- row x stands below the row of gutter label i's head, which is a's, and above that of its message
pub record IsInside (h : Sheet) (i : ℕ) (a : LabelInfo) (row : Row) : Type 0 where
  pub below : before (first_row h i a) row ≡ true
  pub above : before row (last_row h i a) ≡ true

-- row x stands above the one or below the other
abbrev pub IsOutside : Sheet → ℕ → LabelInfo → Row → Type 0
IsOutside h i a row = (before row (first_row h i a) ≡ true) ⊎ (before (last_row h i a) row ≡ true)
