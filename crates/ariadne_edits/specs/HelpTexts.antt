-- The text of a help: each line that is removed or added, behind its number and its sign.
use Rattle.std.specs.Prelude.{ℕ, ◌+◌, ◌-◌, ◌^◌, min, max, Bool, true, false, not, ◌&&◌}
use Rattle.std.specs.Prelude.{if◌then◌else◌, List, [], ◌∷◌, ◌++◌, length, replicate, decimal, codes}
use Rattle.std.specs.Prelude.{encode_utf8_all}
use Rattle.ariadne_base.specs.Locations.{line_text}
use Rattle.ariadne_edits.specs.Views.{shown_line, text_of_counterpart}
use Rattle.ariadne_edits.specs.declared.cut.View.{View}
use Rattle.ariadne_edits.specs.declared.drawing.Layout.{Layout}
use Rattle.ariadne_edits.specs.declared.rows.Look.{Look}
use Rattle.ariadne_edits.specs.declared.rows.Row.{Row}
use Rattle.ariadne_edits.specs.declared.rows.Row.TheVariants.{Kept, KeptLast, Removed, Added}

-- ---- numbers

-- the number of a line, which counts from 0, with the display offset
abbrev pub number_of : ℕ → ℕ → ℕ
number_of offset i = min (offset + i + 1) (2 ^ 64 - 1)

-- the number that a row shows, or 0
abbrev pub row_number : ℕ → Row → ℕ
row_number offset (Kept i j) = 0
row_number offset (KeptLast i j) = 0
row_number offset (Removed i look) = number_of offset i
row_number offset (Added j look) = number_of offset j

-- the greatest of them
abbrev pub greatest_number : ℕ → List Row → ℕ
greatest_number offset [] = 0
greatest_number offset (r ∷ rows) = max (row_number offset r) (greatest_number offset rows)

-- how many columns numbers take
abbrev pub number_width : ℕ → List Row → ℕ
number_width offset rows = length (decimal (greatest_number offset rows))

-- ---- rows

-- what parts a row from the one above it: nothing above the first, and else the end of that row. Where
-- lines are kept between them, a row says so
unfoldable pub parting : Bool → Bool → ℕ → List ℕ
parting is_first is_apart width =
    if is_first then []
    else (10 ∷ [] ++ (if is_apart then replicate (width - 3) 32 ++ codes "...\n" else []))

-- a row: its number to the right, its sign, its line
unfoldable pub row_text : ℕ → ℕ → List ℕ → List ℕ → List ℕ
row_text width number sign line =
    replicate (width - length (decimal number)) 32 ++ decimal number ++ sign ++ encode_utf8_all line

abbrev pub is_drawn : Row → Bool
is_drawn (Kept i j) = false
is_drawn (KeptLast i j) = false
is_drawn (Removed i look) = true
is_drawn (Added j look) = true

-- what is shown of line i of a text, whose counterparts are lines of another
abbrev pub line_shown : View → List (List ℕ) → ℕ → Look → List (List ℕ) → List ℕ
line_shown view lines i look others =
    shown_line view look.blanks (line_text lines i) (text_of_counterpart others look.counterpart)

module _ (layout : Layout) (old new : List (List ℕ)) where
  -- what is drawn of a row: of a kept line nothing
  abbrev pub drawn_row : Bool → Bool → Row → List ℕ
  drawn_row is_first is_apart (Kept i j) = []
  drawn_row is_first is_apart (KeptLast i j) = []
  drawn_row is_first is_apart (Removed i look) =
      parting is_first is_apart layout.width ++ row_text layout.width
      (number_of layout.offset i) (codes " - ") (line_shown layout.view old i look new)
  drawn_row is_first is_apart (Added j look) =
      parting is_first is_apart layout.width ++ row_text layout.width
      (number_of layout.offset j) (codes " + ") (line_shown layout.view new j look old)

  -- the rows in order
  unfoldable pub drawn_rows : Bool → Bool → List Row → List ℕ
  drawn_rows is_first is_apart [] = []
  drawn_rows is_first is_apart (r ∷ rows) =
      drawn_row is_first is_apart r
      ++ drawn_rows (is_first && not (is_drawn r)) (not (is_drawn r)) rows

  abbrev pub drawn_text : List Row → List ℕ
  drawn_text rows = drawn_rows true false rows
