-- The choice of row numbers that a picture is read by, and the rows and cells that it leads to.
use Rattle.std.specs.Prelude.{ℕ, ◌+◌, ◌-◌, Bool, not, ◌&&◌, ◌||◌, nat_lt, List, [], drop}
use Rattle.std.specs.Prelude.{slice_index_or}
use Rattle.std.specs.List.{list_all, range_with_len}
use Rattle.ariadne_picture.specs.Columns.{layout_of, column_of}
use Rattle.ariadne_picture.specs.Pieces.{Section}
use Rattle.ariadne_picture.specs.Canvas.{Cell}
use Rattle.ariadne_picture.specs.Placing.Cells.{no_cell, is_blank}
use Rattle.ariadne_picture.specs.Placing.Group.{column_cell, text_cell, place_cell, has_cell}

-- the choice of row numbers: for group g, line l, the label at position k and gutter label i
pub record Placing : Type 0 where
  -- the first row of group g; for g as many as there are groups, one past the last row
  pub start : ℕ → ℕ
  -- the row that shows line l of group g
  pub source_row : ℕ → ℕ → ℕ
  -- how many rows stand right below it for the labels of the line: its block
  pub block_len : ℕ → ℕ → ℕ
  -- how many places the rows of this block have
  pub places : ℕ → ℕ → ℕ
  -- the row that shows the message of label k
  pub message_row : ℕ → ℕ
  -- the row of the head of gutter label i of group g
  pub head_row : ℕ → ℕ → ℕ

-- the numbers from a to before b
abbrev pub between : ℕ → ℕ → List ℕ
between a b = range_with_len a (b - a)

module _ (canvas : List (List Cell)) where
  -- row n
  unfoldable pub row_at : ℕ → List Cell
  row_at n = slice_index_or canvas n []

  -- cell c of row n
  unfoldable pub cell_at : ℕ → ℕ → Cell
  cell_at n c = slice_index_or (row_at n) c no_cell

  -- the first cell of gutter column i in row n
  abbrev pub gutter_cell : Section → ℕ → ℕ → Cell
  gutter_cell s n i = cell_at n (column_cell s i)

  -- the cells of row n from its text on
  abbrev pub text_cells : Section → ℕ → List Cell
  text_cells s n = drop (text_cell s) (row_at n)

-- the rows of the block of line l of group g
unfoldable pub block_rows : Placing → ℕ → ℕ → List ℕ
block_rows p g l = range_with_len (p.source_row g l + 1) (p.block_len g l)

-- how many cells the text of a row of the block of line l has
abbrev pub cells_of_places : Placing → ℕ → Section → ℕ → ℕ
cells_of_places p g s l = column_of s.sheet.switches (layout_of s.sheet l) (p.places g l)

-- ---- the places of the rows below line l of group g. A place without a cell is passed over: there is
-- no corner, and the strokes end at the first place behind it that has a cell, if the row has such a
-- place. That nothing stands in front of them is said in `Causes`

module _ (canvas : List (List Cell)) (p : Placing) (g : ℕ) (s : Section) (l : ℕ) where
  -- the places from a to before b are among those of row n, and the test holds of the first cell of
  -- each that has one
  unfoldable pub holds_at_places : ℕ → ℕ → ℕ → (Cell → Bool) → Bool
  holds_at_places n a b test =
      list_all (λ k. nat_lt k (p.places g l)
      && (not (has_cell s l k) || test (cell_at canvas n (place_cell s l k)))) (between a b)

  -- place k is not blank in each row between that of the line and row n
  unfoldable pub is_traced_at : ℕ → ℕ → Bool
  is_traced_at k n =
      list_all (λ m. holds_at_places m k (k + 1) (λ c. not (is_blank c)))
      (between (p.source_row g l + 1) n)
