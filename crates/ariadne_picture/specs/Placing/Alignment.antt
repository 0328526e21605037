-- The clause on alignment: the text of a source row and of the rows below begins at one column; from
-- there the characters and the places take the columns of the line.
use Rattle.std.specs.Prelude.{ℕ, Bool, ◌&&◌, ◌==◌, nat_eq, nat_le, List, length, map, take}
use Rattle.std.specs.List.{list_all}
use Rattle.std.specs.Cmp.Lexicographic.{pointwise}
use Rattle.ariadne_picture.specs.Lists.{total, all_numbered}
use Rattle.ariadne_picture.specs.Pieces.{Section}
use Rattle.ariadne_picture.specs.Canvas.{Cell}
use Rattle.ariadne_picture.specs.Placing.Group.{shown_lines, text_cell, shown_cells}
use Rattle.ariadne_picture.specs.Placing.Rows.{Placing, row_at, text_cells, block_rows, cells_of_places}

module _ (canvas : List (List Cell)) (sections : List Section) (p : Placing) where
  -- how many columns stand before the text of row n
  unfoldable pub columns_before : Section → ℕ → ℕ
  columns_before s n = total (λ c. c.columns) (take (text_cell s) (row_at canvas n))

  -- the cells of line l take the columns that they should. The rows of its block begin as it does, and
  -- have so many cells of text, of one column each
  unfoldable pub is_line_aligned : ℕ → Section → ℕ → Bool
  is_line_aligned g s l =
      let m = p.source_row g l in
      let cells = cells_of_places p g s l in
      pointwise nat_eq (map (λ c. c.columns) (text_cells canvas s m))
      (map (λ c. c.columns) (shown_cells s.sheet l))
      && list_all (λ n. (columns_before s n == columns_before s m)
      && list_all (λ c. c.columns == 1) (take cells (text_cells canvas s n))
      && nat_le cells (length (text_cells canvas s n))) (block_rows p g l)

  -- the clause
  unfoldable pub is_aligned : Bool
  is_aligned = all_numbered (λ g s. list_all (is_line_aligned g s) (shown_lines s)) sections
