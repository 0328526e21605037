-- The clause on message rows: each stands behind the text of its row, and nothing behind that of the
-- others.
use Rattle.std.specs.Prelude.{ℕ, ◌+◌, Bool, not, ◌&&◌, ◌||◌, ◌==◌, List, length, filter, is_some}
use Rattle.std.specs.Prelude.{slice_index_or}
use Rattle.std.specs.List.{list_all, list_any}
use Rattle.ariadne_picture.specs.Lists.{all_numbered}
use Rattle.ariadne_picture.specs.Pieces.{Section}
use Rattle.ariadne_picture.specs.Canvas.{Cell}
use Rattle.ariadne_picture.specs.Placing.Cells.{no_cell, is_text, is_blank}
use Rattle.ariadne_picture.specs.Placing.Group.{shown_lines, messages_of, text_cell}
use Rattle.ariadne_picture.specs.Placing.Rows.{Placing, row_at, block_rows, cells_of_places}

module _ (canvas : List (List Cell)) (sections : List Section) (p : Placing) where
  -- row n ends in a blank and this message, both without colour, behind so many cells of text
  unfoldable pub is_message_row : Section → ℕ → List ℕ → ℕ → Bool
  is_message_row s cells message n =
      let row = row_at canvas n in
      let blank = slice_index_or row (text_cell s + cells) no_cell in
      let last = slice_index_or row (text_cell s + cells + 1) no_cell in
      (length row == text_cell s + cells + 2) && is_blank blank && not (is_some blank.color)
      && is_text last.text message && not (is_some last.color)

  module _ (message_of : ℕ → List ℕ) where
    -- the rows of a block end as they should: in the message of a label that ends at its line, or with
    -- their text
    unfoldable pub are_block_ends : ℕ → Section → ℕ → Bool
    are_block_ends g s l =
        let cells = cells_of_places p g s l in
        let ended = filter (λ a. a.end_line == l) (messages_of s) in
        list_all (λ a. is_message_row s cells (message_of a.position) (p.message_row a.position)) ended
        && list_all (λ n. list_any (λ a. p.message_row a.position == n) ended
        || (length (row_at canvas n) == text_cell s + cells)) (block_rows p g l)

    -- the clause
    unfoldable pub has_message_rows : Bool
    has_message_rows = all_numbered (λ g s. list_all (are_block_ends g s) (shown_lines s)) sections
