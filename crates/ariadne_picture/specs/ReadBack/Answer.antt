-- What the message rows of a finished picture tell. No label is asked. Rows, cells, lines, columns and
-- groups count from 0.
use Rattle.std.specs.Prelude.{ℕ, ◌-◌, Bool, not, ◌&&◌, ◌||◌, ◌==◌, if◌then◌else◌, List, ◌∷◌, length, map}
use Rattle.std.specs.Prelude.{filter, find, take, drop, Option, Some, None, is_some}
use Rattle.std.specs.List.{prefix_len}
use Rattle.ariadne_picture.specs.declared.switches.CharSet.{CharSet}
use Rattle.ariadne_picture.specs.declared.switches.Switches.{Switches}
use Rattle.ariadne_picture.specs.declared.cell.Glyph.{Glyph}
use Rattle.ariadne_picture.specs.declared.cell.Glyph.TheVariants.{Ltop, Lbot, Rbot, Mbot}
use Rattle.ariadne_picture.specs.Canvas.{Cell}
use Rattle.ariadne_picture.specs.Placing.Cells.{is_glyph, is_level}
use Rattle.ariadne_picture.specs.Placing.Rows.{between, row_at, cell_at}
use Rattle.ariadne_picture.specs.ReadBack.Rows.{Known, last_before, is_heading, group_of, line_row, line_of, text_begin}
use Rattle.ariadne_picture.specs.ReadBack.Rows.{is_arrow_row}

-- where strokes end: at a line, and at the column of its text where they turn, if they do
pub record End : Type 0 where
  pub line : ℕ
  pub column : Option ℕ

-- what a message row tells: where the label of its message ends or is attached, and where it starts, if it
-- is one over several lines
pub record Told : Type 0 where
  pub group : ℕ
  pub start : Option End
  pub end : End
  pub message : List ℕ

-- the first cell that shows this stroke
unfoldable pub first_showing : CharSet → Glyph → List Cell → Option ℕ
first_showing set glyph cells =
    let k = prefix_len (λ c. not (is_glyph set glyph c)) cells in if k == length cells then None else Some k

module _ (rows : List (List Cell)) (sources : List Known) (switches : Switches) where
  -- the gutter cell where row n shows this corner
  unfoldable pub gutter_turn : Glyph → ℕ → Option ℕ
  gutter_turn glyph n =
      find (λ c. is_glyph switches.char_set glyph (cell_at rows n c))
      (between (if switches.compact then 2 else 3) (text_begin rows sources switches n))

  -- row n is the arrow row of a message: no head of a label over several lines stands there
  unfoldable pub has_message : ℕ → Bool
  has_message n = is_arrow_row rows sources switches n && not (is_some (gutter_turn Ltop n))

  -- the message of row n: its last cell, behind one blank
  unfoldable pub message_of_row : ℕ → List ℕ
  message_of_row n = (cell_at rows n (length (row_at rows n) - 1)).text

  -- the cells of row n behind its gutter, without the last ones
  unfoldable pub text_of_row : ℕ → ℕ → List Cell
  text_of_row last n =
      let begin = text_begin rows sources switches n in
      take (length (row_at rows n) - last - begin) (drop begin (row_at rows n))

  -- the column where the strokes of row n begin, with a corner or a horizontal
  unfoldable pub attach_of_row : ℕ → ℕ
  attach_of_row n =
      prefix_len (λ c. not (is_glyph switches.char_set Lbot c || is_level switches.char_set c)) (text_of_row 2 n)

  -- where strokes come from that have their head in row n: from beside the line, or from a corner below it
  unfoldable pub start_of_head : ℕ → End
  start_of_head n = record {
    line = line_of rows sources switches n;
    column = if line_row rows sources switches n == n then None
        else first_showing switches.char_set Rbot (text_of_row 0 n);
  }

  -- the row of the head of the label whose corner is gutter cell c of row n: the last one above
  unfoldable pub head_of : ℕ → ℕ → ℕ
  head_of n c = last_before (λ m. is_glyph switches.char_set Ltop (cell_at rows m c)) n

  -- what row n tells where strokes start so and end at this column
  abbrev pub told : ℕ → Option End → Option ℕ → Told
  told n start column = record {
    group = group_of rows sources switches n;
    start = start;
    end = record { line = line_of rows sources switches n; column = column };
    message = message_of_row n;
  }

  -- with a corner in the gutter, or without
  unfoldable pub told_with : ℕ → Option ℕ → Told
  told_with n None = told n None (Some (attach_of_row n))
  told_with n (Some c) =
      told n (Some (start_of_head (head_of n c))) (first_showing switches.char_set Mbot (text_of_row 2 n))

  -- what row n tells, if it is the row of a message
  unfoldable pub told_by : ℕ → Told
  told_by n = told_with n (gutter_turn Lbot n)

  -- what its headers say, from top to bottom: the first row the code and the kind, and the message, and those
  -- of the groups in their boxes what their sources are called and a place
  unfoldable pub read_headers : List (List ℕ)
  read_headers =
      (cell_at rows 0 0).text ∷ (cell_at rows 0 1).text
      ∷ map (λ n. (cell_at rows n 4).text) (filter (is_heading rows sources switches) (between 1 (length rows)))

  -- what the picture tells below its header, from top to bottom
  unfoldable pub read_back : List Told
  read_back = map told_by (filter has_message (between 1 (length rows)))
