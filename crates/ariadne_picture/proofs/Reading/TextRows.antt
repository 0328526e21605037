-- The rows that have a gutter: what text stands behind it, which is the line, or below it the places of a line label and
-- perhaps a message; and the cells of such a row.
use Rattle.std.proofs.Common.{◌≡◌, ℕ, ◌+◌, List, [], ◌++◌, map, take, drop, length, Some, sym, ap, ◌∙◌, append_assoc}
use Rattle.std.specs.Prelude.{slice_get, option_map}
use Rattle.std.proofs.lemmas.List.{append-nil, length-append, length-map, map-append, take_at, drop_at}
use Rattle.std.proofs.lemmas.Option.{slice_get-map, get_or_from_slice_get}
use Rattle.ariadne_picture.specs.declared.switches.Switches.{Switches}
use Rattle.ariadne_picture.specs.declared.cell.Ink.{Ink}
use Rattle.ariadne_picture.specs.Ranks.{multi_line_labels}
use Rattle.ariadne_picture.specs.Rows.{Row, source, arrow, alternate, gap}
use Rattle.ariadne_picture.specs.Columns.{layout_of, column_of}
use Rattle.ariadne_picture.specs.Cells.{alternate_place, arrow_place}
use Rattle.ariadne_picture.specs.Pieces.{Piece, Section, area_pieces, message_pieces, shown_pieces, rest_pieces, row_pieces, text_pieces, margin_pieces, gutter_pieces}
use Rattle.ariadne_picture.specs.Canvas.{Cell, cell_of}
use Rattle.ariadne_picture.specs.Placing.Cells.{no_cell}
use Rattle.ariadne_picture.specs.Placing.Group.{text_cell}
use Rattle.ariadne_picture.specs.Placing.Rows.{row_at, cell_at, cells_of_places}
use Rattle.ariadne_picture.proofs.Cells.CanvasRows.{row_cells}
use Rattle.ariadne_picture.proofs.Cells.RowCells.{length-area, front_pieces, length-front, source-parts, alternate-parts, arrow-parts}
use Rattle.ariadne_picture.proofs.Rows.RowNumbers.{at-front, at-back, row-at-number}
use Rattle.ariadne_picture.proofs.Reading.Pictures.{placing_of, Picture, rows_of, read, number, RowAt}
use Rattle.ariadne_picture.proofs.Reading.ShownLine.{IsShownLine, places-are}

-- row x of group g, which is s, has a gutter, and behind it this text
pub record IsTextRow (v : Picture) (g : ℕ) (s : Section) (x : Row) (text : List Piece) : Type 0 where
  pub index : ℕ
  pub is : RowAt v g s index x
  pub parts : row_pieces v.texts v.width s x ≡ front_pieces v.width s x ++ text

-- the places of a row below line l, by their inks
abbrev pub area : Section → ℕ → (ℕ → Ink) → List Piece
area s l ink = area_pieces s.sheet.switches (layout_of s.sheet l) ink

-- those of the arrow row and of the alternate row of line label r
abbrev pub arrow_inks : Section → ℕ → ℕ → ℕ → Ink
arrow_inks s l r = arrow_place s.sheet.switches (layout_of s.sheet l) r (slice_get (layout_of s.sheet l).labels r)

abbrev pub alternate_inks : Picture → Section → ℕ → ℕ → ℕ → Ink
alternate_inks v s l r = alternate_place v.texts.multiline_arrows s.sheet.switches (layout_of s.sheet l) r

module _ (v : Picture) where
  -- the cells of these places are as many as the placing says
  pub area-length : {g : ℕ} {s : Section} {l : ℕ} → IsShownLine v g s l → (ink : ℕ → Ink)
      → length (area s l ink) ≡ cells_of_places (placing_of v) g s l
  area-length {s = s} {l} h ink =
      length-area s.sheet.switches (layout_of s.sheet l) ink
      ∙ ap (column_of s.sheet.switches (layout_of s.sheet l)) (sym (places-are v h))

  -- ---- the texts of rows

  module _ {g : ℕ} {s : Section} {k l : ℕ} where
    -- the pieces of a row are its front and its text, with the switches of the report, which are the group's
    pub source-text : RowAt v g s k (source l)
        → IsTextRow v g s (source l) (shown_pieces v.texts.switches (multi_line_labels s.sheet.labels) (layout_of s.sheet l))
    source-text is = record { index = k; is = is; parts = source-parts v.texts v.width s l }

    -- an arrow row has places, and the message of its label or nothing
    pub arrow-text : {r : ℕ} → RowAt v g s k (arrow l r)
        → IsTextRow v g s (arrow l r) (area s l (arrow_inks s l r) ++ message_pieces v.texts (slice_get (layout_of s.sheet l).labels r))
    arrow-text {r} is = record {
      index = k;
      is = is;
      parts =
          let y = layout_of s.sheet l in
          let label = slice_get y.labels r in
          let front = front_pieces v.width s (arrow l r) in
          arrow-parts v.texts v.width s l r
          ∙ ap (λ (switches : Switches). front ++ (area_pieces switches y (arrow_place switches y r label) ++ message_pieces v.texts label))
          (sym (v.drawn.same_switches g s is.group));
    }

    -- an alternate row has places alone
    pub alternate-text : {r : ℕ} → RowAt v g s k (alternate l r) → IsTextRow v g s (alternate l r) (area s l (alternate_inks v s l r) ++ [])
    alternate-text {r} is = record {
      index = k;
      is = is;
      parts =
          let y = layout_of s.sheet l in
          let front = front_pieces v.width s (alternate l r) in
          alternate-parts v.texts v.width s l r
          ∙ ap (λ (switches : Switches). front ++ area_pieces switches y (alternate_place v.texts.multiline_arrows switches y r)) (sym (v.drawn.same_switches g s is.group))
          ∙ ap (λ q. front ++ q) (sym (append-nil (area s l (alternate_inks v s l r))));
    }

    -- a gap row has its margin and its gutter alone
    pub gap-text : RowAt v g s k (gap l) → IsTextRow v g s (gap l) []
    unfolding row_pieces rest_pieces text_pieces
    gap-text is = record { index = k; is = is; parts = sym (append_assoc (margin_pieces s.sheet.switches v.width s.display_offset (gap l)) (gutter_pieces s.sheet (gap l)) []) }

  -- ---- the cells of a row

  -- a row of the picture is found by its number
  pub row-read : {g : ℕ} {s : Section} {k : ℕ} {x : Row} → RowAt v g s k x
      → row_at (rows_of v) (number v g s x) ≡ row_cells v.palette v.texts v.width s x
  unfolding row_at
  row-read {g} {s} {k} {x} is =
      let cells = row_cells v.palette v.texts v.width in
      get_or_from_slice_get (rows_of v) (number v g s x) (cells s x) [] (row-at-number _ _ cells v.header g s k x is)

  module _ {g : ℕ} {s : Section} {x : Row} {text : List Piece} (r : IsTextRow v g s x text) where
    -- pieces as cells, and those before the text
    abbrev cells : List Piece → List Cell
    cells = map (cell_of v.palette)

    abbrev front : List Cell
    front = cells (front_pieces v.width s x)

    -- the row has both in turn
    row-parts : row_at (rows_of v) (number v g s x) ≡ front ++ cells text
    row-parts = row-read r.is ∙ ap cells r.parts ∙ map-append (cell_of v.palette) _ text

    -- before the text stand as many as the number of its first cell says
    front-cells : length front ≡ text_cell s
    front-cells = length-map _ (cell_of v.palette) ∙ read v length-front v.width s x

    -- so the text is what stands behind them
    pub text-cells : drop (text_cell s) (row_at (rows_of v) (number v g s x)) ≡ cells text
    text-cells = ap (drop (text_cell s)) row-parts ∙ drop_at front (cells text) _ front-cells

    -- and the front what stands before it
    pub cells-before : take (text_cell s) (row_at (rows_of v) (number v g s x)) ≡ front
    cells-before = ap (take (text_cell s)) row-parts ∙ take_at front (cells text) _ front-cells

    -- the row is as long as both
    pub row-length : length (row_at (rows_of v) (number v g s x)) ≡ text_cell s + length text
    row-length =
        ap length row-parts ∙ length-append front (cells text) ∙ (λ i. front-cells i + length-map text (cell_of v.palette) i)

    -- each cell is that of its piece
    row-cell : (c : ℕ) (q : Piece) → slice_get (front_pieces v.width s x ++ text) c ≡ Some q
        → cell_at (rows_of v) (number v g s x) c ≡ cell_of v.palette q
    unfolding cell_at
    row-cell c q e =
        get_or_from_slice_get (row_at (rows_of v) (number v g s x)) c _ no_cell
        (ap (λ row. slice_get row c) (row-read r.is ∙ ap cells r.parts) ∙ slice_get-map (cell_of v.palette) _ c
        ∙ ap (option_map (cell_of v.palette)) e)

    -- cell c of the front is the row's, and cell o of the text stands behind the front
    pub front-at : (c : ℕ) (q : Piece) → slice_get (front_pieces v.width s x) c ≡ Some q
        → cell_at (rows_of v) (number v g s x) c ≡ cell_of v.palette q
    front-at c q e = row-cell c q (at-front (front_pieces v.width s x) text c q e)

    pub text-at : (o : ℕ) (q : Piece) → slice_get text o ≡ Some q
        → cell_at (rows_of v) (number v g s x) (text_cell s + o) ≡ cell_of v.palette q
    text-at o q e =
        ap (λ n. cell_at (rows_of v) (number v g s x) (n + o)) (sym (read v length-front v.width s x))
        ∙ row-cell _ q (at-back (front_pieces v.width s x) text o ∙ e)
