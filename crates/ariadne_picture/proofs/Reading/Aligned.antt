-- The text of a source row and of the rows below it begins at one column, and takes the columns of the line.
use Rattle.std.proofs.Common.{◌≡◌, ℕ, Bool, true, ◌&&◌, List, ◌++◌, map, take, length, sym, ap, ◌∙◌, arith, ◌==◌}
use Rattle.std.specs.Prelude.{nat_le}
use Rattle.std.specs.List.{list_all}
use Rattle.std.specs.Cmp.Derive.{both_true}
use Rattle.std.proofs.lemmas.Bool.{eq-eqb, le-leb}
use Rattle.std.proofs.lemmas.List.{length-append, length-map, map-append, take_at}
use Rattle.ariadne_picture.specs.declared.switches.Switches.{Switches}
use Rattle.ariadne_picture.specs.declared.cell.Ink.{Ink}
use Rattle.ariadne_picture.specs.Lists.{total}
use Rattle.ariadne_picture.specs.Ranks.{multi_line_labels}
use Rattle.ariadne_picture.specs.Rows.{Row, source}
use Rattle.ariadne_picture.specs.Columns.{layout_of}
use Rattle.ariadne_picture.specs.Pieces.{Piece, Section}
use Rattle.ariadne_picture.specs.Canvas.{Cell, cell_of}
use Rattle.ariadne_picture.specs.Placing.Group.{shown_cells}
use Rattle.ariadne_picture.specs.Placing.Rows.{text_cells, cells_of_places}
use Rattle.ariadne_picture.specs.Placing.Alignment.{columns_before, is_line_aligned, is_aligned}
use Rattle.ariadne_picture.proofs.Cells.CanvasRows.{map-map}
use Rattle.ariadne_picture.proofs.Cells.MarginTexts.{plain_cells, shown-columns}
use Rattle.ariadne_picture.proofs.Lists.Elements.{list_all-true, pointwise-equal}
use Rattle.ariadne_picture.proofs.Lists.ListFacts.{all-map, all-weaker}
use Rattle.ariadne_picture.proofs.Lists.Occurrences.{total-map}
use Rattle.ariadne_picture.proofs.Cells.RowCells.{front_pieces, area-columns}
use Rattle.ariadne_picture.proofs.Cells.RowColumns.{columns, front-columns}
use Rattle.ariadne_picture.proofs.Reading.Pictures.{placing_of, rows_of, Picture, read, number, source_row}
use Rattle.ariadne_picture.proofs.Reading.ShownLine.{IsShownLine, source-row-is, source-is, every-shown-line, every-block-row, arrow-at}
use Rattle.ariadne_picture.proofs.Reading.TextRows.{IsTextRow, area, area-length, source-text, arrow-text, alternate-text, text-cells, cells-before}

-- how many columns a cell takes
abbrev cell_columns : Cell → ℕ
cell_columns c = c.columns

-- ---- the margin and the gutter

-- rows have as much in front of their text
front-same : (w : ℕ) (s : Section) (x y : Row) → total columns (front_pieces w s x) ≡ total columns (front_pieces w s y)
front-same w s x y = front-columns w s x ∙ sym (front-columns w s y)

-- ---- the clause

module _ (v : Picture) where
  -- before the text of a row stand its margin and its gutter
  before-text : {g : ℕ} {s : Section} {x : Row} {text : List Piece} → IsTextRow v g s x text
      → read v columns_before s (number v g s x) ≡ total columns (front_pieces v.width s x)
  unfolding columns_before
  before-text r = ap (total cell_columns) (cells-before v r) ∙ total-map cell_columns (cell_of v.palette) _

  module _ (g : ℕ) (s : Section) (l : ℕ) (h : IsShownLine v g s l) where
    -- the cells of the places of the rows below the line
    abbrev count : ℕ
    count = cells_of_places (placing_of v) g s l

    -- what is asked of a row below the line
    abbrev row_test : ℕ → Bool
    row_test n =
        (read v columns_before s n == read v columns_before s (source_row v g l))
        && list_all (λ (c : Cell). c.columns == 1) (take count (text_cells (rows_of v) s n))
        && nat_le count (length (text_cells (rows_of v) s n))

    -- a row below begins where the source row does, and each cell of its places has one column
    row-passes : {x : Row} (ink : ℕ → Ink) (rest : List Piece) → IsTextRow v g s x (area s l ink ++ rest)
        → row_test (number v g s x) ≡ true
    row-passes {x} ink rest r =
        let places : List Cell = map (cell_of v.palette) (area s l ink) in
        let before : read v columns_before s (number v g s x) ≡ read v columns_before s (source_row v g l) =
        before-text r ∙ front-same v.width s x (source l) ∙ sym (before-text (source-text v (source-row-is v h)))
        ∙ ap (read v columns_before s) (sym (source-is v h)) in
        let cells : text_cells (rows_of v) s (number v g s x) ≡ places ++ map (cell_of v.palette) rest =
        text-cells v r ∙ map-append (cell_of v.palette) (area s l ink) rest in
        let long : length places ≡ count = length-map (area s l ink) (cell_of v.palette) ∙ area-length v h ink in
        let ones : list_all (λ (c : Cell). c.columns == 1) places ≡ true =
        list_all-true _ places (all-map _ (cell_of v.palette) (area s l ink)
        (all-weaker (λ q. columns q ≡ 1) _ (area s l ink) (λ q. eq-eqb q.columns 1)
        (area-columns s.sheet.switches (layout_of s.sheet l) ink))) in
        let first = ap (λ xs. list_all (λ (c : Cell). c.columns == 1) (take count xs)) cells
        ∙ ap (list_all (λ (c : Cell). c.columns == 1)) (take_at places _ count long) ∙ ones in
        let size = ap length cells ∙ length-append places (map (cell_of v.palette) rest) in
        both_true (both_true (eq-eqb _ _ before) first) (le-leb _ _ (omega (arith, size, long)))

    -- a source row takes the columns of the characters of its line
    source-aligned : map cell_columns (text_cells (rows_of v) s (source_row v g l)) ≡ map columns (shown_cells s.sheet l)
    unfolding shown_cells
    source-aligned =
        ap (λ n. map cell_columns (text_cells (rows_of v) s n)) (source-is v h)
        ∙ ap (map cell_columns) (text-cells v (source-text v (source-row-is v h))) ∙ map-map cell_columns (cell_of v.palette) _
        ∙ shown-columns v.texts.switches (multi_line_labels s.sheet.labels) (layout_of s.sheet l)
        ∙ ap (λ (switches : Switches). map columns (plain_cells switches (layout_of s.sheet l))) (sym (v.drawn.same_switches g s h.group))

    -- so the rows of the line stand below its characters
    line-aligned : read v is_line_aligned g s l ≡ true
    unfolding is_line_aligned
    line-aligned =
        both_true (pointwise-equal _ _ source-aligned)
        (list_all-true row_test _ (every-block-row v h _
        (λ r x q. row-passes _ _ (arrow-text v (arrow-at v q))) (λ k r is. row-passes _ _ (alternate-text v is))))

  -- every report's picture is aligned
  pub rows-aligned : read v is_aligned ≡ true
  unfolding is_aligned
  rows-aligned = every-shown-line v (read v is_line_aligned) line-aligned
