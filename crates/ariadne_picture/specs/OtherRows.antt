-- The clause on the rows that no line has: the picture's first row, the header of each group and the row
-- below it, its last row, the rows in place of hidden lines, helps and notes. They show what is theirs, and
-- no stroke behind their gutter. Rows, cells and lines count from 0.
use Rattle.std.specs.Prelude.{ℕ, ◌+◌, ◌-◌, Bool, not, ◌&&◌, ◌||◌, ◌==◌, if◌then◌else◌, List, []}
use Rattle.std.specs.Prelude.{◌++◌, length, map, take, drop, filter}
use Rattle.std.specs.List.{list_all, list_any}
use Rattle.std.specs.Cmp.Lexicographic.{pointwise}
use Rattle.ariadne_picture.specs.declared.cell.Glyph.{Glyph}
use Rattle.ariadne_picture.specs.declared.cell.Glyph.TheVariants.{Vbar, VbarGap}
use Rattle.ariadne_picture.specs.Lists.{all_numbered}
use Rattle.ariadne_picture.specs.Rows.{help, note, asides}
use Rattle.ariadne_picture.specs.Pieces.{Piece, Section, Texts, glyph_text, group_header_pieces}
use Rattle.ariadne_picture.specs.Pieces.{spacer_pieces, tail_pieces, text_pieces}
use Rattle.ariadne_picture.specs.Canvas.{Cell, header_pieces}
use Rattle.ariadne_picture.specs.Placing.Cells.{is_text}
use Rattle.ariadne_picture.specs.Placing.Group.{set_of, shown_lines, column_cell, text_cell}
use Rattle.ariadne_picture.specs.Placing.Rows.{Placing, between, row_at, cell_at}
use Rattle.ariadne_picture.specs.Placing.Together.{has_margin, is_in_block}

-- what stands behind the gutter for helps and notes, row by row: they stand in the last group
unfoldable pub all_aside_rows : Texts → Section → List (List Piece)
all_aside_rows t s =
    let compact = s.sheet.switches.compact in
    if s.is_last then map (text_pieces t s) (asides compact help t.helps ++ asides compact note t.notes) else []

module _ (canvas : List (List Cell)) (sections : List Section) (p : Placing) (t : Texts) where
  -- from cell c on row n has the texts of these pieces, and no more
  unfoldable pub has_texts : ℕ → ℕ → List Piece → Bool
  has_texts n c pieces =
      pointwise is_text (map (λ c. c.text) (drop c (row_at canvas n))) (map (λ q. q.text) pieces)

  module _ (g : ℕ) (s : Section) where
    -- the first row of the group says its name and a place, the next one and the last one are as they should
    -- be, and all of these leave as many columns for line numbers
    unfoldable pub is_framed : Bool
    is_framed =
        let digits = length (cell_at canvas (p.start g) 0).text - 2 in
        has_texts (p.start g) 0 (group_header_pieces s digits) && (s.sheet.switches.compact
        || (has_texts (p.start g + 1) 0 (spacer_pieces (set_of s) digits)
        && has_texts (p.start (g + 1) - 1) 0 (tail_pieces (set_of s) digits s.is_last)))

    -- row n shows a line, or is one of a block
    unfoldable pub is_of_line : ℕ → Bool
    is_of_line n = list_any (λ l. (n == p.source_row g l) || is_in_block canvas sections p g l n) (shown_lines s)

    -- the other rows between these
    unfoldable pub others : List ℕ
    others =
        let frame = if s.sheet.switches.compact then 0 else 1 in
        filter (λ n. not (is_of_line n)) (between (p.start g + 1 + frame) (p.start (g + 1) - frame))

    -- row n has this margin, and so many cells
    unfoldable pub ends_at_cell : Glyph → ℕ → ℕ → Bool
    ends_at_cell glyph cells n =
        has_margin canvas sections p s (glyph_text (set_of s) glyph) n && (length (row_at canvas n) == cells)

    -- row n stands in place of hidden lines: it ends with its gutter behind a broken bar, or with its margin
    unfoldable pub is_hidden_row : ℕ → Bool
    is_hidden_row n = ends_at_cell VbarGap (text_cell s) n || ends_at_cell Vbar (column_cell s 0) n

    -- row n has this text behind its gutter
    unfoldable pub is_aside_row : ℕ → List Piece → Bool
    is_aside_row n text =
        ends_at_cell Vbar (text_cell s + length text) n && has_texts n (text_cell s) text

    -- the last of the others are those of the helps and the notes, and those before them stand in place of
    -- hidden lines
    unfoldable pub has_own_others : Bool
    has_own_others =
        let k = length others - length (all_aside_rows t s) in
        list_all is_hidden_row (take k others) && pointwise is_aside_row (drop k others) (all_aside_rows t s)

  -- the clause
  unfoldable pub has_other_rows : Bool
  has_other_rows =
      has_texts 0 0 (header_pieces t) && all_numbered (λ g s. is_framed g s && has_own_others g s) sections
