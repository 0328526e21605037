-- Colours lead too: the strokes in a label's own rows, its bars, and its verticals where no other is
-- seen, have its colour. Rows, cells, lines, gutter columns and places count from 0.
use Rattle.std.specs.Prelude.{ℕ, ◌+◌, Bool, not, ◌&&◌, ◌||◌, ◌==◌, nat_le, nat_lt, List, Option}
use Rattle.std.specs.List.{list_all, list_any}
use Rattle.std.specs.Option.{option_eq}
use Rattle.ariadne_color.specs.declared.color.Color.{Color}
use Rattle.ariadne_color.specs.contracts.color.ColorPartialEq.TheImpl as comparing
use Rattle.ariadne_picture.specs.declared.switches.CharSet.{CharSet}
use Rattle.ariadne_picture.specs.declared.label_info.LabelInfo.{LabelInfo}
use Rattle.ariadne_picture.specs.declared.cell.Glyph.TheVariants.{Rarrow}
use Rattle.ariadne_picture.specs.declared.cell.Paint.TheVariants.{Label}
use Rattle.ariadne_picture.specs.Lists.{all_numbered}
use Rattle.ariadne_picture.specs.Report.{ReportFields}
use Rattle.ariadne_picture.specs.Ranks.{gutter_labels, is_on_one_line}
use Rattle.ariadne_picture.specs.Strokes.{is_at_margin}
use Rattle.ariadne_picture.specs.Pieces.{Section, gutter_len}
use Rattle.ariadne_picture.specs.Canvas.{Cell, palette_of, color_of}
use Rattle.ariadne_picture.specs.Placing.Cells.{is_blank, is_glyph, is_level}
use Rattle.ariadne_picture.specs.Placing.Group.{set_of, shown_lines, messages_of, column_cell, place_cell, has_cell}
use Rattle.ariadne_picture.specs.Placing.Rows.{Placing, between, cell_at, gutter_cell}
use Rattle.ariadne_picture.specs.Placing.GutterBars.{gutter_rows}
use Rattle.ariadne_picture.specs.Causes.{traces_below}

-- the colour that the label at position k has
abbrev pub label_color : {S : Type 0} → ReportFields S → ℕ → Option Color
label_color r k = color_of (palette_of r) (Label k)

-- two colours are the same, or there is none
abbrev pub is_color : Option Color → Option Color → Bool
is_color a b = option_eq comparing.ghosts.eq a b

-- a cell shows a stroke that is not level
abbrev pub is_steep : CharSet → Cell → Bool
is_steep set c = not (is_blank c || is_level set c)

-- a cell shows a horizontal or an arrow head
abbrev pub is_pointer : CharSet → Cell → Bool
is_pointer set c = is_level set c || is_glyph set Rarrow c

-- a test holds of each gutter cell from column i on
abbrev pub all_gutter_cells : Section → ℕ → (ℕ → Bool) → Bool
all_gutter_cells s i test =
    list_all (λ j. list_all test (between (column_cell s j) (column_cell s (j + 1))))
    (between i (gutter_len s.sheet))

-- and of each cell of the places from j to before k below line l
abbrev pub all_place_cells : Section → ℕ → ℕ → ℕ → (ℕ → Bool) → Bool
all_place_cells s l j k test =
    list_all (λ m. list_all test (between (place_cell s l m) (place_cell s l (m + 1)))) (between j k)

-- the label at position k has colour color_at k
module _ (canvas : List (List Cell)) (sections : List Section) (p : Placing)
    (color_at : ℕ → Option Color) where
  -- cell c of row n has the colour of label a
  unfoldable pub has_color : LabelInfo → ℕ → ℕ → Bool
  has_color a n c = is_color (cell_at canvas n c).color (color_at a.position)

  -- in row n what the column of gutter label i, which is a, shows, if that is not level
  unfoldable pub is_bar_colored : Section → ℕ → LabelInfo → ℕ → Bool
  is_bar_colored s i a n =
      not (is_steep (set_of s) (gutter_cell canvas s n i))
      || has_color a n (column_cell s i)

  module _ (g : ℕ) (s : Section) where
    -- ---- verticals below line l, of a label a that turns at place k of row m

    -- another label turns at place k of row n, or below that and above row m
    unfoldable pub is_covered : ℕ → ℕ → ℕ → ℕ → Bool
    is_covered l k m n =
        list_any (λ trace. trace.turns && (trace.place == k) && nat_le n trace.row && nat_lt trace.row m)
        (traces_below canvas sections p g s l)

    -- what row n shows at place k has its colour, if it is a vertical and no other label's
    unfoldable pub is_vertical_colored_in : ℕ → LabelInfo → ℕ → ℕ → ℕ → Bool
    is_vertical_colored_in l a k m n =
        not (has_cell s l k && is_steep (set_of s) (cell_at canvas n (place_cell s l k)))
        || is_covered l k m n || has_color a n (place_cell s l k)

    -- so it is in the rows from the line down to row m
    unfoldable pub is_vertical_colored : ℕ → LabelInfo → ℕ → ℕ → Bool
    is_vertical_colored l a k m =
        list_all (is_vertical_colored_in l a k m) (between (p.source_row g l + 1) m)

    -- ---- labels within one line

    -- its vertical, and its row from its corner to its message
    unfoldable pub is_inline_colored : LabelInfo → Bool
    is_inline_colored a =
        let l = a.start_line in
        let n = p.message_row a.position in
        is_vertical_colored l a a.attach n && all_place_cells s l a.attach (p.places g l) (has_color a n)

    -- ---- gutter label i, which is a

    -- the row of its message from its column on, and its vertical there if it isn't the margin label
    unfoldable pub is_end_colored : ℕ → LabelInfo → Bool
    is_end_colored i a =
        let l = a.end_line in
        let n = p.message_row a.position in
        all_gutter_cells s i (has_color a n) && all_place_cells s l 0 (p.places g l) (has_color a n)
        && (is_at_margin s.sheet l i || is_vertical_colored l a a.end_place n)

    -- the row of its head from its column to its corner, and its vertical, unless its head stands
    -- beside the line
    unfoldable pub is_start_colored : ℕ → LabelInfo → Bool
    is_start_colored i a =
        let l = a.start_line in
        let n = p.head_row g i in
        is_at_margin s.sheet l i || (all_gutter_cells s i (has_color a n)
        && all_place_cells s l 0 (a.start_place + 1) (has_color a n)
        && is_vertical_colored l a a.start_place n)

    -- beside line l, if it is the margin label there, its horizontal and its arrow head
    unfoldable pub is_pointer_colored : ℕ → LabelInfo → ℕ → Bool
    is_pointer_colored i a l =
        let n = p.source_row g l in
        not (is_at_margin s.sheet l i) || all_gutter_cells s i
        (λ c. not (is_pointer (set_of s) (cell_at canvas n c)) || has_color a n c)

    -- all of this
    unfoldable pub is_gutter_label_colored : ℕ → LabelInfo → Bool
    is_gutter_label_colored i a =
        is_end_colored i a && is_start_colored i a && list_all (is_pointer_colored i a) (shown_lines s)
        && list_all (is_bar_colored s i a) (gutter_rows canvas sections p g s)

  -- the clause on colours
  unfoldable pub has_label_colors : Bool
  has_label_colors =
      all_numbered (λ g s.
      list_all (λ a. not (is_on_one_line a) || is_inline_colored g s a) (messages_of s)
      && all_numbered (is_gutter_label_colored g s) (gutter_labels s.sheet.labels)) sections
