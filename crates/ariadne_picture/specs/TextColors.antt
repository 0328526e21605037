-- The clause on the colours of characters and underlines. Rows, cells, lines and places count from 0.
use Rattle.std.specs.Prelude.{ℕ, ◌+◌, Bool, not, ◌&&◌, ◌||◌, if◌then◌else◌, List, map, Option, option_to_list}
use Rattle.std.specs.List.{list_all}
use Rattle.std.specs.Cmp.Lexicographic.{pointwise}
use Rattle.ariadne_base.specs.Locations.{upto}
use Rattle.ariadne_color.specs.declared.color.Color.{Color}
use Rattle.ariadne_picture.specs.declared.label_info.LineLabel.{LineLabel}
use Rattle.ariadne_picture.specs.declared.cell.Glyph.TheVariants.{Underline}
use Rattle.ariadne_picture.specs.declared.cell.Paint.{Paint}
use Rattle.ariadne_picture.specs.Lists.{all_numbered}
use Rattle.ariadne_picture.specs.Ranks.{multi_line_labels}
use Rattle.ariadne_picture.specs.Columns.{layout_of}
use Rattle.ariadne_picture.specs.Cells.{paint_of}
use Rattle.ariadne_picture.specs.Pieces.{Section, shown_pieces}
use Rattle.ariadne_picture.specs.Canvas.{Cell}
use Rattle.ariadne_picture.specs.Placing.Cells.{is_glyph}
use Rattle.ariadne_picture.specs.Placing.Group.{set_of, shown_lines, place_cell, has_underlines}
use Rattle.ariadne_picture.specs.Placing.Rows.{Placing, between, cell_at, text_cells}
use Rattle.ariadne_picture.specs.LabelColors.{is_color}
use Rattle.ariadne_picture.specs.LoneLines.{holder}

-- a paint asks for colour color_of_paint
module _ (canvas : List (List Cell)) (sections : List Section) (p : Placing)
    (color_of_paint : Paint → Option Color) where
  module _ (g : ℕ) (s : Section) (l : ℕ) where
    -- the characters of line l have the colours of the labels that are chosen for them
    unfoldable pub are_characters_colored : Bool
    are_characters_colored =
        let pieces = shown_pieces s.sheet.switches (multi_line_labels s.sheet.labels) (layout_of s.sheet l) in
        pointwise is_color (map (λ c. c.color) (text_cells canvas s (p.source_row g l)))
        (map (λ q. color_of_paint q.paint) pieces)

    -- right below it, the cells of place k have the colour of the preferred label that holds it, or where no
    -- underline begins the place that of its first cell
    unfoldable pub is_holder_shown : ℕ → LineLabel → Bool
    is_holder_shown k x =
        let cell = cell_at canvas (p.source_row g l + 1) in
        let first = cell (place_cell s l k) in
        list_all (λ c. if is_glyph (set_of s) Underline first then is_color (cell c).color (color_of_paint (paint_of x.info))
        else is_color (cell c).color first.color) (between (place_cell s l k) (place_cell s l (k + 1)))

    -- so it is at each place that one holds, where underlines are drawn
    unfoldable pub are_underlines_colored : Bool
    are_underlines_colored =
        not (has_underlines s l)
        || list_all (λ k. list_all (is_holder_shown k) (option_to_list (holder s l k))) (upto (p.places g l))

  -- the clause
  unfoldable pub has_text_colors : Bool
  has_text_colors =
      all_numbered (λ g s. list_all (λ l. are_characters_colored g s l && are_underlines_colored g s l) (shown_lines s))
      sections
