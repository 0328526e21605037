-- The clause on ends of gutter traces: of a label over several lines, which is gutter label i of
-- group g.
use Rattle.std.specs.Prelude.{ℕ, ◌+◌, Bool, not, ◌&&◌, ◌||◌, if◌then◌else◌, List}
use Rattle.std.specs.List.{list_all}
use Rattle.ariadne_picture.specs.declared.label_info.LabelInfo.{LabelInfo}
use Rattle.ariadne_picture.specs.declared.cell.Glyph.{Glyph}
use Rattle.ariadne_picture.specs.declared.cell.Glyph.TheVariants.{Hbar, Vbar, Rarrow, Ltop, Lbot}
use Rattle.ariadne_picture.specs.declared.cell.Glyph.TheVariants.{Rbot, Mbot, Lcross}
use Rattle.ariadne_picture.specs.Lists.{all_numbered}
use Rattle.ariadne_picture.specs.Ranks.{gutter_labels}
use Rattle.ariadne_picture.specs.Strokes.{is_at_margin}
use Rattle.ariadne_picture.specs.Pieces.{Section}
use Rattle.ariadne_picture.specs.Canvas.{Cell}
use Rattle.ariadne_picture.specs.Placing.Cells.{is_glyph, is_level}
use Rattle.ariadne_picture.specs.Placing.Group.{set_of, shown_lines, column_cell, arrow_column, text_cell}
use Rattle.ariadne_picture.specs.Placing.Rows.{Placing, between, cell_at, gutter_cell}
use Rattle.ariadne_picture.specs.Placing.Rows.{holds_at_places, is_traced_at}

module _ (canvas : List (List Cell)) (sections : List Section) (p : Placing) where
  -- all cells of row n behind the first one of column i, up to the text, are level
  unfoldable pub is_level_right_of : Section → ℕ → ℕ → Bool
  is_level_right_of s i n =
      list_all (λ c. is_level (set_of s) (cell_at canvas n c))
      (between (column_cell s i + 1) (text_cell s))

  -- behind the first cell of column j row n has a horizontal, if the column has another cell
  unfoldable pub leads_on : Section → ℕ → ℕ → Bool
  leads_on s n j =
      s.sheet.switches.compact || is_glyph (set_of s) Hbar (cell_at canvas n (column_cell s j + 1))

  module _ (g : ℕ) (s : Section) (i : ℕ) where
    -- its arrow comes out of column i, to its message. Where it ends as the margin label, a tee and an
    -- arrow head stand beside the line, and a level below; else a corner stands at the place of its
    -- last character, and a vertical above
    unfoldable pub is_end_traced : LabelInfo → Bool
    is_end_traced a =
        let l = a.end_line in
        let n = p.message_row a.position in
        let set = set_of s in
        let holds = holds_at_places canvas p g s l n in
        is_glyph set Lbot (gutter_cell canvas s n i) && is_level_right_of s i n
        && holds 0 a.end_place (is_level set) && holds (a.end_place + 1) (p.places g l) (is_level set)
        && (if is_at_margin s.sheet l i
        then holds a.end_place (a.end_place + 1) (is_level set)
        && is_glyph set Lcross (gutter_cell canvas s (p.source_row g l) i)
        && is_glyph set Rarrow (gutter_cell canvas s (p.source_row g l) (arrow_column s))
        else holds a.end_place (a.end_place + 1) (is_glyph set Mbot)
        && is_traced_at canvas p g s l a.end_place n)

    -- its head leads into column i: as the margin label from an arrow head; else by a level from a
    -- corner at its first character, and a vertical above
    unfoldable pub is_start_traced : LabelInfo → Bool
    is_start_traced a =
        let l = a.start_line in
        let n = p.head_row g i in
        let set = set_of s in
        let holds = holds_at_places canvas p g s l n in
        is_glyph set Ltop (gutter_cell canvas s n i)
        && (if is_at_margin s.sheet l i then is_glyph set Rarrow (gutter_cell canvas s n (arrow_column s))
        else is_level_right_of s i n && holds 0 a.start_place (is_level set)
        && holds a.start_place (a.start_place + 1) (is_glyph set Rbot)
        && is_traced_at canvas p g s l a.start_place n)

    -- beside line l whose margin label it is, a horizontal leads from its column to the arrow head: in each
    -- column between it fills all cells, or the bar of that column's label stands there
    unfoldable pub is_pointed : ℕ → Bool
    is_pointed l =
        let n = p.source_row g l in
        let shows = λ (glyph : Glyph) (j : ℕ). is_glyph (set_of s) glyph (gutter_cell canvas s n j) in
        not (is_at_margin s.sheet l i)
        || (leads_on s n i && list_all (λ j. shows Vbar j || (shows Hbar j && leads_on s n j))
        (between (i + 1) (arrow_column s)))

  -- the clause: both ends of each, and its strokes to arrow heads
  unfoldable pub has_ends_of_gutter_traces : Bool
  has_ends_of_gutter_traces =
      all_numbered (λ g s. all_numbered (λ i a. is_end_traced g s i a && is_start_traced g s i a
      && list_all (is_pointed g s i) (shown_lines s)) (gutter_labels s.sheet.labels)) sections
