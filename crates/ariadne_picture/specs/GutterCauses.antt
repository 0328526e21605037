-- The other side of the tracing promise in the gutter. What the first cell of a gutter label's column
-- shows in its rows is told by the clause on gutter bars. Any other stroke in the gutter is a
-- horizontal or an arrow head of a gutter label. Rows, lines and gutter columns count from 0.
use Rattle.std.specs.Prelude.{ℕ, ◌+◌, Bool, true, false, not, ◌&&◌, ◌||◌, ◌==◌, nat_le, List}
use Rattle.std.specs.List.{list_all}
use Rattle.ariadne_base.specs.Locations.{upto}
use Rattle.ariadne_picture.specs.declared.label_info.LabelInfo.{LabelInfo}
use Rattle.ariadne_picture.specs.declared.cell.Glyph.TheVariants.{Vbar, Lcross}
use Rattle.ariadne_picture.specs.Lists.{all_numbered, any_numbered}
use Rattle.ariadne_picture.specs.Ranks.{gutter_labels}
use Rattle.ariadne_picture.specs.Strokes.{is_at_margin}
use Rattle.ariadne_picture.specs.Pieces.{Section, gutter_len}
use Rattle.ariadne_picture.specs.Canvas.{Cell}
use Rattle.ariadne_picture.specs.Placing.Cells.{is_blank, is_glyph, is_level}
use Rattle.ariadne_picture.specs.Placing.Group.{set_of, column_cell, arrow_column}
use Rattle.ariadne_picture.specs.Placing.Rows.{Placing, cell_at, gutter_cell}
use Rattle.ariadne_picture.specs.Placing.GutterBars.{gutter_rows}

module _ (canvas : List (List Cell)) (sections : List Section) (p : Placing) where
  module _ (g : ℕ) (s : Section) where
    -- row n shows line l, beside which gutter label i starts or ends as the margin label
    abbrev pub is_beside : ℕ → ℕ → ℕ → Bool
    is_beside i l n = (n == p.source_row g l) && is_at_margin s.sheet l i

    -- row n has a horizontal of gutter label i, which is a: it is that of its head or of its message,
    -- or its end stands beside it
    unfoldable pub has_gutter_level : ℕ → LabelInfo → ℕ → Bool
    has_gutter_level i a n =
        (n == p.head_row g i) || (n == p.message_row a.position) || is_beside i a.end_line n

    -- its arrow head stands in row n
    unfoldable pub has_gutter_arrow : ℕ → LabelInfo → ℕ → Bool
    has_gutter_arrow i a n = is_beside i a.start_line n || is_beside i a.end_line n

    -- row n is one of those from its head to its message, where the first cell of its column shows its
    -- stroke. A tee is one only beside its end
    unfoldable pub is_own_gutter_stroke : ℕ → LabelInfo → ℕ → Cell → Bool
    is_own_gutter_stroke i a n c =
        nat_le (p.head_row g i) n && nat_le n (p.message_row a.position)
        && (not (is_glyph (set_of s) Lcross c) || is_glyph (set_of s) Vbar c
        || is_beside i a.end_line n)

    -- what a cell of column j of row n shows is a stroke of it: in its own column, an arrow head in the
    -- last one, or a horizontal from its column on, up to the arrow head. The cell is the column's first
    -- one, or the one behind
    unfoldable pub is_gutter_stroke_of : ℕ → ℕ → Bool → Cell → ℕ → LabelInfo → Bool
    is_gutter_stroke_of n j is_first c i a =
        let is_arrow = (j == arrow_column s) && has_gutter_arrow i a n in
        (is_first && (i == j) && is_own_gutter_stroke i a n c) || (is_first && is_arrow)
        || (nat_le i j && has_gutter_level i a n && is_level (set_of s) c && not is_arrow)

    -- such a cell is blank, or shows a stroke that some gutter label has there
    unfoldable pub has_gutter_cause : ℕ → ℕ → Bool → Cell → Bool
    has_gutter_cause n j is_first c =
        is_blank c || any_numbered (is_gutter_stroke_of n j is_first c) (gutter_labels s.sheet.labels)

    -- so do both cells of column j of row n; a compact picture has one
    unfoldable pub is_gutter_column_caused : ℕ → ℕ → Bool
    is_gutter_column_caused n j =
        has_gutter_cause n j true (gutter_cell canvas s n j) && (s.sheet.switches.compact
        || has_gutter_cause n j false (cell_at canvas n (column_cell s j + 1)))

  -- the clause on other strokes in the gutter
  unfoldable pub has_no_other_gutter_strokes : Bool
  has_no_other_gutter_strokes =
      all_numbered (λ g s.
      list_all (λ n. list_all (is_gutter_column_caused g s n) (upto (gutter_len s.sheet)))
      (gutter_rows canvas sections p g s)) sections
