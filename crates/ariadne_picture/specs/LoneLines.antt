-- The clause on lines whose labels have no message: where they are to be underlined, one row below the
-- line marks each place that a label holds, and no other. Rows, cells, lines and places count from 0.
use Rattle.std.specs.Prelude.{ℕ, ◌+◌, Bool, not, ◌&&◌, ◌||◌, ◌==◌, List, Option, Some, None}
use Rattle.std.specs.List.{list_all}
use Rattle.ariadne_base.specs.Locations.{upto}
use Rattle.ariadne_color.specs.declared.color.Color.{Color}
use Rattle.ariadne_picture.specs.declared.switches.CharSet.{CharSet}
use Rattle.ariadne_picture.specs.declared.label_info.LineLabel.{LineLabel}
use Rattle.ariadne_picture.specs.declared.cell.Glyph.TheVariants.{Underline}
use Rattle.ariadne_picture.specs.Lists.{best, all_numbered}
use Rattle.ariadne_picture.specs.Rows.{is_lone}
use Rattle.ariadne_picture.specs.Strokes.{is_preferred, underlines_at}
use Rattle.ariadne_picture.specs.Columns.{layout_of}
use Rattle.ariadne_picture.specs.Pieces.{Section}
use Rattle.ariadne_picture.specs.Canvas.{Cell}
use Rattle.ariadne_picture.specs.Placing.Cells.{is_blank, is_glyph}
use Rattle.ariadne_picture.specs.Placing.Group.{set_of, shown_lines, place_cell}
use Rattle.ariadne_picture.specs.Placing.Rows.{Placing, between, cell_at}
use Rattle.ariadne_picture.specs.LabelColors.{is_color}

-- of the labels within line l that hold place k, the preferred one
unfoldable pub holder : Section → ℕ → ℕ → Option LineLabel
holder s l k = best (λ a b. is_preferred a.info b.info) (underlines_at (layout_of s.sheet l) k)

-- the label at position k has colour color_at k
module _ (canvas : List (List Cell)) (sections : List Section) (p : Placing)
    (color_at : ℕ → Option Color) where
  -- a cell is blank where no label is, else an underline in the label's colour
  unfoldable pub marks : CharSet → Option LineLabel → Cell → Bool
  marks set None c = is_blank c
  marks set (Some x) c = is_glyph set Underline c && is_color c.color (color_at x.info.position)

  module _ (g : ℕ) (s : Section) (l : ℕ) where
    -- so are all cells of place k right below line l
    unfoldable pub is_place_marked : ℕ → Bool
    is_place_marked k =
        list_all (λ c. marks (set_of s) (holder s l k) (cell_at canvas (p.source_row g l + 1) c))
        (between (place_cell s l k) (place_cell s l (k + 1)))

    -- that is the only row below line l, if it has underlines alone
    unfoldable pub is_lone_marked : Bool
    is_lone_marked =
        not (is_lone s.sheet l)
        || ((p.block_len g l == 1) && list_all is_place_marked (upto (p.places g l)))

  -- the clause, over all shown lines
  unfoldable pub has_lone_underlines : Bool
  has_lone_underlines = all_numbered (λ g s. list_all (is_lone_marked g s) (shown_lines s)) sections
