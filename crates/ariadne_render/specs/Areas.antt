-- The text areas of alternate and arrow rows, by stretches of places: what stands behind the
-- verticals of a stretch, and the cells of its places. All of it is told by the table of a line, so
-- it holds for each line that the table is of.
use Rattle.std.specs.Prelude.{ℕ, Bool, ◌≡◌, ◌-◌, ◌<◌, ◌==◌, nat_lt, not, ◌&&◌, if◌then◌else◌, List}
use Rattle.std.specs.Prelude.{Option, Some, None, unwrap_or}
use Rattle.std.specs.List.{range_with_len}
use Rattle.ariadne_picture.specs.declared.cell.Glyph.TheVariants.{Blank, Hbar, Vbar, Xbar, Uarrow}
use Rattle.ariadne_picture.specs.declared.cell.Glyph.TheVariants.{Underbar, Underline}
use Rattle.ariadne_picture.specs.declared.cell.Ink.{Ink}
use Rattle.ariadne_picture.specs.declared.cell.Paint.TheVariants.{Label}
use Rattle.ariadne_picture.specs.declared.label_info.LineLabel.{LineLabel}
use Rattle.ariadne_picture.specs.declared.label_info.Side.{Side}
use Rattle.ariadne_picture.specs.declared.label_info.Side.TheVariants.{Inline, Starts, Ends}
use Rattle.ariadne_picture.specs.declared.switches.Switches.{Switches}
use Rattle.ariadne_picture.specs.Lists.{joined}
use Rattle.ariadne_picture.specs.Strokes.{is_crossed}
use Rattle.ariadne_picture.specs.Columns.{Layout, width}
use Rattle.ariadne_picture.specs.Cells.{ink, blanks, paint_of}
use Rattle.ariadne_picture.specs.Pieces.{Piece, ink_pieces}
use Rattle.ariadne_layout.specs.declared.table.LineTable.{LineTable}
use Rattle.ariadne_layout.specs.declared.verticals.Vertical.{Vertical}
use Rattle.ariadne_layout.specs.Tables.{AreColumns, seen_vertical, shown_at}
use Rattle.ariadne_render.specs.Pages.{PenFields, Draws}
use Rattle.ariadne_render.specs.declared.area.Backdrop.{Backdrop}
use Rattle.ariadne_render.specs.declared.area.Backdrop.TheVariants.{Open, Underlined, Level}

-- ---- what is seen at a place

-- the cells of a place, by the vertical that is seen there
unfoldable pub seen_ink : Backdrop → Option Vertical → Ink
seen_ink (Open arrows rest) None = blanks
seen_ink (Open arrows rest) (Some v) =
    ink (if arrows && not v.is_inline then Uarrow else Vbar) (Label v.position)
    Blank (unwrap_or rest (Label v.position))
seen_ink (Underlined p) None = ink Underline (Label p) Underline (Label p)
seen_ink (Underlined p) (Some v) = ink Underbar (Label v.position) Underline (Label v.position)
seen_ink (Level p cross_gap) None = ink Hbar (Label p) Hbar (Label p)
seen_ink (Level p cross_gap) (Some v) =
    if cross_gap then ink Hbar (Label p) Hbar (Label p) else ink Xbar (Label p) Blank (Label p)

-- ---- an alternate row

-- its places without an underline, where labels over several lines may have arrow heads
unfoldable pub alternate_backdrop : Bool → ℕ → Backdrop
alternate_backdrop heads rank = Open ((rank == 0) && heads) None

-- the underline of a label, or else another backdrop
unfoldable pub underlined_or : Backdrop → Option ℕ → Backdrop
underlined_or backdrop None = backdrop
underlined_or backdrop (Some p) = Underlined p

-- the cells of place k of the row that has the underlines
unfoldable pub underlined_ink : LineTable → Backdrop → ℕ → Ink
underlined_ink table backdrop k =
    seen_ink (underlined_or backdrop (shown_at table.underlines.items k))
    (seen_vertical table.verticals k)

-- ---- the arrow row of a line label

-- the places outside its horizontal
abbrev pub open_beside : Switches → ℕ → LineLabel → Backdrop
open_beside switches rank x = Open ((rank == 0) && switches.compact) (Some (paint_of x.info))

-- those of its horizontal
abbrev pub level_of : Switches → LineLabel → Backdrop
level_of switches x = Level x.info.position switches.cross_gap

-- those before its own place
unfoldable pub backdrop_before : Switches → ℕ → LineLabel → Side → Backdrop
backdrop_before switches rank x Inline = open_beside switches rank x
backdrop_before switches rank x Starts = level_of switches x
backdrop_before switches rank x Ends = level_of switches x

-- those behind it
unfoldable pub backdrop_behind : Switches → ℕ → LineLabel → Side → Backdrop
backdrop_behind switches rank x Inline = level_of switches x
backdrop_behind switches rank x Starts = open_beside switches rank x
backdrop_behind switches rank x Ends = level_of switches x

-- of the first `len` places of the row its horizontal covers those before `end`
abbrev pub IsCrossedTo : LineLabel → ℕ → ℕ → Type 0
IsCrossedTo x len end = (k : ℕ) → k < len → is_crossed x.side x.place k ≡ nat_lt k end

-- ---- what a call has written

-- the pieces of the places from `from` to before `to`, of which place k has the ink `ink_at k`
unfoldable pub places_pieces : Switches → Layout → (ℕ → Ink) → ℕ → ℕ → List Piece
places_pieces switches y ink_at from to =
    joined (λ k. ink_pieces switches.char_set (ink_at k) (width switches y k))
    (range_with_len from (to - from))

-- these places, of each line that has the columns of the table
pub record DrawsPlaces (old new : PenFields) (table : LineTable) (ink_at : ℕ → Ink) (from to : ℕ)
    : Type 0 where
  pub page : new.page ≡ old.page
  pub drawn : (y : Layout) → AreColumns old.page.switches y table.len table.columns
      → Draws old new (places_pieces old.page.switches y ink_at from to)

-- places whose verticals are seen over a backdrop
abbrev pub DrawsOver : PenFields → PenFields → LineTable → Backdrop → ℕ → ℕ → Type 0
DrawsOver old new table backdrop from to =
    DrawsPlaces old new table (λ k. seen_ink backdrop (seen_vertical table.verticals k)) from to
