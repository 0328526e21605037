-- Which of the strokes that meet in a cell is seen, and in whose colour. A place or a column has a
-- first cell and perhaps more, which are alike.
use Rattle.std.specs.Prelude.{ℕ, Bool, not, ◌&&◌, ◌==◌, nat_lt, if◌then◌else◌, length}
use Rattle.std.specs.Prelude.{Option, Some, None, slice_get, unwrap_or, option_map}
use Rattle.ariadne_picture.specs.declared.switches.CharSet.{CharSet}
use Rattle.ariadne_picture.specs.declared.switches.CharSet.TheVariants.{Unicode, Ascii}
use Rattle.ariadne_picture.specs.declared.label_info.LabelInfo.{LabelInfo}
use Rattle.ariadne_picture.specs.declared.label_info.LineLabel.{LineLabel}
use Rattle.ariadne_picture.specs.declared.label_info.Side.{Side}
use Rattle.ariadne_picture.specs.declared.label_info.Side.TheVariants.{Inline, Starts, Ends}
use Rattle.ariadne_picture.specs.declared.cell.Glyph.{Glyph}
use Rattle.ariadne_picture.specs.declared.cell.Glyph.TheVariants.{Blank, Hbar, Vbar, Xbar, VbarGap}
use Rattle.ariadne_picture.specs.declared.cell.Glyph.TheVariants.{Uarrow, Rarrow, Ltop, Lbot, Rbot}
use Rattle.ariadne_picture.specs.declared.cell.Glyph.TheVariants.{Mbot, Lbox, Rbox, Lcross}
use Rattle.ariadne_picture.specs.declared.cell.Glyph.TheVariants.{Underbar, Underline}
use Rattle.ariadne_picture.specs.declared.cell.Paint.{Paint}
use Rattle.ariadne_picture.specs.declared.cell.Paint.TheVariants.{Plain, Label}
use Rattle.ariadne_picture.specs.declared.cell.Ink.{Ink}
use Rattle.ariadne_picture.specs.declared.switches.Switches.{Switches}
use Rattle.ariadne_picture.specs.Ranks.{Sheet, is_inline, gutter_labels, margin_label, line_labels}
use Rattle.ariadne_picture.specs.Rows.{Row, source, alternate, arrow, gap}
use Rattle.ariadne_picture.specs.Columns.{Layout}
use Rattle.ariadne_picture.specs.Strokes.{vertical_at, underline_at, Spot, corner, level, free, spot_of, bar_at}

-- ---- the characters of the strokes

-- the first in Unicode, the second in ASCII
abbrev pub in_set : CharSet → ℕ → ℕ → ℕ
in_set Unicode c d = c
in_set Ascii c d = d

-- the character of a stroke in a character set
unfoldable pub glyph_code : CharSet → Glyph → ℕ
glyph_code set Blank = 32
glyph_code set Hbar = in_set set 0x2500 0x2D
glyph_code set Vbar = in_set set 0x2502 0x7C
glyph_code set Xbar = in_set set 0x253C 0x2B
glyph_code set VbarGap = in_set set 0x2506 0x3A
glyph_code set Uarrow = in_set set 0x25B2 0x5E
glyph_code set Rarrow = in_set set 0x25B6 0x3E
glyph_code set Ltop = in_set set 0x256D 0x2C
glyph_code set Lbot = in_set set 0x2570 0x60
glyph_code set Rbot = in_set set 0x256F 0x27
glyph_code set Mbot = in_set set 0x2534 0x5E
glyph_code set Lbox = 0x5B
glyph_code set Rbox = 0x5D
glyph_code set Lcross = in_set set 0x251C 0x7C
glyph_code set Underbar = in_set set 0x252C 0x7C
glyph_code set Underline = in_set set 0x2500 0x5E

-- ---- inks

-- what the first cell shows, and what the others show, each in its colour
abbrev pub ink : Glyph → Paint → Glyph → Paint → Ink
ink first first_paint rest rest_paint =
    record { first = first; first_paint = first_paint; rest = rest; rest_paint = rest_paint }

-- plain blanks alone
abbrev pub blanks : Ink
blanks = ink Blank Plain Blank Plain

-- the colour of a label
abbrev pub paint_of : LabelInfo → Paint
paint_of a = Label a.position

-- all cells in the colour of a label
abbrev pub ink_of : Glyph → Glyph → LabelInfo → Ink
ink_of first rest a = ink first (paint_of a) rest (paint_of a)

-- ---- the text area

-- a place of the alternate row of rank r: by the vertical and the underline that are seen there, and
-- whether labels over several lines have arrow heads
unfoldable pub alternate_ink : Bool → ℕ → Option LineLabel → Option LineLabel → Ink
alternate_ink heads r (Some v) (Some u) = ink_of Underbar Underline v.info
alternate_ink heads r (Some v) None =
    if not (is_inline v.side) && (r == 0) && heads
    then ink_of Uarrow Blank v.info
    else ink_of Vbar Blank v.info
alternate_ink heads r None (Some u) = ink_of Underline Underline u.info
alternate_ink heads r None None = blanks

-- the corner of a line label's arrow
unfoldable pub corner_glyph : Side → Glyph
corner_glyph Inline = Lbot
corner_glyph Ends = Mbot
corner_glyph Starts = Rbot

-- a place of the arrow row of label x, of rank r: by where it stands, and the vertical that is seen
-- there
unfoldable pub arrow_ink : Switches → ℕ → LineLabel → Spot → Option LineLabel → Ink
arrow_ink switches r x corner vertical = ink_of (corner_glyph x.side) Hbar x.info
arrow_ink switches r x level (Some v) =
    if switches.cross_gap then ink_of Hbar Hbar x.info else ink_of Xbar Blank x.info
arrow_ink switches r x free (Some v) =
    ink (if not (is_inline v.side) && (r == 0) && switches.compact then Uarrow else Vbar)
    (paint_of v.info) Blank (paint_of x.info)
arrow_ink switches r x level None = ink_of Hbar Hbar x.info
arrow_ink switches r x free None = blanks

-- place k of the alternate row of rank r
unfoldable pub alternate_place : Bool → Switches → Layout → ℕ → ℕ → Ink
alternate_place heads switches y r k =
    alternate_ink heads r (vertical_at y r k) (underline_at switches y r k)

-- place k of the arrow row of rank r, whose line label is x
unfoldable pub arrow_place : Switches → Layout → ℕ → Option LineLabel → ℕ → Ink
arrow_place switches y r None k = blanks
arrow_place switches y r (Some x) k = arrow_ink switches r x (spot_of y.margin x k) (vertical_at y r k)

-- ---- the gutter

-- the colour of gutter label i
unfoldable pub gutter_label_paint : Sheet → ℕ → Paint
gutter_label_paint h i = unwrap_or (option_map paint_of (slice_get (gutter_labels h.labels) i)) Plain

-- where the margin label leaves or enters its column
unfoldable pub margin_glyph : Side → Glyph
margin_glyph Starts = Ltop
margin_glyph Ends = Lcross
margin_glyph Inline = Blank

-- the same for a line label, in its arrow row
unfoldable pub turn_glyph : Side → Glyph
turn_glyph Starts = Ltop
turn_glyph Ends = Lbot
turn_glyph Inline = Blank

-- column i of n beside the margin label's stroke to its arrow head
unfoldable pub margin_ink : ℕ → ℕ → Option LineLabel → Ink
margin_ink n i None = blanks
margin_ink n i (Some m) =
    if i == n then ink_of Rarrow Blank m.info
    else if m.gutter_column == i then ink_of (margin_glyph m.side) Hbar m.info
    else if nat_lt m.gutter_column i then ink_of Hbar Hbar m.info
    else blanks

-- column i of a row without line label: its bar is drawn with this glyph
unfoldable pub beside_ink : Sheet → Row → ℕ → ℕ → Glyph → Ink
beside_ink h row l i bar =
    if bar_at h row i then ink bar (gutter_label_paint h i) Blank Plain
    else margin_ink (length (gutter_labels h.labels)) i (margin_label h.labels l)

-- column i of a row below a line: its bar, or blanks
unfoldable pub below_ink : Sheet → Row → ℕ → Ink
below_ink h row i = if bar_at h row i then ink Vbar (gutter_label_paint h i) Blank Plain else blanks

-- column i of the arrow row of a line label: its own column, those behind it, those before it
unfoldable pub turn_ink : Sheet → Row → ℕ → Option LineLabel → Ink
turn_ink h row i None = below_ink h row i
turn_ink h row i (Some q) =
    if is_inline q.side then below_ink h row i
    else if q.gutter_column == i then ink_of (turn_glyph q.side) Hbar q.info
    else if nat_lt q.gutter_column i then
    (if bar_at h row i && not h.switches.cross_gap then ink_of Xbar Hbar q.info
    else ink_of Hbar Hbar q.info)
    else below_ink h row i

-- column i of a row
unfoldable pub column_ink : Sheet → Row → ℕ → Ink
column_ink h (source l) i = beside_ink h (source l) l i Vbar
column_ink h (gap l) i = beside_ink h (gap l) l i VbarGap
column_ink h (alternate l r) i = below_ink h (alternate l r) i
column_ink h (arrow l r) i = turn_ink h (arrow l r) i (slice_get (line_labels h.labels l) r)
column_ink h row i = blanks
