-- The gutter of a group as its rows are written: for each gutter label, whether its bar stands in
-- the row that is written next.
use Rattle.std.specs.Prelude.{ℕ, ◌≡◌, ◌<◌, ◌≤◌, ◌-◌, Bool, false, ◌&&◌, ◌||◌, ◌==◌, not, nat_le, nat_lt}
use Rattle.std.specs.Prelude.{List, length, map, slice_index, slice_index_or, Option, Some, None}
use Rattle.std.specs.Prelude.{◌+◌, if◌then◌else◌, IfSome}
use Rattle.ariadne_base.specs.Locations.{upto}
use Rattle.ariadne_picture.specs.declared.cell.Glyph.{Glyph}
use Rattle.ariadne_picture.specs.declared.cell.Glyph.TheVariants.{Blank, Hbar, Vbar, Xbar}
use Rattle.ariadne_picture.specs.declared.cell.Ink.{Ink}
use Rattle.ariadne_picture.specs.declared.cell.Paint.TheVariants.{Plain, Label}
use Rattle.ariadne_picture.specs.declared.label_info.LabelInfo.{LabelInfo}
use Rattle.ariadne_picture.specs.declared.label_info.LineLabel.{LineLabel}
use Rattle.ariadne_picture.specs.Cells.{blanks, ink, ink_of, margin_ink, turn_glyph}
use Rattle.ariadne_picture.specs.Lists.{joined, mapped_numbered}
use Rattle.ariadne_picture.specs.Pieces.{column_size, ink_pieces}
use Rattle.ariadne_picture.specs.Print.{pieces_bytes}
use Rattle.ariadne_picture.specs.Ranks.{Sheet, gutter_labels, is_start, is_end, is_inline}
use Rattle.ariadne_picture.specs.Strokes.{is_at_margin, rank_at}
use Rattle.ariadne_render.specs.Pages.{PageFields, PenFields}

-- the page that it is drawn on, the positions of the gutter labels, and whether their bars stand
pub record GutterFields : Type 0 where
  pub page : PageFields
  pub positions : List ℕ
  pub bars : List Bool

-- whether the bar of gutter label i stands
unfoldable pub bar_in : List Bool → ℕ → Bool
bar_in bars i = slice_index_or bars i false

-- ---- when the bar of a gutter label a, number i, stands

-- beside line l, as its rows begin: where a started above and has not ended
unfoldable pub is_beside : ℕ → LabelInfo → Bool
is_beside l a = nat_lt a.start_line l && nat_le l a.end_line

-- beside the rows of the line label of rank r of line l: where a passes the line, has started on it
-- above these rows, or ends on it no higher
unfoldable pub is_below : Sheet → ℕ → ℕ → ℕ → LabelInfo → Bool
is_below s l r i a =
    (nat_lt a.start_line l && nat_lt l a.end_line)
    || ((a.start_line == l) && (is_at_margin s l i || nat_lt (rank_at s is_start l i) r))
    || ((a.end_line == l) && nat_le r (rank_at s is_end l i))

-- ---- a gutter of the group s

-- it is drawn with the group's switches, for the group's gutter labels
pub record IsOfSheet (s : Sheet) (g : GutterFields) : Type 0 where
  pub switches : g.page.switches ≡ s.switches
  pub positions : g.positions ≡ map (λ a. a.position) (gutter_labels s.labels)

-- as the rows of line l begin
pub record IsBeside (s : Sheet) (l : ℕ) (g : GutterFields) : Type 0 where
  pub sheet : IsOfSheet s g
  pub bars : g.bars ≡ map (is_beside l) (gutter_labels s.labels)

-- as the rows of rank r of line l begin
pub record IsBelow (s : Sheet) (l r : ℕ) (g : GutterFields) : Type 0 where
  pub sheet : IsOfSheet s g
  pub bars : g.bars ≡ mapped_numbered (is_below s l r) (gutter_labels s.labels)

-- ---- what the row of a label asks of it

-- the pen is on the gutter's page, and column i is one of the gutter labels
pub record HasColumn (g : GutterFields) (pen : PenFields) (i : ℕ) : Type 0 where
  pub page : g.page ≡ pen.page
  pub column : i < length g.bars

-- so it is, and the margin label of a line has such a column, if there is one
pub record HasMarginColumn (g : GutterFields) (pen : PenFields) (margin : Option LineLabel) : Type 0 where
  pub page : g.page ≡ pen.page
  pub column : IfSome margin (λ m. m.gutter_column < length g.bars)

-- so it is, and a line label that does not lie within its line has one
pub record HasArrowColumn (g : GutterFields) (pen : PenFields) (x : LineLabel) : Type 0 where
  pub page : g.page ≡ pen.page
  pub column : is_inline x.side ≡ false → x.gutter_column < length g.bars

-- ---- what its columns show, by its bars alone

-- how many columns it has: one for each gutter label and one for arrow heads, or none at all
unfoldable pub columns : GutterFields → ℕ
columns g = if length g.bars == 0 then 0 else length g.bars + 1

-- the position of the gutter label whose bar stands in column i, if it does
unfoldable pub bar_of : GutterFields → ℕ → Option ℕ
bar_of g i = if bar_in g.bars i then Some (slice_index_or g.positions i 0) else None

-- a column with the bar of the label at a position, or without bar
unfoldable pub bar_ink : Glyph → Option ℕ → Ink
bar_ink glyph None = blanks
bar_ink glyph (Some position) = ink glyph (Label position) Blank Plain

-- column i of a row that has bars alone, drawn with this glyph
unfoldable pub bars_ink : Glyph → GutterFields → ℕ → Ink
bars_ink glyph g i = bar_ink glyph (bar_of g i)

-- column i of the source row of a line whose margin label is m
unfoldable pub margin_row_ink : GutterFields → LineLabel → ℕ → Ink
margin_row_ink g m i =
    if bar_in g.bars i && not (m.gutter_column == i) then bars_ink Vbar g i
    else margin_ink (length g.bars) i (Some m)

-- column i of the arrow row of the start or the end x of a gutter label
unfoldable pub turn_row_ink : GutterFields → LineLabel → ℕ → Ink
turn_row_ink g x i =
    if x.gutter_column == i then ink_of (turn_glyph x.side) Hbar x.info
    else if nat_lt x.gutter_column i then
    (if bar_in g.bars i && not g.page.switches.cross_gap then ink_of Xbar Hbar x.info
    else ink_of Hbar Hbar x.info)
    else bars_ink Vbar g i

-- column i of the source row of a line that has this margin label, or none
abbrev pub source_row_ink : GutterFields → Option LineLabel → ℕ → Ink
source_row_ink g None = bars_ink Vbar g
source_row_ink g (Some m) = margin_row_ink g m

-- column i of the arrow row of the line label x, where bars stand alone if it lies within its line
abbrev pub arrow_row_ink : GutterFields → LineLabel → ℕ → Ink
arrow_row_ink g x = if is_inline x.side then bars_ink Vbar g else turn_row_ink g x

-- the bytes of a column with this ink
unfoldable pub column_bytes : PageFields → Ink → List ℕ
column_bytes page ink =
    let switches = page.switches in
    pieces_bytes page.palette (ink_pieces switches.char_set ink (column_size switches))

-- those of the columns before column n, whose inks are told by column
unfoldable pub columns_bytes : PageFields → (ℕ → Ink) → ℕ → List ℕ
columns_bytes page ink_at n = joined (λ i. column_bytes page (ink_at i)) (upto n)

-- where column i begins in a row that has bars alone
unfoldable pub start_of : GutterFields → ℕ → ℕ
start_of g i = length (columns_bytes g.page (bars_ink Vbar g) i)

-- these are the bytes of a row that has its bars alone, and the offsets of the columns in them
pub record IsReady (g : GutterFields) (bytes offsets : List ℕ) : Type 0 where
  pub positions : length g.positions ≡ length g.bars
  pub text : bytes ≡ columns_bytes g.page (bars_ink Vbar g) (columns g)
  pub starts : offsets ≡ map (start_of g) (upto (columns g))

-- ---- the offsets of its columns, as a column gets other bytes

-- those from number `first` on are no less than n
abbrev pub AreBehind : ℕ → ℕ → List ℕ → Type 0
AreBehind first n starts = (k : ℕ) → first ≤ k → k < length starts → n ≤ slice_index starts k

-- those before it are as they were
abbrev pub AreKept : ℕ → List ℕ → List ℕ → Type 0
AreKept first old new = (k : ℕ) → k < first → slice_index new k ≡ slice_index old k

-- and those from it on are moved, since n bytes stand in place of m
abbrev pub AreMoved : ℕ → ℕ → ℕ → List ℕ → List ℕ → Type 0
AreMoved first m n old new =
    (k : ℕ) → first ≤ k → k < length old → slice_index new k ≡ slice_index old k + n - m
