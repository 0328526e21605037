-- What is seen at the places of one line, found once for the line. Each place has its column, the
-- vertical that is seen there in the rows of a line label, the label whose underline is seen there,
-- and the label that colours the character there. It is held in stretches, and read by place.
use Rattle.std.specs.Prelude.{ℕ, ◌≡◌, ◌+◌, ◌-◌, ◌<◌, ◌≤◌, ◌==◌, nat_lt, false, if◌then◌else◌, List}
use Rattle.std.specs.Prelude.{[], ◌∷◌, length, filter, slice_get, slice_index, Option, Some, None, option_map, unwrap_or}
use Rattle.std.specs.List.{last_or, list_any}
use Rattle.ariadne_base.specs.Locations.{upto}
use Rattle.ariadne_picture.specs.declared.cell.Paint.{Paint}
use Rattle.ariadne_picture.specs.declared.cell.Paint.TheVariants.{Label, Unimportant}
use Rattle.ariadne_picture.specs.declared.label_info.LabelInfo.{LabelInfo}
use Rattle.ariadne_picture.specs.declared.label_info.LineLabel.{LineLabel}
use Rattle.ariadne_picture.specs.declared.switches.Switches.{Switches}
use Rattle.ariadne_picture.specs.Lists.{total}
use Rattle.ariadne_picture.specs.Ranks.{is_inline}
use Rattle.ariadne_picture.specs.Columns.{Layout, shown, arrow_len, column_of, whole_column, width}
use Rattle.ariadne_picture.specs.Strokes.{holds, vertical_at, underline_at, underline_row}
use Rattle.ariadne_picture.specs.Pieces.{char_paint}
use Rattle.ariadne_layout.specs.Choices.{shown_position}
use Rattle.ariadne_layout.specs.declared.stretches.Stretch.{Stretch}
use Rattle.ariadne_layout.specs.declared.table.LineTable.{LineTable}
use Rattle.ariadne_layout.specs.declared.verticals.Vertical.{Vertical}

-- ---- how it is read

-- the column that place k begins at; where none is held it is its place
unfoldable pub column_in : List ℕ → ℕ → ℕ
column_in columns k = unwrap_or (slice_get columns k) k

-- the vertical that is seen at place k: the last that stands there
unfoldable pub seen_vertical : List Vertical → ℕ → Option Vertical
seen_vertical verticals k = last_or None (filter (λ v. v.place == k) verticals)

-- how many columns the shown tabs of a line take
unfoldable pub tab_columns : Switches → Layout → ℕ
tab_columns switches y =
    total (λ k. if slice_index (shown y) k == 9 then width switches y k else 0)
    (upto (length (shown y)))

-- the position of the label that place k shows, if it shows one: a stretch reaches to its end, from
-- that of the one before it
unfoldable pub shown_at : List Stretch → ℕ → Option ℕ
shown_at [] k = None
shown_at (s ∷ stretches) k = if nat_lt k s.end then s.position else shown_at stretches k

-- no vertical is seen at the places from `from` to before `to`
abbrev pub AreOpen : List Vertical → ℕ → ℕ → Type 0
AreOpen verticals from to = (k : ℕ) → from ≤ k → k < to → seen_vertical verticals k ≡ None

-- at one place this vertical is seen, or none; elsewhere those are that were seen before
abbrev pub IsSeenInstead : List Vertical → List Vertical → ℕ → Option Vertical → Type 0
IsSeenInstead old new place v =
    (k : ℕ) → seen_vertical new k ≡ (if place == k then v else seen_vertical old k)

-- the colour of a label, or that of text outside all labels
unfoldable pub position_paint : Option ℕ → Paint
position_paint None = Unimportant
position_paint (Some p) = Label p

-- ---- what it says of a line with the layout y

-- what is held of a line label's vertical
abbrev pub vertical_of : LineLabel → Vertical
vertical_of x = record { place = x.place; position = x.info.position; is_inline = is_inline x.side }

-- the position of the label of a line label
abbrev pub position_of : LineLabel → ℕ
position_of x = x.info.position

-- the columns of the places up to len
abbrev pub AreColumns : Switches → Layout → ℕ → List ℕ → Type 0
AreColumns switches y len columns =
    (k : ℕ) → k ≤ len → column_in columns k ≡ column_of switches y k

-- those of the places of a text that is shown whole, up to its end
abbrev pub AreWholeColumns : ℕ → List ℕ → List ℕ → Type 0
AreWholeColumns tab_width text columns =
    (k : ℕ) → k ≤ length text → column_in columns k ≡ whole_column tab_width text k

-- the places from `from` to before `to` have as many columns as by these columns, if place k begins at f k
abbrev pub AreAsWide : (ℕ → ℕ) → List ℕ → ℕ → ℕ → Type 0
AreAsWide f columns from to =
    (k : ℕ) → from ≤ k → k < to → f (k + 1) ≡ f k + (column_in columns (k + 1) - column_in columns k)

-- the verticals that are seen in the rows of rank r
abbrev pub AreVerticals : Layout → ℕ → List Vertical → Type 0
AreVerticals y r verticals =
    (k : ℕ) → seen_vertical verticals k ≡ option_map vertical_of (vertical_at y r k)

-- the underlines that are seen in the row that has them, below len
abbrev pub AreUnderlines : Switches → Layout → ℕ → List Stretch → Type 0
AreUnderlines switches y len underlines =
    (k : ℕ) → k < len → shown_at underlines k
    ≡ option_map position_of (underline_at switches y (underline_row y) k)

-- the stretches of the places below len of a line that begins at this offset: each place shows what
-- these labels show
abbrev pub AreStretches : List LabelInfo → ℕ → ℕ → List Stretch → Type 0
AreStretches labels offset len stretches =
    (k : ℕ) → k < len → shown_at stretches k ≡ shown_position labels (offset + k)

-- those of all its places
abbrev pub AreAllStretches : List LabelInfo → ℕ → List Stretch → Type 0
AreAllStretches labels offset stretches =
    (k : ℕ) → shown_at stretches k ≡ shown_position labels (offset + k)

-- of a group's multi-line labels those that do not have one of these numbers hold no shown character
abbrev pub OthersHoldNone : List LabelInfo → List ℕ → Layout → Type 0
OthersHoldNone multi_line numbers y =
    (i : ℕ) (a : LabelInfo) → slice_get multi_line i ≡ Some a
    → list_any (λ j. j == i) numbers ≡ false
    → (k : ℕ) → k < length (shown y) → holds a (y.offset + k) ≡ false

-- the labels that colour the shown characters, of a group with these multi-line labels
abbrev pub ArePaints : List LabelInfo → Layout → List Stretch → Type 0
ArePaints multi_line y paints =
    (k : ℕ) → k < length (shown y) → position_paint (shown_at paints k) ≡ char_paint multi_line y k

-- the table of the rows below a line, from those of rank r on; compact ones have no underlines
pub record IsTable (switches : Switches) (y : Layout) (r : ℕ) (table : LineTable) : Type 0 where
  pub len : table.len ≡ arrow_len switches y
  pub columns : AreColumns switches y table.len table.columns
  pub verticals : AreVerticals y r table.verticals
  pub underline_row : table.underline_row ≡ underline_row y
  pub underlines : switches.compact ≡ false → AreUnderlines switches y table.len table.underlines.items
