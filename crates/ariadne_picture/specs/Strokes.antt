-- The strokes of a group. In the text area a stroke covers places of one row or rows of one place;
-- in the gutter a stroke covers rows of one column or columns of one row. Which of those that meet
-- in a cell is seen is told elsewhere.
use Rattle.std.specs.Prelude.{ℕ, ◌+◌, Bool, true, false, not, ◌&&◌, ◌||◌, ◌==◌, nat_le, nat_lt}
use Rattle.std.specs.Prelude.{int_lt, if◌then◌else◌, drop, find, Option, None, filter, List}
use Rattle.std.specs.Prelude.{slice_get}
use Rattle.std.specs.List.{position_or_len}
use Rattle.std.specs.Option.{option_map_or}
use Rattle.ariadne_picture.specs.declared.label_info.LabelInfo.{LabelInfo}
use Rattle.ariadne_picture.specs.declared.label_info.LineLabel.{LineLabel}
use Rattle.ariadne_picture.specs.declared.label_info.Side.{Side}
use Rattle.ariadne_picture.specs.declared.label_info.Side.TheVariants.{Inline, Starts, Ends}
use Rattle.ariadne_picture.specs.Lists.{best}
use Rattle.ariadne_picture.specs.declared.switches.Switches.{Switches}
use Rattle.ariadne_picture.specs.Ranks.{Sheet, is_inline, is_start, is_end, span_len, gutter_labels}
use Rattle.ariadne_picture.specs.Ranks.{margin_label, is_of_gutter_label, is_margin, line_labels}
use Rattle.ariadne_picture.specs.Columns.{Layout}
use Rattle.ariadne_picture.specs.Rows.{Row, source, arrow, before}

-- ---- the text area: a line label x of a line with the layout y

-- its vertical stands at its column, in all rows of the line up to its arrow row
unfoldable pub has_vertical : Option LineLabel → ℕ → LineLabel → Bool
has_vertical margin k x = x.info.has_message && not (is_margin margin x) && (x.place == k)

-- so at place k of the rows of rank r it is the first from rank r on that is seen
unfoldable pub vertical_at : Layout → ℕ → ℕ → Option LineLabel
vertical_at y r k = find (has_vertical y.margin k) (drop r y.labels)

-- the places of its horizontal, in its arrow row
unfoldable pub is_crossed : Side → ℕ → ℕ → Bool
is_crossed Inline column k = nat_lt column k
is_crossed Ends column k = true
is_crossed Starts column k = nat_le k column

-- where a place of its arrow row stands: at its corner, on its horizontal, or on neither
pub data Spot : Type 0 where
  corner : Spot
  level : Spot
  free : Spot

-- its corner stands at its own place, unless it is the margin label
unfoldable pub spot_of : Option LineLabel → LineLabel → ℕ → Spot
spot_of margin x k =
    if (x.place == k) && not (is_margin margin x) then corner
    else if is_crossed x.side x.place k then level else free

-- a label's span holds the character at offset o
unfoldable pub holds : LabelInfo → ℕ → Bool
holds a o = nat_le a.start o && nat_lt o a.end

-- the higher priority, then the shorter span
unfoldable pub is_preferred : LabelInfo → LabelInfo → Bool
is_preferred a b =
    int_lt b.priority a.priority ||
    (not (int_lt a.priority b.priority) && nat_lt (span_len a) (span_len b))

-- the rank of the alternate row that has the underlines: that of the first line label with a message,
-- or where none has one the rank behind all
abbrev pub underline_row : Layout → ℕ
underline_row y = position_or_len (λ x. x.info.has_message) y.labels

-- the labels within the line whose underline reaches place k
unfoldable pub underlines_at : Layout → ℕ → List LineLabel
underlines_at y k = filter (λ x. is_inline x.side && holds x.info (y.offset + k)) y.labels

-- the underline that is seen at place k of the alternate row of rank r
unfoldable pub underline_at : Switches → Layout → ℕ → ℕ → Option LineLabel
underline_at switches y r k =
    if switches.underlines && (r == underline_row y)
    then best (λ a b. is_preferred a.info b.info) (underlines_at y k)
    else None

-- ---- the gutter: gutter label i, in column i

-- gutter label i starts or ends at line l as its margin label
abbrev pub is_at_margin : Sheet → ℕ → ℕ → Bool
is_at_margin h l i = is_of_gutter_label (margin_label h.labels l) i

-- the rank that its start, or its end, has among the line labels of line l
unfoldable pub rank_at : Sheet → (Side → Bool) → ℕ → ℕ → ℕ
rank_at h is_side l i = position_or_len (λ x. is_side x.side && (x.gutter_column == i)) (line_labels h.labels l)

-- the row of its head
unfoldable pub first_row : Sheet → ℕ → LabelInfo → Row
first_row h i a =
    if is_at_margin h a.start_line i then source a.start_line
    else arrow a.start_line (rank_at h is_start a.start_line i)

-- the row of its corner and its message
unfoldable pub last_row : Sheet → ℕ → LabelInfo → Row
last_row h i a = arrow a.end_line (rank_at h is_end a.end_line i)

-- its tee stands on the source row where it ends as the margin label
unfoldable pub has_tee : Sheet → LabelInfo → ℕ → Row → Bool
has_tee h a i (source l) = (a.end_line == l) && is_at_margin h l i
has_tee h a i row = false

-- its bar stands in every other row strictly between the two
unfoldable pub bar_at : Sheet → Row → ℕ → Bool
bar_at h row i =
    option_map_or (λ a. before (first_row h i a) row && before row (last_row h i a) && not (has_tee h a i row))
    (slice_get (gutter_labels h.labels) i) false
