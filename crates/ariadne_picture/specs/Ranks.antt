-- The labels of one group, by what they do beside and below a line. A label over several lines with
-- a message owns a gutter column, the longest one the leftmost. At each line one of those that
-- start or end there may be the margin label, whose arrow leaves the gutter beside the source row.
-- The other labels of the line are its line labels, which have rows below it.
use Rattle.std.specs.Prelude.{ℕ, suc, ◌+◌, ◌-◌, min, Bool, true, false, not, ◌&&◌, ◌||◌, ◌==◌}
use Rattle.std.specs.Prelude.{nat_lt, int_lt}
use Rattle.std.specs.Prelude.{if◌then◌else◌, List, [], ◌∷◌, ◌++◌, length, map, Option, Some, None}
use Rattle.std.specs.Prelude.{filter, is_some}
use Rattle.std.specs.List.{list_all, range_with_len}
use Rattle.ariadne_picture.specs.declared.label_info.LabelInfo.{LabelInfo}
use Rattle.ariadne_picture.specs.declared.label_info.LineLabel.{LineLabel}
use Rattle.ariadne_picture.specs.declared.label_info.Side.{Side}
use Rattle.ariadne_picture.specs.declared.label_info.Side.TheVariants.{Inline, Starts, Ends}
use Rattle.ariadne_picture.specs.declared.switches.Switches.{Switches}
use Rattle.ariadne_picture.specs.Lists.{in_order, best, joined_numbered}
use Rattle.ariadne_picture.specs.Groups.{group_start_line, group_end_line}

-- a group's labels in order, over the lines of its source, in characters
pub record Sheet : Type 0 where
  pub switches : Switches
  pub lines : List (List ℕ)
  pub labels : List LabelInfo

-- the label lies within the line
unfoldable pub is_inline : Side → Bool
is_inline Inline = true
is_inline side = false

-- it starts at the line and ends on a later one
unfoldable pub is_start : Side → Bool
is_start Starts = true
is_start side = false

-- it ends at the line and started on an earlier one
unfoldable pub is_end : Side → Bool
is_end Ends = true
is_end side = false

-- ---- the lines that are shown, or stand between such

-- the first: the line of the group's first label, or one before it
unfoldable pub first_line : Sheet → ℕ
first_line h = group_start_line h.labels - h.switches.context_lines

-- the last: the line of its last label, or one of those that the source has behind it
unfoldable pub last_line : Sheet → ℕ
last_line h =
    let last = group_end_line h.labels in
    last + min h.switches.context_lines (length h.lines - suc last)

-- all lines from the first to the last
unfoldable pub group_lines : Sheet → List ℕ
group_lines h = range_with_len (first_line h) (suc (last_line h) - first_line h)

-- ---- the gutter

-- how many characters a label spans
unfoldable pub span_len : LabelInfo → ℕ
span_len a = a.end - a.start

-- a label starts and ends on the same line
unfoldable pub is_on_one_line : LabelInfo → Bool
is_on_one_line a = a.start_line == a.end_line

-- the multi-line labels, by falling length
unfoldable pub multi_line_labels : List LabelInfo → List LabelInfo
multi_line_labels labels =
    in_order (λ a b. nat_lt (span_len b) (span_len a)) (filter (λ a. not (is_on_one_line a)) labels)

-- gutter label i owns gutter column i
unfoldable pub gutter_labels : List LabelInfo → List LabelInfo
gutter_labels labels = filter (λ a. a.has_message) (multi_line_labels labels)

-- ---- at a line

-- whether gutter label i starts or ends at line l
unfoldable pub gutter_label_ends : ℕ → ℕ → LabelInfo → List LineLabel
gutter_label_ends l i a =
    let first : LineLabel = record { info = a; side = Starts; gutter_column = i; place = a.start_place } in
    let last : LineLabel = record { info = a; side = Ends; gutter_column = i; place = a.end_place } in
    (if a.start_line == l then first ∷ [] else []) ++ (if a.end_line == l then last ∷ [] else [])

-- the starts and ends of all gutter labels at line l
unfoldable pub ends_at : List LabelInfo → ℕ → List LineLabel
ends_at labels l = joined_numbered (gutter_label_ends l) (gutter_labels labels)

-- the least column, then the greater start
unfoldable pub is_nearer_margin : LineLabel → LineLabel → Bool
is_nearer_margin a b =
    nat_lt a.place b.place || ((a.place == b.place) && nat_lt b.info.start a.info.start)

-- the one whose arrow leaves the gutter beside the source row
unfoldable pub margin_label : List LabelInfo → ℕ → Option LineLabel
margin_label labels l = best is_nearer_margin (ends_at labels l)

-- it is a start or an end of gutter label i
unfoldable pub is_of_gutter_label : Option LineLabel → ℕ → Bool
is_of_gutter_label None i = false
is_of_gutter_label (Some m) i = m.gutter_column == i

-- whether a label of a line is its margin label
unfoldable pub is_margin : Option LineLabel → LineLabel → Bool
is_margin margin x = not (is_inline x.side) && is_of_gutter_label margin x.gutter_column

-- the labels that lie within line l
unfoldable pub inline_labels : List LabelInfo → ℕ → List LineLabel
inline_labels labels l =
    map (λ a. record { info = a; side = Inline; gutter_column = 0; place = a.attach })
    (filter (λ a. is_on_one_line a && (a.start_line == l)) labels)

-- by order, then by column, then the greater start first
unfoldable pub is_before : LineLabel → LineLabel → Bool
is_before a b =
    int_lt a.info.order b.info.order
    || (not (int_lt b.info.order a.info.order) && is_nearer_margin a b)

-- the margin label where it starts has no rows of its own
unfoldable pub line_labels : List LabelInfo → ℕ → List LineLabel
line_labels labels l =
    in_order is_before (filter (λ x. not (is_start x.side && is_margin (margin_label labels l) x))
    (ends_at labels l) ++ inline_labels labels l)

-- whether no label of the group has anything at a line
unfoldable pub is_unlabelled : List LabelInfo → ℕ → Bool
is_unlabelled labels l = (length (line_labels labels l) == 0) && not (is_some (margin_label labels l))

-- a line with the n lines before it and the n behind it
unfoldable pub lines_near : ℕ → ℕ → List ℕ
lines_near n l = range_with_len (l - n) (l + n + 1 - (l - n))

-- whether a line is not shown: no label of the group has anything at it or near it
unfoldable pub is_hidden_line : Sheet → ℕ → Bool
is_hidden_line h l = list_all (is_unlabelled h.labels) (lines_near h.switches.context_lines l)
