-- The labels of a group by line: a list of events, in the order of their lines. Each tells that a
-- gutter label starts or ends there, or that a label within one line stands there. With it
-- the lines of a group are walked once, and those without an event are the hidden ones.
use Rattle.std.specs.Prelude.{ℕ, ◌≡◌, ◌+◌, ◌<◌, ◌≤◌, Bool, true, not, ◌&&◌, ◌==◌, nat_le, nat_lt}
use Rattle.std.specs.Prelude.{if◌then◌else◌, List, [], ◌∷◌, ◌++◌, length, map, filter, slice_get}
use Rattle.std.specs.Prelude.{◌≢◌, Option, Some, false, option_map, option_to_list, unwrap_or}
use Rattle.std.specs.List.{AllByRecursion, enumerate_from, list_any}
use Rattle.ariadne_base.specs.Locations.{line_offset, line_text}
use Rattle.ariadne_picture.specs.declared.label_info.LabelInfo.{LabelInfo}
use Rattle.ariadne_picture.specs.declared.label_info.LineLabel.{LineLabel}
use Rattle.ariadne_picture.specs.declared.label_info.Side.{Side}
use Rattle.ariadne_picture.specs.declared.label_info.Side.TheVariants.{Inline, Starts, Ends}
use Rattle.ariadne_picture.specs.Lists.{best, in_order, joined}
use Rattle.ariadne_picture.specs.Ranks.{Sheet, gutter_labels, is_before, is_inline, is_margin}
use Rattle.ariadne_picture.specs.Ranks.{is_nearer_margin, is_on_one_line, is_start, multi_line_labels}
use Rattle.ariadne_picture.specs.Strokes.{holds}
use Rattle.ariadne_layout.specs.declared.snippet_labels.Event.{Event}

-- the labels of a group, and the line that was gone to
pub record LabelsFields : Type 0 where
  pub labels : List LabelInfo
  pub line : ℕ

-- ---- events

-- the start and the end of a gutter label with its number
abbrev pub gutter_events : ℕ × LabelInfo → List Event
gutter_events e =
    record { line = e.1.start_line; index = e.0; side = Starts }
    ∷ record { line = e.1.end_line; index = e.0; side = Ends } ∷ []

-- a label with its number in the group, where it lies within one line
abbrev pub inline_events : ℕ × LabelInfo → List Event
inline_events e =
    if is_on_one_line e.1
    then record { line = e.1.start_line; index = e.0; side = Inline } ∷ [] else []

-- all events of a group, by line; those of one line stand as the labels do
unfoldable pub events_of : List LabelInfo → List Event
events_of labels =
    in_order (λ a b. nat_lt a.line b.line)
    (joined gutter_events (enumerate_from 0 (gutter_labels labels))
    ++ joined inline_events (enumerate_from 0 labels))

-- the label of an event as it stands at its line
unfoldable pub event_label : List LabelInfo → Side → ℕ → Option LineLabel
event_label labels Inline i =
    option_map (λ a. record { info = a; side = Inline; gutter_column = 0; place = a.attach })
    (slice_get labels i)
event_label labels Starts i =
    option_map (λ a. record { info = a; side = Starts; gutter_column = i; place = a.start_place })
    (slice_get (gutter_labels labels) i)
event_label labels Ends i =
    option_map (λ a. record { info = a; side = Ends; gutter_column = i; place = a.end_place })
    (slice_get (gutter_labels labels) i)

-- those of some events
unfoldable pub labels_of : List LabelInfo → List Event → List LineLabel
labels_of labels events =
    joined (λ e. option_to_list (event_label labels e.side e.index)) events

-- the events of line l
unfoldable pub events_at : List LabelInfo → ℕ → List Event
events_at labels l = filter (λ e. e.line == l) (events_of labels)

-- the events from `from` to before `end` are on one line, and the next one, if there is one, is not
pub record IsLineEnd (events : List Event) (from end : ℕ) : Type 0 where
  pub behind : from < end
  pub within : end ≤ length events
  pub same_line : (k : ℕ) (a b : Event) → from ≤ k → k < end → slice_get events from ≡ Some a
      → slice_get events k ≡ Some b → b.line ≡ a.line
  pub next_line : (a b : Event) → slice_get events from ≡ Some a → slice_get events end ≡ Some b
      → b.line ≢ a.line

-- ---- the labels of a line, as its events give them

-- the margin label: of those that do not lie within the line the one nearest to the margin
unfoldable pub margin_of : List LineLabel → Option LineLabel
margin_of labels = best is_nearer_margin (filter (λ x. not (is_inline x.side)) labels)

-- the line labels: all but the margin label where it starts, in order
unfoldable pub ranked : List LineLabel → List LineLabel
ranked labels =
    in_order is_before (filter (λ x. not (is_start x.side && is_margin (margin_of labels) x)) labels)

-- ---- labels that touch a line

-- a label starts on line l or above, and ends on it or below
unfoldable pub touches : ℕ → LabelInfo → Bool
touches l a = nat_le a.start_line l && nat_le l a.end_line

-- the numbers of the multi-line labels that touch line l
unfoldable pub touching : List LabelInfo → ℕ → List ℕ
touching labels l =
    map (λ e. e.0) (filter (λ e. touches l e.1) (enumerate_from 0 (multi_line_labels labels)))

-- label number i of these holds the character at offset o
abbrev pub holds_at : List LabelInfo → ℕ → ℕ → Bool
holds_at labels o i = unwrap_or (option_map (λ a. holds a o) (slice_get labels i)) false

-- a multi-line label that touches line l holds the character at offset o
abbrev pub is_held : List LabelInfo → ℕ → ℕ → Bool
is_held labels l o = list_any (λ a. touches l a && holds a o) (multi_line_labels labels)

-- a label that holds a character of line l touches the line
abbrev pub HoldersTouch : Sheet → ℕ → Type 0
HoldersTouch s l =
    (o : ℕ) → line_offset length s.lines l ≤ o
    → o < line_offset length s.lines l + length (line_text s.lines l)
    → AllByRecursion (λ a. holds a o ≡ true → touches l a ≡ true) s.labels
