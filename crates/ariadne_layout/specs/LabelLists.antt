-- The lists that are held of a group's labels: they tell what happens at each line, and, for the
-- line that was gone to, which labels over several lines touch it.
use Rattle.std.specs.Prelude.{ℕ, ◌≡◌, ◌+◌, ◌≤◌, ◌&&◌, Bool, nat_le, nat_lt, List, length, map}
use Rattle.std.specs.Prelude.{false, filter, option_map, slice_get, unwrap_or}
use Rattle.std.specs.List.{enumerate_from}
use Rattle.ariadne_picture.specs.declared.label_info.LabelInfo.{LabelInfo}
use Rattle.ariadne_picture.specs.Lists.{in_order, mapped_numbered}
use Rattle.ariadne_picture.specs.Ranks.{gutter_labels, multi_line_labels}
use Rattle.ariadne_layout.specs.declared.label_lists.Begin.{Begin}
use Rattle.ariadne_layout.specs.declared.snippet_labels.Event.{Event}
use Rattle.ariadne_layout.specs.SnippetLabels.{events_of}

-- the lines that these multi-line labels start on, each with the label's number, from the first on
unfoldable pub begins_of : List LabelInfo → List Begin
begins_of multi_line =
    in_order (λ a b. nat_lt a.line b.line)
    (mapped_numbered (λ i a. record { line = a.start_line; number = i }) multi_line)

-- how many of them start above line `below`
unfoldable pub begun_above : List LabelInfo → ℕ → ℕ
begun_above multi_line below = length (filter (λ b. nat_lt b.line below) (begins_of multi_line))

-- label number i of these ends on line l or below it
abbrev pub ends_from : List LabelInfo → ℕ → ℕ → Bool
ends_from labels l i =
    unwrap_or (option_map (λ a. nat_le l a.end_line) (slice_get labels i)) false

-- the numbers of those that start above line `below`, and end on line `from` or below it
unfoldable pub reaching : List LabelInfo → ℕ → ℕ → List ℕ
reaching multi_line below from =
    map (λ e. e.0)
    (filter (λ e. nat_lt e.1.start_line below && nat_le from e.1.end_line)
    (enumerate_from 0 multi_line))

-- what was made of a group's labels once
pub record AreLists (labels longs in_gutter : List LabelInfo) (happens : List Event)
    (starts : List Begin) : Type 0 where
  pub multi_line : longs ≡ multi_line_labels labels
  pub gutter_labels : in_gutter ≡ gutter_labels labels
  pub events : happens ≡ events_of labels
  pub begins : starts ≡ begins_of longs

-- line l was gone to: of these multi-line labels so many start no further, and those of these
-- numbers touch it
pub record IsGoneTo (longs : List LabelInfo) (l count : ℕ) (numbers : List ℕ) : Type 0 where
  pub begun : count ≡ begun_above longs (l + 1)
  pub touching : numbers ≡ reaching longs (l + 1) l

-- line l is still to be gone to: the labels that start above some line no further than the next are
-- taken in, and those that end above some line no further than l are dropped
pub record IsBefore (longs : List LabelInfo) (l count : ℕ) (numbers : List ℕ) : Type 0 where
  pub below : ℕ
  pub from : ℕ
  pub up : below ≤ l + 1
  pub onward : from ≤ l
  pub begun : count ≡ begun_above longs below
  pub touching : numbers ≡ reaching longs below from
