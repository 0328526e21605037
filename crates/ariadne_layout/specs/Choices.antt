-- Which label is shown from an offset on: the preferred one of those whose span holds the character
-- there. It is so up to the nearest offset at which one of the labels begins or ends.
use Rattle.std.specs.Prelude.{ℕ, ◌≡◌, ◌+◌, ◌-◌, ◌^◌, ◌<◌, ◌≤◌, min, List, ◌++◌}
use Rattle.std.specs.Prelude.{filter, map, slice_get, Option, option_copied, option_map}
use Rattle.std.specs.List.{AllByRecursion, filter_map}
use Rattle.ariadne_picture.specs.declared.label_info.LabelInfo.{LabelInfo}
use Rattle.ariadne_picture.specs.declared.label_info.LineLabel.{LineLabel}
use Rattle.ariadne_picture.specs.Lists.{best}
use Rattle.ariadne_picture.specs.Ranks.{is_inline}
use Rattle.ariadne_picture.specs.Strokes.{holds, is_preferred}
use Rattle.ariadne_layout.specs.declared.choice.Choice.{Choice}

-- what some labels show at an offset, and at most `len` characters from there on; an offset that no
-- number of 64 bits counts, and no label holds, is taken as the greatest of these
pub record IsChoice (labels : List LabelInfo) (offset len : ℕ) (choice : Choice) : Type 0 where
  pub begins : choice.offset ≡ min offset (2 ^ 64 - 1)
  pub shows : option_copied choice.best ≡ best is_preferred (filter (λ a. holds a offset) labels)
  pub stays : (k : ℕ) → k < choice.len
      → AllByRecursion (λ a. holds a (offset + k) ≡ holds a offset) labels
  pub goes_on : 0 < len → 0 < choice.len
  pub within : choice.len ≤ len

-- a choice takes more labels into account than another at the same offset
abbrev pub Considers : Choice → Choice → List LabelInfo → Type 0
Considers old new more =
    (labels : List LabelInfo) (offset len : ℕ) → IsChoice labels offset len old
    → IsChoice (labels ++ more) offset len new

-- the position of the label that some labels show at an offset, if they show one
unfoldable pub shown_position : List LabelInfo → ℕ → Option ℕ
shown_position labels o = option_map (λ a. a.position) (best is_preferred (filter (λ a. holds a o) labels))

-- ---- among which labels it is chosen

-- the labels that some line labels are of
unfoldable pub infos_of : List LineLabel → List LabelInfo
infos_of labels = map (λ x. x.info) labels

-- of those that lie within the line
unfoldable pub inline_infos : List LineLabel → List LabelInfo
inline_infos labels = infos_of (filter (λ x. is_inline x.side) labels)

-- the labels that stand at these indices of a list
unfoldable pub numbered : List LabelInfo → List ℕ → List LabelInfo
numbered infos numbers = filter_map (slice_get infos) numbers
