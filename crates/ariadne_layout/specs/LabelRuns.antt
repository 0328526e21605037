-- The runs of a line that each show one of some labels: at each place the preferred one of those whose
-- span holds it. What two lists of labels show, one behind the other, tells what both show together.
use Rattle.std.specs.Prelude.{ℕ, ◌≡◌, ◌+◌, ◌<◌, ◌≤◌, nat_lt, if◌then◌else◌, List, [], ◌∷◌}
use Rattle.std.specs.Prelude.{filter, Option, Some, None, option_copied, option_map}
use Rattle.ariadne_picture.specs.declared.label_info.LabelInfo.{LabelInfo}
use Rattle.ariadne_picture.specs.Lists.{best}
use Rattle.ariadne_picture.specs.Strokes.{holds, is_preferred}
use Rattle.ariadne_layout.specs.Tables.{shown_at}
use Rattle.ariadne_layout.specs.declared.label_runs.LabelRun.{LabelRun}
use Rattle.ariadne_layout.specs.declared.stretches.Stretch.{Stretch}

-- the label that place k shows, if it shows one: a run reaches to its end, from that of the one before it
unfoldable pub seen_at : List LabelRun → ℕ → Option LabelInfo
seen_at [] k = None
seen_at (p ∷ runs) k = if nat_lt k p.end then option_copied p.label else seen_at runs k

-- from a place on no run ends before the one in front of it, and the last one ends at `len`
abbrev pub Reach : ℕ → ℕ → List LabelRun → Type 0
Reach place len [] = place ≡ len
Reach place len (p ∷ runs) = (place ≤ p.end) × Reach p.end len runs

-- the runs of the places below `len` of a line that begins at this offset
pub record AreLabelRuns (labels : List LabelInfo) (offset len : ℕ) (runs : List LabelRun) : Type 0 where
  pub reach : Reach 0 len runs
  pub show : (k : ℕ) → k < len
      → seen_at runs k ≡ best is_preferred (filter (λ a. holds a (offset + k)) labels)

-- at each place these stretches show the label that these runs do
abbrev pub ShowLabelRuns : List Stretch → List LabelRun → Type 0
ShowLabelRuns stretches runs =
    (k : ℕ) → shown_at stretches k ≡ option_map (λ a. a.position) (seen_at runs k)

-- of a label and one behind it the second only where it is preferred
unfoldable pub better_one : Option LabelInfo → Option LabelInfo → Option LabelInfo
better_one None b = b
better_one (Some a) None = Some a
better_one (Some a) (Some b) = Some (if is_preferred b a then b else a)
