-- The labels that compete for a place of a line, as they stand in their lists.
use Rattle.std.specs.Prelude.{ℕ, ◌≡◌, ◌+◌, ◌<◌, List, ◌++◌, length, if◌then◌else◌}
use Rattle.std.specs.Prelude.{is_some, option_copied, option_to_list}
use Rattle.std.specs.List.{All}
use Rattle.ariadne_picture.specs.declared.label_info.LabelInfo.{LabelInfo}
use Rattle.ariadne_layout.specs.declared.candidates.Candidates.{Candidates}
use Rattle.ariadne_layout.specs.Choices.{infos_of, inline_infos, numbered}

-- the margin label, the multi-line labels of these numbers, and those of the line, all or what lies within it
unfoldable pub infos_among : Candidates → List LabelInfo
infos_among c =
    infos_of (option_to_list (option_copied c.margin)) ++ numbered c.multi_line.now c.touching.now
    ++ (if c.is_inline then inline_infos c.labels.now else infos_of c.labels.now)

-- how many they are, at most
abbrev pub count : Candidates → ℕ
count c = (if is_some c.margin then 1 else 0) + length c.touching.now + length c.labels.now

-- each number is that of a multi-line label
abbrev pub AreThere : Candidates → Type 0
AreThere c = All (λ i. i < length c.multi_line.now) c.touching.now

-- some of the candidates, and the others behind them: neither are all
pub record Halves (whole first second : Candidates) : Type 0 where
  pub infos : infos_among whole ≡ infos_among first ++ infos_among second
  pub fewer-first : count first < count whole
  pub fewer-second : count second < count whole
  pub there-first : AreThere first
  pub there-second : AreThere second
