-- How many columns stand in front of the source text: those of the margin, and behind it those of the
-- gutter. A program that knows how many columns a row may take asks for lines of so many less. The width
-- that lines are cut to is read nowhere here.
use Rattle.std.specs.Prelude.{ℕ, ◌+◌, ◌*◌, if◌then◌else◌, List, map}
use Rattle.ariadne_picture.specs.declared.label_info.LabelInfo.{LabelInfo}
use Rattle.ariadne_picture.specs.declared.switches.Switches.{Switches}
use Rattle.ariadne_picture.specs.Canvas.{groups, number_width, sheet_of}
use Rattle.ariadne_picture.specs.Groups.{greatest}
use Rattle.ariadne_picture.specs.Pieces.{column_size, gutter_len}
use Rattle.ariadne_picture.specs.Ranks.{Sheet}
use Rattle.ariadne_picture.specs.Report.{ReportFields, World}

-- the columns of a margin, where line numbers take `digits` columns: a blank, the number, a blank and a
-- bar, and a blank if not compact
unfoldable pub margin_len : Switches → ℕ → ℕ
margin_len switches digits = digits + (if switches.compact then 3 else 4)

-- the columns in front of the source text of a group
unfoldable pub columns_before_text : ℕ → Sheet → ℕ
columns_before_text digits h = margin_len h.switches digits + gutter_len h * column_size h.switches

module _ {S Id : Type 0} (w : World S Id) (r : ReportFields S) where
  -- the most of them that one of these groups has; without a group there are none
  unfoldable pub most_before_text : List (List LabelInfo) → ℕ
  most_before_text gs =
      greatest (map (λ group. columns_before_text (number_width w r gs) (sheet_of w r group)) gs)

  -- the most that one of the groups of these labels has
  unfoldable pub margin_columns : List LabelInfo → ℕ
  margin_columns infos = most_before_text (groups w r infos)
