-- The groups of labels that are drawn.
use Rattle.std.specs.Prelude.{List, [], ◌∷◌}
use Rattle.std.specs.List.{AllByRecursion}
use Rattle.ariadne_picture.specs.declared.label_info.LabelInfo.{LabelInfo}
use Rattle.ariadne_picture.specs.declared.switches.Switches.{Switches}
use Rattle.ariadne_picture.specs.Canvas.{same_source}
use Rattle.ariadne_picture.specs.Groups.{AreCut}
use Rattle.ariadne_picture.specs.Ranks.{Sheet}
use Rattle.ariadne_picture.specs.Report.{ReportFields, World}
use Rattle.ariadne_report.specs.CacheReads.{AreDrawn}

module _ {S Id : Type 0} (w : World S Id) (r : ReportFields S) where
  -- labels that are drawn, at least one of them, and no cut stands between two
  pub record IsGroup (group : List LabelInfo) : Type 0 where
    pub drawn : AreDrawn w r group
    pub whole : AreCut (same_source w r) (group ∷ [])

  -- each of these is so
  abbrev pub AreGroups : List (List LabelInfo) → Type 0
  AreGroups groups = AllByRecursion IsGroup groups

-- what the gutter of a group is made of: its labels and the switches, over no lines
abbrev pub gutter_sheet : Switches → List LabelInfo → Sheet
gutter_sheet switches labels = record { switches = switches; lines = []; labels = labels }
