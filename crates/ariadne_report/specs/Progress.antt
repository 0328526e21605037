-- How far the labels of a report are judged.
use Rattle.std.specs.Prelude.{ℕ, ◌≡◌, ◌≤◌, List, Some, slice_get}
use Rattle.std.specs.List.{AllByRecursion}
use Rattle.ariadne_base.specs.Listing.{Listing}
use Rattle.ariadne_picture.specs.declared.label_info.LabelInfo.{LabelInfo}
use Rattle.ariadne_picture.specs.Report.{ConfigFields, LabelFields, World}
use Rattle.ariadne_report.specs.declared.accept.LeftOut.{LeftOut}
use Rattle.ariadne_report.specs.Judging.{AreOutcomes, Outcome, drawn_labels, listed}

-- what the first labels of a report have come to: which are drawn, and which are left out
pub record SoFar {S Id E : Type 0} (fails : Id → E → Type 0) (config : ConfigFields)
    (before after : World S Id) (labels : List (LabelFields S)) (left_out : List (LeftOut E))
    (infos : List LabelInfo) : Type 0 where
  pub outcomes : List (Outcome E)
  pub are_outcomes : AreOutcomes fails before after config labels outcomes
  pub are_left_out : left_out ≡ listed 0 outcomes
  pub are_drawn : infos ≡ drawn_labels outcomes
  pub forward : AllByRecursion (λ label. after.start_of label.span ≤ after.end_of label.span) labels

-- the source of the label at a position is held, and is this
abbrev pub IsSourceAt : {S Id : Type 0} → World S Id → List (LabelFields S) → ℕ → Listing → Type 0
IsSourceAt {S} w labels n source =
    (label : LabelFields S) → slice_get labels n ≡ Some label
    → w.source_of (w.id_of label.span) ≡ Some source
