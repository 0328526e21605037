-- What is read of a cache while a report is judged and drawn, and what is known of the labels that
-- are drawn.
use Rattle.std.specs.Prelude.{ℕ, ◌<◌, Bool, List, length, Option}
use Rattle.std.specs.List.{AllByRecursion}
use Rattle.ariadne_base.specs.Cache.{held}
use Rattle.ariadne_base.specs.Listing.{Listing}
use Rattle.ariadne_picture.specs.declared.label_info.LabelInfo.{LabelInfo}
use Rattle.ariadne_picture.specs.Report.{ReportFields, World}
use Rattle.ariadne_picture.specs.Accept.{IsAccepted}

-- the ids, the offsets, the names and the sources that a report over spans of type S reads, where a
-- cache has these contents
abbrev pub world : {S Id : Type 0} → (S → Id) → (S → ℕ) → (S → ℕ) → (Id → Id → Bool)
    → (Id → Option (List ℕ)) → List (Id × Listing) → World S Id
world id_of start_of end_of eq names contents = record {
  id_of = id_of;
  start_of = start_of;
  end_of = end_of;
  is_same = eq;
  name_of = names;
  source_of = held eq contents;
}

-- these labels of a report are accepted
abbrev pub AreDrawn : {S Id : Type 0} → World S Id → ReportFields S → List LabelInfo → Type 0
AreDrawn w r infos = AllByRecursion (IsAccepted w r) infos

-- these labels stand at positions that the report has
abbrev pub AreThere : {S : Type 0} → ReportFields S → List LabelInfo → Type 0
AreThere r infos = AllByRecursion (λ a. a.position < length r.labels) infos
