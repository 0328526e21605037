-- What becomes of the labels of a report: each is drawn, or left out for a reason. What the outcomes
-- may be is told by the contents of the cache before and after they were found.
use Rattle.std.specs.Prelude.{ℕ, suc, ◌+◌, ◌≡◌, ⊤, Bool, true, false, List, [], ◌∷◌, None, IsSomeAnd}
use Rattle.std.specs.List.{AllZip, list_any}
use Rattle.ariadne_base.specs.Cache.{Grows, held}
use Rattle.ariadne_base.specs.Listing.{Listing}
use Rattle.ariadne_picture.specs.declared.label_info.LabelInfo.{LabelInfo}
use Rattle.ariadne_picture.specs.declared.verdict.Verdict.{Verdict}
use Rattle.ariadne_picture.specs.declared.verdict.Verdict.TheVariants.{Accepted}
use Rattle.ariadne_picture.specs.declared.verdict.Verdict.TheVariants.{PastSource as past}
use Rattle.ariadne_picture.specs.declared.verdict.Verdict.TheVariants.{CutsCharacter as cuts}
use Rattle.ariadne_picture.specs.Report.{ConfigFields, LabelFields, World}
use Rattle.ariadne_picture.specs.Accept.{verdict_in}
use Rattle.ariadne_report.specs.declared.accept.LeftOut.{LeftOut}
use Rattle.ariadne_report.specs.declared.accept.Reason.{Reason}
use Rattle.ariadne_report.specs.declared.accept.Reason.TheVariants.{Unfetched, PastSource, CutsCharacter}

-- what becomes of a label: it is drawn as this, or left out for that reason
pub data Outcome (E : Type 0) : Type 0 where
  drawn_as : LabelInfo → Outcome E
  left_out_for : Reason E → Outcome E

-- the labels that are drawn
abbrev pub drawn_labels : {E : Type 0} → List (Outcome E) → List LabelInfo
drawn_labels [] = []
drawn_labels (drawn_as info ∷ outcomes) = info ∷ drawn_labels outcomes
drawn_labels (left_out_for reason ∷ outcomes) = drawn_labels outcomes

-- those that are left out, each by its position, which counts from n, and its reason
abbrev pub listed : {E : Type 0} → ℕ → List (Outcome E) → List (LeftOut E)
listed n [] = []
listed n (drawn_as info ∷ outcomes) = listed (n + 1) outcomes
listed n (left_out_for reason ∷ outcomes) =
    record { label = n; reason = reason } ∷ listed (n + 1) outcomes

-- a label is drawn
abbrev pub is_drawn : {E : Type 0} → Outcome E → Bool
is_drawn (drawn_as info) = true
is_drawn (left_out_for reason) = false

-- a label could not be had
abbrev pub is_unfetched : {E : Type 0} → Outcome E → Bool
is_unfetched (left_out_for (Unfetched e)) = true
is_unfetched outcome = false

module _ {S Id E : Type 0} (fails : Id → E → Type 0) (before after : World S Id)
    (config : ConfigFields) where
  -- the source of the label at position k is held, and this is its verdict
  abbrev pub HasVerdict : ℕ → LabelFields S → Verdict → Type 0
  HasVerdict k label v =
      IsSomeAnd (after.source_of (after.id_of label.span))
      (λ source. verdict_in after config k label source ≡ v)

  -- this becomes of the label at position k, by the verdict over its source. Or its source was not
  -- held and could not be had, and that error may be returned for its id.
  abbrev pub IsJudged : ℕ → LabelFields S → Outcome E → Type 0
  IsJudged k label (drawn_as info) = HasVerdict k label (Accepted info)
  IsJudged k label (left_out_for PastSource) = HasVerdict k label past
  IsJudged k label (left_out_for CutsCharacter) = HasVerdict k label cuts
  IsJudged k label (left_out_for (Unfetched e)) =
      (before.source_of (before.id_of label.span) ≡ None) × fails (before.id_of label.span) e

  -- each label, of which the first is at position k, has the outcome at its place
  abbrev pub AreJudged : ℕ → List (LabelFields S) → List (Outcome E) → Type 0
  AreJudged k [] [] = ⊤
  AreJudged k [] (outcome ∷ outcomes) = ⊥
  AreJudged k (label ∷ labels) [] = ⊥
  AreJudged k (label ∷ labels) (outcome ∷ outcomes) =
      IsJudged k label outcome × AreJudged (suc k) labels outcomes

module _ {S Id E : Type 0} (w : World S Id) where
  -- of these labels none of the same id is unfetched
  abbrev pub NoneUnfetched : LabelFields S → List (LabelFields S) → List (Outcome E) → Type 0
  NoneUnfetched label labels outcomes =
      AllZip (λ other outcome. w.is_same (w.id_of label.span) (w.id_of other.span) ≡ true
      → is_unfetched outcome ≡ false) labels outcomes

  -- once the source of a label is had, no later label of an equal id is unfetched
  abbrev pub StayFetched : List (LabelFields S) → List (Outcome E) → Type 0
  StayFetched [] outcomes = ⊤
  StayFetched (label ∷ labels) [] = ⊤
  StayFetched (label ∷ labels) (outcome ∷ outcomes) =
      (is_unfetched outcome ≡ false → NoneUnfetched label labels outcomes)
      × StayFetched labels outcomes

-- this becomes of the labels of a report, by what the cache held before and after
pub record AreOutcomes {S Id E : Type 0} (fails : Id → E → Type 0) (before after : World S Id)
    (config : ConfigFields) (labels : List (LabelFields S)) (outcomes : List (Outcome E))
    : Type 0 where
  pub judged : AreJudged fails before after config 0 labels outcomes
  pub stay_fetched : StayFetched after labels outcomes

-- a cache has grown from the first contents to the second, by ids of labels alone
pub record GrowsFor {S Id : Type 0} (id_of : S → Id) (eq : Id → Id → Bool)
    (labels : List (LabelFields S)) (old new : List (Id × Listing)) : Type 0 where
  pub kept : Grows eq old new
  pub only : (q : Id) → list_any (λ label. eq (id_of label.span) q) labels ≡ false
      → held eq new q ≡ held eq old q
