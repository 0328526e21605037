-- The first of some faults.
use Rattle.std.proofs.Common.{◌≡◌, ap, refl, sym, ◌∙◌, arith, inl, inr, true≢false}
use Rattle.std.proofs.Math.Seq.{drop-cons}
use Rattle.std.specs.Prelude.{ℕ, zero, suc, ◌+◌, ◌<◌, ◌≤◌, ◌==◌, ◌&&◌, Bool, true, false, not, nat_le, nat_lt, List, [], ◌∷◌, ◌++◌, length, drop, get_or, Result, Ok, Err, IfErr, IsErrAnd}
use Rattle.std.specs.List.{AllByRecursion}
use Rattle.std.proofs.lemmas.Bool.Decides.{leb_tells}
use Rattle.ariadne_calls.specs.declared.given.GivenLabel.{GivenLabel}
use Rattle.ariadne_calls.specs.declared.ending.Fault.{Fault}
use Rattle.ariadne_calls.specs.declared.ending.Fault.TheVariants as fault
use Rattle.ariadne_calls.specs.declared.ending.Refusal.{Refusal}
use Rattle.ariadne_calls.specs.declared.ending.Refusal.TheVariants.{NoMemory, Faulty}
use Rattle.ariadne_calls.specs.ColorNumbers.{is_color}
use Rattle.ariadne_calls.specs.declared.given.GivenReport.{GivenReport}
use Rattle.ariadne_calls.specs.Faults.{IsFirst, faults_from, label_faults, when, optional_faults, head_faults, help_faults, note_faults, report_faults}

-- where there is none in front, the first is the first behind
pub later : (front behind : List Fault) (e : Refusal) → front ≡ [] → IsFirst behind e → IsFirst (front ++ behind) e
later front behind e none h = rw none h

-- the first in front stays the first
pub sooner : (front behind : List Fault) (e : Refusal) → IsFirst front e → IsFirst (front ++ behind) e
sooner front behind NoMemory h = tt
sooner [] behind (Faulty f) h = absurd (cc)
sooner (x ∷ front) behind (Faulty f) h = h

-- where there is none in front and none behind, there is none
pub none_in : (front behind : List Fault) → front ≡ [] → behind ≡ [] → front ++ behind ≡ []
none_in front behind none sound = rw (none, sound) refl

-- and the other way round
pub none_before : (front behind : List Fault) → front ++ behind ≡ [] → front ≡ []
none_before [] behind h = refl
none_before (x ∷ front) behind h = absurd (cc)

pub none_behind : (front behind : List Fault) → front ++ behind ≡ [] → behind ≡ []
none_behind [] behind h = h
none_behind (x ∷ front) behind h = absurd (cc)

module _ {X : Type 0} (of : ℕ → X → List Fault) (xs : List X) (i : ℕ) (d : X) where
  -- the faults from an item on are those of it and those behind it
  at : i < length xs → faults_from of i (drop i xs) ≡ of i (get_or xs i d) ++ faults_from of (i + 1) (drop (i + 1) xs)
  at h =
      let next : suc i ≡ i + 1 = omega arith in
      rw (drop-cons xs i d h) (ap (λ n. of i (get_or xs i d) ++ faults_from of (i + 1) (drop n xs)) next)

  -- an item without fault is passed
  pub passed : i < length xs → of i (get_or xs i d) ≡ [] → faults_from of 0 xs ≡ faults_from of i (drop i xs)
      → faults_from of 0 xs ≡ faults_from of (i + 1) (drop (i + 1) xs)
  passed h none same = same ∙ at h ∙ ap (λ fs. fs ++ faults_from of (i + 1) (drop (i + 1) xs)) none

  -- the first fault of an item is the first, where those before it are passed
  pub met : (e : Refusal) → i < length xs → IsFirst (of i (get_or xs i d)) e
      → faults_from of 0 xs ≡ faults_from of i (drop i xs) → IsFirst (faults_from of 0 xs) e
  met e h first same = rw (same ∙ at h) (sooner _ _ e first)

-- a refusal that is handed on is the same
pub handed_on : {T : Type 0} (fs : List Fault) (r : Result T Refusal) (e : Refusal) → IsErrAnd r (λ s. s ≡ e) → IsFirst fs e
    → IfErr r (IsFirst fs)
handed_on fs (Ok x) e h first = tt
handed_on fs (Err s) e h first = rw h first

-- no item is behind the last
past : {X : Type 0} (xs : List X) (i : ℕ) → length xs ≤ i → drop i xs ≡ []
past [] zero h = refl
past [] (suc i) h = refl
past (x ∷ xs) zero h = absurd (omega (arith, h))
past (x ∷ xs) (suc i) h = past xs i (omega (arith, h))

-- so all are passed
pub all_passed : {X : Type 0} (of : ℕ → X → List Fault) (xs : List X) (i : ℕ) → length xs ≤ i
    → faults_from of 0 xs ≡ faults_from of i (drop i xs) → faults_from of 0 xs ≡ []
all_passed of xs i h same = same ∙ ap (faults_from of i) (past xs i h)

-- where a test has no fault it fails
not_so : (b : Bool) (f : Fault) → when b f ≡ [] → b ≡ false
not_so true f h = absurd (cc)
not_so false f h = refl

-- a label without fault is in a source that is given
inside : (n k : ℕ) (label : GivenLabel) → label_faults n k label ≡ [] → label.source < n
inside n k label h =
    let rest : List Fault = when (nat_lt label.end label.start) (fault.LabelBackwards k)
    ++ (when (not (label.color == 0) && not (is_color label.color)) (fault.LabelColor k)
    ++ optional_faults (fault.LabelMessage k) label.message) in
    let none : when (nat_le n label.source) (fault.LabelSource k) ≡ [] =
    none_before (when (nat_le n label.source) (fault.LabelSource k)) rest h in
    elim (leb_tells n label.source) [
      | inl over ↦ absurd (true≢false (sym over.0 ∙ not_so (nat_le n label.source) (fault.LabelSource k) none))
      | inr within ↦ omega (arith, within.1)
    ]

-- and so are all
pub are_inside : (n k : ℕ) (labels : List GivenLabel) → faults_from (label_faults n) k labels ≡ []
    → AllByRecursion (λ label. label.source < n) labels
are_inside n k [] h = tt
are_inside n k (label ∷ labels) h =
    let first = label_faults n k label in
    let others = faults_from (label_faults n) (k + 1) labels in
    (inside n k label (none_before first others h), are_inside n (k + 1) labels (none_behind first others h))

module _ (n : ℕ) (r : GivenReport) where
  abbrev of_labels : List Fault
  of_labels = faults_from (label_faults n) 0 r.labels.now

  abbrev of_helps : List Fault
  of_helps = faults_from help_faults 0 r.helps.now

  abbrev of_notes : List Fault
  of_notes = faults_from note_faults 0 r.notes.now

  -- a report without fault has none in its labels
  pub none_in_labels : report_faults n r ≡ [] → of_labels ≡ []
  none_in_labels h = none_before of_labels (of_helps ++ of_notes) (none_behind (head_faults r) (of_labels ++ (of_helps ++ of_notes)) h)

  -- where the head has none, the first of its labels is the first
  pub first_in_labels : (e : Refusal) → head_faults r ≡ [] → IsFirst of_labels e → IsFirst (report_faults n r) e
  first_in_labels e head h =
      later (head_faults r) (of_labels ++ (of_helps ++ of_notes)) e head (sooner of_labels (of_helps ++ of_notes) e h)

  -- and where these have none, the first of its helps
  pub first_in_helps : (e : Refusal) → head_faults r ≡ [] → of_labels ≡ [] → IsFirst of_helps e → IsFirst (report_faults n r) e
  first_in_helps e head labels h =
      later (head_faults r) (of_labels ++ (of_helps ++ of_notes)) e head
      (later of_labels (of_helps ++ of_notes) e labels (sooner of_helps of_notes e h))
