-- The labels that may hold a shown character are told by their numbers: to leave the others out changes no choice.
use Rattle.std.proofs.Common.{◌≡◌, ℕ, suc, ◌+◌, ◌<◌, ◌≤◌, Bool, false, ◌||◌, cond, List, [], ◌∷◌, ◌++◌, Some, filter, map, length, slice_get, eqb, option_map}
use Rattle.std.proofs.Common.{refl, sym, ap, ◌∙◌, subst, arith, inl, inr, option_to_list}
use Rattle.std.specs.List.{All, AllPairs, list_any, filter_map, cons_option}
use Rattle.std.specs.List.Sorted.{IsStrictlyIncreasing}
use Rattle.std.proofs.lemmas.Bool.{cond-false, cases_order, ne_eqb}
use Rattle.std.proofs.lemmas.List.Elements.{filter-append}
use Rattle.std.proofs.lemmas.List.Kept.{AllPairs-from_increasing}
use Rattle.ariadne_picture.specs.declared.label_info.LabelInfo.{LabelInfo}
use Rattle.ariadne_picture.specs.declared.label_info.LineLabel.{LineLabel}
use Rattle.ariadne_picture.specs.Columns.{Layout, shown}
use Rattle.ariadne_picture.specs.Lists.{best}
use Rattle.ariadne_picture.specs.Pieces.{painters}
use Rattle.ariadne_picture.specs.Strokes.{holds, is_preferred}
use Rattle.ariadne_layout.specs.Choices.{infos_of, numbered, shown_position}
use Rattle.ariadne_layout.proofs.Stretched.{painter_position}

-- the numbers rise from n on
abbrev Rises : ℕ → List ℕ → Type 0
Rises n [] = Unit {0}
Rises n (j ∷ js) = (n ≤ j) × Rises (suc j) js

-- numbers of which each is below all later ones rise
rises-from_pairs : (n : ℕ) (js : List ℕ) → All (λ j. n ≤ j) js → AllPairs (λ i j. i < j) js → Rises n js
rises-from_pairs n [] from pairs = tt
rises-from_pairs n (j ∷ js) from pairs = (
  from 0 0 (omega arith),
  rises-from_pairs (suc j) js (λ k d h. let less = pairs 0 (suc k) d (omega arith) (omega arith) in omega arith)
      (λ i k d h l. pairs (suc i) (suc k) d (omega arith) (omega arith)),
)

-- a number below them is none of them
not_among : (n i : ℕ) (js : List ℕ) → i < n → Rises n js → list_any (λ j. eqb j i) js ≡ false
not_among n i [] less r = refl
not_among n i (j ∷ js) less r =
    let differs : j ≡ i → ⊥ = λ e. omega arith in
    let from = r.0 in
    (λ k. ne_eqb j i differs k || list_any (λ m. eqb m i) js) ∙ not_among (suc j) i js (omega arith) r.1

-- where a list goes on at n, and the elements whose numbers are left out fail a test, that test passes the same of those of the numbers
filter-numbered_from : (t : LabelInfo → Bool) (whole : List LabelInfo) (n : ℕ) (rest : List LabelInfo) (js : List ℕ)
    → ((k : ℕ) → slice_get rest k ≡ slice_get whole (n + k)) → Rises n js → All (λ j. j < n + length rest) js
    → ((i : ℕ) (a : LabelInfo) → n ≤ i → slice_get whole i ≡ Some a → list_any (λ j. eqb j i) js ≡ false → t a ≡ false)
    → filter t (filter_map (slice_get whole) js) ≡ filter t rest
filter-numbered_from t whole n [] [] at r within out = refl
filter-numbered_from t whole n [] (j ∷ js) at r within out =
    let from = r.0 in let below : j < n + 0 = within 0 0 (omega arith) in absurd (omega arith)
filter-numbered_from t whole n (x ∷ xs) [] at r within out =
    let z : n ≡ n + 0 = omega arith in
    let fails : t x ≡ false = out n x (omega arith) (ap (slice_get whole) z ∙ sym (at 0)) refl in
    let next = λ (k : ℕ). let e : n + suc k ≡ suc n + k = omega arith in at (suc k) ∙ ap (slice_get whole) e in
    filter-numbered_from t whole (suc n) xs [] next tt (λ k d h. absurd (omega arith)) (λ i a from is none. out i a (omega arith) is none)
    ∙ sym (cond-false (t x) (x ∷ filter t xs) (filter t xs) fails)
filter-numbered_from t whole n (x ∷ xs) (j ∷ js) at r within out =
    let z : n ≡ n + 0 = omega arith in
    let here : slice_get whole n ≡ Some x = ap (slice_get whole) z ∙ sym (at 0) in
    let next = λ (k : ℕ). let e : n + suc k ≡ suc n + k = omega arith in at (suc k) ∙ ap (slice_get whole) e in
    elim (cases_order n j) [
      | inl e ↦
          let there : slice_get whole j ≡ Some x = ap (slice_get whole) (sym e) ∙ here in
          let others = filter-numbered_from t whole (suc n) xs js next (subst (λ m. Rises (suc m) js) (sym e) r.1)
          (λ k d h. let below = within (suc k) d (omega arith) in omega arith)
          (λ i a from is none. let differs : j ≡ i → ⊥ = λ d. omega arith in
          out i a (omega arith) is ((λ k. ne_eqb j i differs k || list_any (λ m. eqb m i) js) ∙ none)) in
          ap (λ o. filter t (cons_option o (filter_map (slice_get whole) js))) there ∙ (λ i. cond (t x) (x ∷ others i) (others i))
      | inr (inl before) ↦
          let fails : t x ≡ false = out n x (omega arith) here (not_among (suc n) n (j ∷ js) (omega arith) (omega arith, r.1)) in
          filter-numbered_from t whole (suc n) xs (j ∷ js) next (omega arith, r.1)
          (λ k d h. let below = within k d h in omega arith) (λ i a from is none. out i a (omega arith) is none)
          ∙ sym (cond-false (t x) (x ∷ filter t xs) (filter t xs) fails)
      | inr (inr behind) ↦ let from = r.0 in absurd (omega arith)
    ]

-- so it is for a whole list
filter-numbered : (t : LabelInfo → Bool) (infos : List LabelInfo) (numbers : List ℕ) → All (λ i. i < length infos) numbers
    → IsStrictlyIncreasing numbers
    → ((i : ℕ) (a : LabelInfo) → slice_get infos i ≡ Some a → list_any (λ j. eqb j i) numbers ≡ false → t a ≡ false)
    → filter t (numbered infos numbers) ≡ filter t infos
unfolding numbered
filter-numbered t infos numbers within rising out =
    filter-numbered_from t infos 0 infos numbers (λ k. let e : k ≡ 0 + k = omega arith in ap (slice_get infos) e)
    (rises-from_pairs 0 numbers (λ k d h. omega arith) (AllPairs-from_increasing numbers rising))
    (λ k d h. let below = within k d h in omega arith) (λ i a from is none. out i a is none)

-- the labels that may colour a shown character
abbrev pub painters_here : List LabelInfo → List ℕ → Layout → List LabelInfo
painters_here multi_line touching y = infos_of (option_to_list y.margin) ++ numbered multi_line touching ++ infos_of y.labels

-- the same ones colour it as of all
pub painters_kept : (multi_line : List LabelInfo) (touching : List ℕ) (y : Layout) (k : ℕ) → All (λ i. i < length multi_line) touching
    → IsStrictlyIncreasing touching
    → ((i : ℕ) (a : LabelInfo) → slice_get multi_line i ≡ Some a → list_any (λ j. eqb j i) touching ≡ false → (m : ℕ) → m < length (shown y)
    → holds a (y.offset + m) ≡ false)
    → k < length (shown y)
    → shown_position (painters_here multi_line touching y) (y.offset + k)
    ≡ painter_position multi_line y k
unfolding shown_position painters infos_of
painters_kept multi_line touching y k within rising out below =
    let held = λ (a : LabelInfo). holds a (y.offset + k) in
    let margin = map (λ (x : LineLabel). x.info) (option_to_list y.margin) in
    let labels = map (λ (x : LineLabel). x.info) y.labels in
    let same = filter-numbered held multi_line touching within rising (λ i a is none. out i a is none k below) in
    ap (λ t. option_map (λ (a : LabelInfo). a.position) (best is_preferred t))
    (filter-append held (margin ++ numbered multi_line touching) labels
    ∙ ap (λ t. t ++ filter held labels) (filter-append held margin (numbered multi_line touching) ∙ ap (λ t. filter held margin ++ t) same ∙ sym (filter-append held margin multi_line))
    ∙ sym (filter-append held (margin ++ multi_line) labels))
