-- Which labels hold a character of a line: only those that touch it, so the others need not be looked at.
use Rattle.std.proofs.Common.{◌≡◌, ℕ, ◌+◌, ◌<◌, ◌≤◌, Bool, true, false, not, ◌&&◌, ◌||◌, cond, List, [], ◌∷◌, length, map, filter, nat_le, nat_lt}
use Rattle.std.proofs.Common.{refl, sym, ap, ◌∙◌, arith, inl, inr, Some}
use Rattle.std.specs.Prelude.{slice_get}
use Rattle.std.specs.List.{AllByRecursion, enumerate_from, list_any}
use Rattle.std.proofs.lemmas.Bool.{cases_Bool, true≢false, false_from_ne_true}
use Rattle.std.proofs.lemmas.List.Sorted.{list_any-IsPermutation}
use Rattle.ariadne_base.specs.Locations.{line_offset, line_text}
use Rattle.ariadne_picture.specs.declared.label_info.LabelInfo.{LabelInfo}
use Rattle.ariadne_picture.specs.Lists.{in_order}
use Rattle.ariadne_picture.specs.Ranks.{Sheet, is_on_one_line, multi_line_labels, span_len}
use Rattle.ariadne_picture.specs.Rows.{is_inside}
use Rattle.ariadne_picture.specs.Strokes.{holds}
use Rattle.ariadne_picture.proofs.Lists.Elements.{Has, has-filter, has-map, all-numbered}
use Rattle.ariadne_picture.proofs.Lists.ListFacts.{all-at, all-every, all-filter, all-in_order}
use Rattle.ariadne_picture.proofs.Lists.StableOrder.{in_order-permutation}
use Rattle.ariadne_picture.proofs.Rows.RowsThere.{enumerated-at}
use Rattle.ariadne_layout.specs.SnippetLabels.{HoldersTouch, holds_at, is_held, touches, touching}

-- ---- tests of some element

-- of a map
any-map : {X Y : Type 0} (p : Y → Bool) (f : X → Y) (xs : List X) → list_any p (map f xs) ≡ list_any (λ x. p (f x)) xs
any-map p f [] = refl
any-map p f (x ∷ xs) = ap (λ t. p (f x) || t) (any-map p f xs)

-- of a filter
any-filter : {X : Type 0} (p t : X → Bool) (xs : List X) → list_any p (filter t xs) ≡ list_any (λ x. t x && p x) xs
any-filter p t [] = refl
any-filter p t (x ∷ xs) =
    elim (t x) as (λ v. list_any p (cond v (x ∷ filter t xs) (filter t xs)) ≡ (v && p x || list_any (λ x. t x && p x) xs)) [
      | true ↦ ap (λ b. p x || b) (any-filter p t xs)
      | false ↦ any-filter p t xs
    ]

-- of numbered elements
any-numbered : {X : Type 0} (p : X → Bool) (n : ℕ) (xs : List X) → list_any (λ (e : ℕ × X). p e.1) (enumerate_from n xs) ≡ list_any p xs
any-numbered p n [] = refl
any-numbered p n (x ∷ xs) = ap (λ t. p x || t) (any-numbered p (n + 1) xs)

-- two tests that agree at each element that has a property
any-alike : {X : Type 0} (P : X → Type 0) (p q : X → Bool) → ((x : X) → P x → p x ≡ q x) → (xs : List X) → AllByRecursion P xs
    → list_any p xs ≡ list_any q xs
any-alike P p q e [] a = refl
any-alike P p q e (x ∷ xs) a = λ i. e x a.0 i || any-alike P p q e xs a.1 i

-- ---- labels that hold a character of line l

module _ (s : Sheet) (l : ℕ) (h : HoldersTouch s l) (o : ℕ) (low : line_offset length s.lines l ≤ o)
    (high : o < line_offset length s.lines l + length (line_text s.lines l)) where
  -- each multi-line label that holds it touches the line
  holders-touch : AllByRecursion (λ a. holds a o ≡ true → touches l a ≡ true) (multi_line_labels s.labels)
  unfolding multi_line_labels
  holders-touch =
      let P : LabelInfo → Type 0 = λ a. holds a o ≡ true → touches l a ≡ true in
      all-in_order P (λ a b. nat_lt (span_len b) (span_len a)) (filter (λ a. not (is_on_one_line a)) s.labels)
      (all-filter P (λ a. not (is_on_one_line a)) s.labels (h o low high))

  -- one that does not touch it does not hold it
  untouched : (i : ℕ) (a : LabelInfo) → slice_get (multi_line_labels s.labels) i ≡ Some a → touches l a ≡ false → holds a o ≡ false
  untouched i a e f = elim (cases_Bool (holds a o)) [
    | inr n ↦ n
    | inl t ↦ absurd (true≢false (sym (all-at (λ a. holds a o ≡ true → touches l a ≡ true) (multi_line_labels s.labels) i a e holders-touch t) ∙ f))
  ]

-- the number of a multi-line label that touches line l is among those that do
touching-has : (labels : List LabelInfo) (l i : ℕ) (a : LabelInfo) → slice_get (multi_line_labels labels) i ≡ Some a → touches l a ≡ true → Has (touching labels l) i
unfolding touching
touching-has labels l i a e t =
    let z : 0 + i ≡ i = omega arith in
    let there : slice_get (enumerate_from 0 (multi_line_labels labels)) i ≡ Some (i, a) =
    enumerated-at 0 i (multi_line_labels labels) a e ∙ ap (λ n. Some (n, a)) z in
    let kept = has-filter (λ (e : ℕ × LabelInfo). touches l e.1) (enumerate_from 0 (multi_line_labels labels)) i (i, a) there t in
    has-map (λ (e : ℕ × LabelInfo). e.0) (filter (λ (e : ℕ × LabelInfo). touches l e.1) (enumerate_from 0 (multi_line_labels labels))) kept.place (i, a) kept.there

-- so a label whose number is not among those holds no character of the line
pub left-out : (s : Sheet) (l : ℕ) → HoldersTouch s l → (i : ℕ) (a : LabelInfo) → slice_get (multi_line_labels s.labels) i ≡ Some a
    → (Has (touching s.labels l) i → ⊥) → (k : ℕ) → k < length (line_text s.lines l) → holds a (line_offset length s.lines l + k) ≡ false
left-out s l h i a e out k less =
    untouched s l h (line_offset length s.lines l + k) (omega arith) (omega arith) i a e
    (false_from_ne_true (touches l a) (λ t. out (touching-has s.labels l i a e t)))

-- ---- whether the start of a line lies inside a label

-- a multi-line label that touches the line holds a character if one of those numbers does
pub found-touching : (labels : List LabelInfo) (l o : ℕ)
    → list_any (holds_at (multi_line_labels labels) o) (touching labels l) ≡ is_held labels l o
unfolding touching
found-touching labels l o =
    let longs : List LabelInfo = multi_line_labels labels in
    let es : List (ℕ × LabelInfo) = enumerate_from 0 longs in
    let t : ℕ × LabelInfo → Bool = λ e. touches l e.1 in
    any-map (holds_at longs o) (λ (e : ℕ × LabelInfo). e.0) (filter t es) ∙ any-filter (λ (e : ℕ × LabelInfo). holds_at longs o e.0) t es
    ∙ any-alike (λ (e : ℕ × LabelInfo). slice_get longs e.0 ≡ Some e.1) (λ e. t e && holds_at longs o e.0) (λ e. t e && holds e.1 o)
    (λ e there. rw there refl) es (all-numbered (λ (e : ℕ × LabelInfo). slice_get longs e.0 ≡ Some e.1) longs (λ k x e. e))
    ∙ any-numbered (λ a. touches l a && holds a o) 0 longs

-- a test of the multi-line labels is one of all labels
found-multi-line : (labels : List LabelInfo) (p : LabelInfo → Bool) → list_any p (multi_line_labels labels) ≡ list_any (λ a. not (is_on_one_line a) && p a) labels
unfolding multi_line_labels
found-multi-line labels p =
    let longer : LabelInfo → LabelInfo → Bool = λ a b. nat_lt (span_len b) (span_len a) in
    let several : List LabelInfo = filter (λ a. not (is_on_one_line a)) labels in
    sym (list_any-IsPermutation p several (in_order longer several) (in_order-permutation longer several))
    ∙ any-filter p (λ a. not (is_on_one_line a)) labels

-- the start of a line lies inside a label if one that touches the line holds it
pub inside-found : (s : Sheet) (l : ℕ) → 0 < length (line_text s.lines l) → HoldersTouch s l
    → is_held s.labels l (line_offset length s.lines l) ≡ is_inside s l
unfolding is_inside holds
inside-found s l some h =
    let o : ℕ = line_offset length s.lines l in
    any-alike (λ a. holds a o ≡ true → touches l a ≡ true) (λ a. touches l a && holds a o) (λ a. holds a o)
    (λ a t. holder (touches l a) (holds a o) t) (multi_line_labels s.labels) (holders-touch s l h o (omega arith) (omega arith))
    ∙ found-multi-line s.labels (λ a. holds a o)
    ∙ any-alike (λ a. Unit {0}) (λ a. not (is_on_one_line a) && holds a o) (λ a. not (is_on_one_line a) && nat_le a.start o && nat_lt o a.end)
    (λ a _. grouped (not (is_on_one_line a)) (nat_le a.start o) (nat_lt o a.end)) s.labels (all-every (λ a. Unit {0}) (λ a. tt) s.labels)
  where
    holder : (b c : Bool) → (c ≡ true → b ≡ true) → (b && c) ≡ c
    holder b true f = rw (f refl) refl
    holder true false f = refl
    holder false false f = refl

    grouped : (a b c : Bool) → (a && (b && c)) ≡ ((a && b) && c)
    grouped true b c = refl
    grouped false b c = refl
