-- Lists in order, and the rows of a group, which stand in theirs.
use Rattle.std.proofs.Common.{◌≡◌, ◌≢◌, ℕ, zero, suc, ◌+◌, ◌<◌, Bool, true, List, [], ◌∷◌, map, Some, refl, sym, ap, ◌∙◌, subst, arith, inl, inr, not, ◌==◌, nat_lt}
use Rattle.std.specs.Prelude.{slice_get, filter}
use Rattle.std.specs.List.{AllByRecursion, range_with_len}
use Rattle.std.specs.Cmp.Derive.{both_true}
use Rattle.std.proofs.lemmas.Bool.{cond_both, cases_lt, true≢false, lt-ltb, ne_eqb}
use Rattle.ariadne_picture.specs.Lists.{inserted, in_order}
use Rattle.ariadne_picture.specs.Rows.{Row}
use Rattle.ariadne_picture.specs.Pieces.{Section}
use Rattle.ariadne_picture.specs.Placing.Together.{all_pairs}
use Rattle.ariadne_picture.proofs.Lists.Elements.{all-range, list_all-true}
use Rattle.ariadne_picture.proofs.Lists.ListFacts.{none≢some, all-at, all-filter, all-map, all-weaker, all-inserted, all-in_order, Increasing}
use Rattle.ariadne_picture.proofs.Rows.RowOrder.{IsBefore, before-irreflexive, before-chain, rows-increasing}
use Rattle.ariadne_picture.proofs.Rows.RowPlacing.{row_list}
use Rattle.ariadne_picture.proofs.Reading.Pictures.{Picture, RowAt}

-- ---- lists

-- an element of a list in order stands so to each later one
pub increasing-at : {X : Type 0} (R : X → X → Type 0) (xs : List X) (i j : ℕ) (x y : X) → Increasing R xs → i < j
    → slice_get xs i ≡ Some x → slice_get xs j ≡ Some y → R x y
increasing-at R [] i j x y h less d e = absurd (none≢some x d)
increasing-at R (z ∷ xs) zero zero x y h less d e = absurd (omega arith)
increasing-at R (z ∷ xs) zero (suc j) x y h less d e =
    let same : z ≡ x = cc in subst (λ w. R w y) same (all-at (R z) xs j y e h.0)
increasing-at R (z ∷ xs) (suc i) zero x y h less d e = absurd (omega arith)
increasing-at R (z ∷ xs) (suc i) (suc j) x y h less d e = increasing-at R xs i j x y h.1 (omega arith) d e

-- a filter keeps an order
pub increasing-filter : {X : Type 0} (R : X → X → Type 0) (test : X → Bool) (xs : List X) → Increasing R xs
    → Increasing R (filter test xs)
increasing-filter R test [] h = tt
increasing-filter R test (x ∷ xs) h =
    cond_both (test x) _ _ (Increasing R) (λ _. (all-filter (R x) test xs h.0, increasing-filter R test xs h.1))
    (λ _. increasing-filter R test xs h.1)

-- a sort keeps what holds of each two elements in either order
increasing-inserted : {X : Type 0} (R : X → X → Type 0) (less : X → X → Bool) (x : X) (ys : List X) → ((a b : X) → R a b → R b a)
    → AllByRecursion (R x) ys → Increasing R ys → Increasing R (inserted less x ys)
unfolding inserted
increasing-inserted R less x [] f a i = (tt, tt)
increasing-inserted R less x (y ∷ ys) f a i =
    cond_both (less y x) _ _ (Increasing R)
    (λ _. (all-inserted (R y) less x ys (f x y a.0) i.0, increasing-inserted R less x ys f a.1 i.1)) (λ _. (a, i))

-- as it places each element among the others
pub increasing-in_order : {X : Type 0} (R : X → X → Type 0) (less : X → X → Bool) (xs : List X) → ((a b : X) → R a b → R b a)
    → Increasing R xs → Increasing R (in_order less xs)
unfolding in_order
increasing-in_order R less [] f i = tt
increasing-in_order R less (x ∷ xs) f i =
    increasing-inserted R less x (in_order less xs) f (all-in_order (R x) less xs i.0) (increasing-in_order R less xs f i.1)

-- elements in order that all have a property are in each order that follows from both
pub increasing-weaker : {X : Type 0} (P : X → Type 0) (R Q : X → X → Type 0) (xs : List X)
    → ((x y : X) → P x → P y → R x y → Q x y) → AllByRecursion P xs → Increasing R xs → Increasing Q xs
increasing-weaker P R Q [] f a h = tt
increasing-weaker P R Q (x ∷ xs) f a h = (later xs a.1 h.0, increasing-weaker P R Q xs f a.1 h.1)
  where
    later : (ys : List _) → AllByRecursion P ys → AllByRecursion (R x) ys → AllByRecursion (Q x) ys
    later [] b c = tt
    later (y ∷ ys) b c = (f x y a.0 b.0 c.0, later ys b.1 c.1)

-- a range rises
pub range-rises : (a n : ℕ) → Increasing (λ (l m : ℕ). l < m) (range_with_len a n)
range-rises a zero = tt
range-rises a (suc n) = (all-range (λ m. a < m) (a + 1) n (λ j h. omega arith), range-rises (a + 1) n)

-- numbers that rise pass the test
pub rising : {X : Type 0} (f : X → ℕ) (xs : List X) → Increasing (λ x y. f x < f y) xs → all_pairs nat_lt (map f xs) ≡ true
unfolding all_pairs
rising f [] h = refl
rising f (x ∷ xs) h =
    both_true (list_all-true _ _ (all-map _ f xs (all-weaker _ _ xs (λ y. lt-ltb (f x) (f y)) h.0))) (rising f xs h.1)

-- and numbers that differ pass the test
pub distinct : {X : Type 0} (f : X → ℕ) (xs : List X) → Increasing (λ x y. f x ≢ f y) xs → all_pairs (λ n m. not (n == m)) (map f xs) ≡ true
unfolding all_pairs
distinct f [] h = refl
distinct f (x ∷ xs) h =
    both_true (list_all-true _ _ (all-map _ f xs (all-weaker _ _ xs (λ y ne. ap not (ne_eqb (f x) (f y) ne)) h.0)))
    (distinct f xs h.1)

-- ---- the rows of a group

module _ (v : Picture) {g : ℕ} {s : Section} where
  -- of two rows the one at the lesser place stands before the other
  pub in-order : {j k : ℕ} {x y : Row} → RowAt v g s j x → RowAt v g s k y → j < k → IsBefore x y
  unfolding row_list
  in-order {x = x} {y} a b less =
      increasing-at IsBefore _ _ _ x y (rows-increasing s.sheet s.is_last v.texts.helps v.texts.notes) less a.name b.name

  -- a row has one place, since it does not stand before itself
  pub same-place : {j k : ℕ} {x : Row} → RowAt v g s j x → RowAt v g s k x → j ≡ k
  same-place {j} {k} {x} a b = elim (cases_lt j k) [
    | inl less ↦ absurd (true≢false (sym (in-order a b less) ∙ before-irreflexive x))
    | inr least ↦ elim (cases_lt k j) [
      | inl less ↦ absurd (true≢false (sym (in-order b a less) ∙ before-irreflexive x))
      | inr most ↦ omega arith
    ]
  ]

  -- a row that stands before another has the lesser place, since not both stand before each other
  pub by-order : {j k : ℕ} {x y : Row} → RowAt v g s j x → RowAt v g s k y → IsBefore x y → j < k
  by-order {j} {k} {x} {y} a b before = elim (cases_lt j k) [
    | inl less ↦ less
    | inr least ↦ elim (cases_lt k j) [
      | inl more ↦ absurd (true≢false (sym (before-chain x y x before (in-order b a more)) ∙ before-irreflexive x))
      | inr most ↦
          let z : j ≡ k = omega arith in
          absurd (true≢false (cc (before, before-irreflexive x)))
    ]
  ]
