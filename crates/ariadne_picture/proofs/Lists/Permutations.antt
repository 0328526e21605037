-- Lists that have the same elements: of parts that do, of a filter of a sort, and of two lists of numbers that have the same ones, each once.
use Rattle.std.proofs.Common.{◌≡◌, ◌≢◌, ℕ, zero, suc, Bool, true, false, cond, not, List, [], ◌∷◌, ◌++◌, Some, refl, sym, ap, ◌∙◌, subst, filter, IsPermutation, inl, inr, ◌==◌}
use Rattle.std.specs.Prelude.{slice_get}
use Rattle.std.specs.List.{AllByRecursion}
use Rattle.std.proofs.lemmas.Bool.{cond_both, cond-true, cond-false, cases_Bool, eq-eqb, ne_eqb, true≢false}
use Rattle.std.proofs.lemmas.List.Sorted.{IsPermutation-refl, IsPermutation-sym, IsPermutation-cons, IsPermutation-middle, IsPermutation-trans, IsPermutation-append, IsPermutation-filter_both}
use Rattle.ariadne_picture.specs.Lists.{inserted, in_order, joined}
use Rattle.ariadne_picture.proofs.Lists.ListFacts.{all-at, all-weaker, all-filtered, filter-none, none≢some, Increasing}
use Rattle.ariadne_picture.proofs.Lists.Elements.{Has, has-filter, all-from}
use Rattle.ariadne_picture.proofs.Reading.InOrder.{increasing-filter}

-- parts that have the same elements
pub joined-permutation : {X Y : Type 0} (f g : X → List Y) (xs : List X) → ((x : X) → IsPermutation (f x) (g x)) → IsPermutation (joined f xs) (joined g xs)
unfolding joined
joined-permutation f g [] p = IsPermutation-refl []
joined-permutation f g (x ∷ xs) p = IsPermutation-append (f x) (g x) (joined f xs) (joined g xs) (p x) (joined-permutation f g xs p)

-- ---- a filter of a sort

module _ {X : Type 0} (test : X → Bool) (less : X → X → Bool) where
  kept-cons : (x : X) (ys zs : List X) → IsPermutation ys zs → IsPermutation (cond (test x) (x ∷ ys) ys) (cond (test x) (x ∷ zs) zs)
  kept-cons x ys zs p = by (test x)
    where
      by : (b : Bool) → IsPermutation (cond b (x ∷ ys) ys) (cond b (x ∷ zs) zs)
      by true = IsPermutation-cons x ys zs p
      by false = p

  kept-swap : (x y : X) (zs : List X)
      → IsPermutation (cond (test x) (x ∷ cond (test y) (y ∷ zs) zs) (cond (test y) (y ∷ zs) zs))
      (cond (test y) (y ∷ cond (test x) (x ∷ zs) zs) (cond (test x) (x ∷ zs) zs))
  kept-swap x y zs = by (test x) (test y)
    where
      by : (b c : Bool) → IsPermutation (cond b (x ∷ cond c (y ∷ zs) zs) (cond c (y ∷ zs) zs)) (cond c (y ∷ cond b (x ∷ zs) zs) (cond b (x ∷ zs) zs))
      by true true = IsPermutation-middle (x ∷ []) y zs
      by true false = IsPermutation-refl (x ∷ zs)
      by false true = IsPermutation-refl (y ∷ zs)
      by false false = IsPermutation-refl zs

  filter-inserted : (x : X) (ys : List X) → IsPermutation (filter test (x ∷ ys)) (filter test (inserted less x ys))
  unfolding inserted
  filter-inserted x [] = IsPermutation-refl (filter test (x ∷ []))
  filter-inserted x (y ∷ ys) =
      cond_both (less y x) (y ∷ inserted less x ys) (x ∷ y ∷ ys) (λ zs. IsPermutation (filter test (x ∷ y ∷ ys)) (filter test zs))
      (λ _. IsPermutation-trans (filter test (x ∷ y ∷ ys)) (filter test (y ∷ x ∷ ys)) (filter test (y ∷ inserted less x ys))
      (kept-swap x y (filter test ys)) (kept-cons y (filter test (x ∷ ys)) (filter test (inserted less x ys)) (filter-inserted x ys)))
      (λ _. IsPermutation-refl (filter test (x ∷ y ∷ ys)))

  pub filter-in_order : (xs : List X) → IsPermutation (filter test xs) (filter test (in_order less xs))
  unfolding in_order
  filter-in_order [] = IsPermutation-refl []
  filter-in_order (x ∷ xs) =
      IsPermutation-trans (filter test (x ∷ xs)) (filter test (x ∷ in_order less xs)) (filter test (inserted less x (in_order less xs)))
      (kept-cons x (filter test xs) (filter test (in_order less xs)) (filter-in_order xs)) (filter-inserted x (in_order less xs))

-- of two filters either may come first
pub filter-twice : {X : Type 0} (p q : X → Bool) (xs : List X) → filter p (filter q xs) ≡ filter q (filter p xs)
filter-twice p q [] = refl
filter-twice p q (x ∷ xs) = elim (cases_Bool (p x)) [
  | inl a ↦ elim (cases_Bool (q x)) [
    | inl b ↦ rw (a, b) (rw a (ap (λ t. x ∷ t) (filter-twice p q xs)))
    | inr b ↦ rw (a, b) (filter-twice p q xs)
  ]
  | inr a ↦ elim (cases_Bool (q x)) [ inl b ↦ rw (a, b) (rw a (filter-twice p q xs)) | inr b ↦ rw (a, b) (filter-twice p q xs) ]
]

-- ---- numbers that all differ

abbrev AllDiffer : List ℕ → Type 0
AllDiffer = Increasing (λ (n m : ℕ). n ≢ m)

-- a number stands once
filter-one : (x : ℕ) (ys : List ℕ) → AllDiffer ys → (k : ℕ) → slice_get ys k ≡ Some x → filter (λ y. y == x) ys ≡ x ∷ []
filter-one x [] d k e = absurd (none≢some x e)
filter-one x (y ∷ ys) d zero e =
    let same : y ≡ x = cc in
    cond-true (y == x) (y ∷ filter (λ y. y == x) ys) _ (eq-eqb y x same)
    ∙ ap (λ t. y ∷ t) (filter-none (λ y. y == x) ys (all-weaker (λ m. y ≢ m) _ ys (λ m differ. ne_eqb m x (λ z. differ (same ∙ sym z))) d.0))
    ∙ ap (λ y. y ∷ []) same
filter-one x (y ∷ ys) d (suc k) e =
    cond-false (y == x) _ (filter (λ y. y == x) ys) (ne_eqb y x (all-at (λ m. y ≢ m) ys k x e d.0)) ∙ filter-one x ys d.1 k e

-- another element than the first is one of the others
one-of-others : (x n : ℕ) (xs : List ℕ) → Has (x ∷ xs) n → n ≢ x → Has xs n
one-of-others x n xs h differ = go h.place h.there
  where
    go : (k : ℕ) → slice_get (x ∷ xs) k ≡ Some n → Has xs n
    go zero e = let same : x ≡ n = cc in absurd (differ (sym same))
    go (suc k) e = record { place = k; there = e }

-- lists of the same ones
pub same-numbers : (xs ys : List ℕ) → AllDiffer xs → AllDiffer ys → AllByRecursion (Has ys) xs → AllByRecursion (Has xs) ys → IsPermutation xs ys
same-numbers [] [] i j a b = IsPermutation-refl []
same-numbers [] (y ∷ ys) i j a b = absurd (none≢some y b.0.there)
same-numbers (x ∷ xs) ys i j a b =
    let is : ℕ → Bool = λ y. y == x in
    let off : ℕ → Bool = λ y. not (y == x) in
    let rest : List ℕ = filter off ys in
    let kept : AllByRecursion (Has rest) xs =
    all-from (Has rest) xs (λ k n e.
    let h = all-at (Has ys) xs k n e a.1 in
    let differ = all-at (λ m. x ≢ m) xs k n e i.0 in
    has-filter off ys h.place n h.there (ap not (ne_eqb n x (λ z. differ (sym z))))) in
    let back : AllByRecursion (Has xs) rest =
    all-filtered (Has xs) off ys
    (all-weaker (Has (x ∷ xs)) (λ n. off n ≡ true → Has xs n) ys
    (λ n h passes. one-of-others x n xs h (λ z. true≢false (sym passes ∙ ap not (eq-eqb n x z)))) b) in
    let others = same-numbers xs rest i.1 (increasing-filter _ off ys j) kept back in
    let once = filter-one x ys j a.0.place a.0.there in
    IsPermutation-trans (x ∷ xs) (x ∷ rest) ys (IsPermutation-cons x xs rest others)
    (IsPermutation-sym ys (x ∷ rest) (subst (λ front. IsPermutation ys (front ++ rest)) once (IsPermutation-filter_both is off (λ y. refl) ys)))
