-- Which elements lists have that are made of others, and tests of each element and of some element.
use Rattle.std.proofs.Common.{◌≡◌, ℕ, zero, suc, ◌+◌, ◌<◌, Bool, true, false, ◌&&◌, ◌||◌, List, [], ◌∷◌, ◌++◌, map, length, Some, refl, sym, ap, ◌∙◌}
use Rattle.std.proofs.Common.{subst, arith, inl, inr, AllPairs}
use Rattle.std.specs.Prelude.{slice_get, filter, slice_index_or, nat_eq}
use Rattle.std.specs.Cmp.Lexicographic.{pointwise}
use Rattle.std.specs.List.{AllByRecursion, enumerate_from, range_with_len, list_all, list_any}
use Rattle.std.proofs.lemmas.Bool.{cond_both, true≢false, eq-eqb, cases_Bool}
use Rattle.std.proofs.lemmas.Option.{slice_get_within, get_or_from_slice_get}
use Rattle.ariadne_picture.specs.Lists.{inserted, in_order, joined}
use Rattle.ariadne_picture.proofs.Lists.ListFacts.{none≢some, all-enumerated, Increasing}
use Rattle.ariadne_picture.proofs.Rows.RowNumbers.{at-front, at-back}

-- x stands in xs
pub record Has {X : Type 0} (xs : List X) (x : X) : Type 0 where
  pub place : ℕ
  pub there : slice_get xs place ≡ Some x

-- the first element
pub has-first : {X : Type 0} (x : X) (xs : List X) → Has (x ∷ xs) x
has-first x xs = record { place = 0; there = refl }

-- one of the others
pub has-later : {X : Type 0} (y : X) (xs : List X) (x : X) → Has xs x → Has (y ∷ xs) x
has-later y xs x h = record { place = suc h.place; there = h.there }

-- of two lists joined
pub has-front : {X : Type 0} (xs ys : List X) (x : X) → Has xs x → Has (xs ++ ys) x
has-front xs ys x h = record { place = h.place; there = at-front xs ys h.place x h.there }

pub has-back : {X : Type 0} (xs ys : List X) (x : X) → Has ys x → Has (xs ++ ys) x
has-back xs ys x h = record { place = length xs + h.place; there = at-back xs ys h.place ∙ h.there }

-- what holds of each element of a list holds of all
pub all-from : {X : Type 0} (P : X → Type 0) (xs : List X) → ((k : ℕ) (x : X) → slice_get xs k ≡ Some x → P x) → AllByRecursion P xs
all-from P [] f = tt
all-from P (x ∷ xs) f = (f 0 x refl, all-from P xs (λ k y e. f (suc k) y e))

-- each later element of a list in order stands in the order
pub increasing-from : {X : Type 0} (R : X → X → Type 0) (xs : List X) → AllPairs R xs → Increasing R xs
increasing-from R [] pairs = tt
increasing-from R (x ∷ xs) pairs = (
  all-from (R x) xs (λ k y e.
      let few = slice_get_within xs k y e in
      subst (R x) (get_or_from_slice_get xs k y x e) (pairs 0 (suc k) x (omega arith) (omega arith))),
  increasing-from R xs (λ i j d less few. pairs (suc i) (suc j) d (omega arith) (omega arith)),
)

-- an element that passes a filter's test
pub has-filter : {X : Type 0} (test : X → Bool) (xs : List X) (k : ℕ) (x : X) → slice_get xs k ≡ Some x → test x ≡ true → Has (filter test xs) x
has-filter test [] k x e t = absurd (none≢some x e)
has-filter test (y ∷ xs) zero x e t =
    let same : y ≡ x = cc in
    cond_both (test y) (y ∷ filter test xs) (filter test xs) (λ zs. Has zs x)
    (λ _. subst (λ z. Has (z ∷ filter test xs) x) (sym same) (has-first x (filter test xs)))
    (λ f. absurd (true≢false (sym t ∙ ap test (sym same) ∙ f)))
has-filter test (y ∷ xs) (suc k) x e t =
    cond_both (test y) (y ∷ filter test xs) (filter test xs) (λ zs. Has zs x)
    (λ _. has-later y (filter test xs) x (has-filter test xs k x e t)) (λ _. has-filter test xs k x e t)

-- an element inserted among others
pub has-inserted : {X : Type 0} (less : X → X → Bool) (x : X) (ys : List X) → Has (inserted less x ys) x
unfolding inserted
has-inserted less x [] = has-first x []
has-inserted less x (y ∷ ys) =
    cond_both (less y x) (y ∷ inserted less x ys) (x ∷ y ∷ ys) (λ zs. Has zs x) (λ _. has-later y (inserted less x ys) x (has-inserted less x ys))
    (λ _. has-first x (y ∷ ys))

-- one of those others
pub has-kept : {X : Type 0} (less : X → X → Bool) (x : X) (ys : List X) (k : ℕ) (z : X) → slice_get ys k ≡ Some z → Has (inserted less x ys) z
unfolding inserted
has-kept less x [] k z e = absurd (none≢some z e)
has-kept less x (y ∷ ys) zero z e =
    let same : y ≡ z = cc in
    cond_both (less y x) (y ∷ inserted less x ys) (x ∷ y ∷ ys) (λ zs. Has zs z)
    (λ _. subst (λ w. Has (w ∷ inserted less x ys) z) (sym same) (has-first z (inserted less x ys)))
    (λ _. has-later x (y ∷ ys) z (subst (λ w. Has (w ∷ ys) z) (sym same) (has-first z ys)))
has-kept less x (y ∷ ys) (suc k) z e =
    cond_both (less y x) (y ∷ inserted less x ys) (x ∷ y ∷ ys) (λ zs. Has zs z)
    (λ _. has-later y (inserted less x ys) z (has-kept less x ys k z e))
    (λ _. has-later x (y ∷ ys) z (has-later y ys z (record { place = k; there = e })))

-- a sort
pub has-in_order : {X : Type 0} (less : X → X → Bool) (xs : List X) (k : ℕ) (x : X) → slice_get xs k ≡ Some x → Has (in_order less xs) x
unfolding in_order
has-in_order less [] k x e = absurd (none≢some x e)
has-in_order less (y ∷ xs) zero x e =
    let same : y ≡ x = cc in subst (λ z. Has (inserted less z (in_order less xs)) x) (sym same) (has-inserted less x (in_order less xs))
has-in_order less (y ∷ xs) (suc k) x e = let h = has-in_order less xs k x e in has-kept less y (in_order less xs) h.place x h.there

-- a map
pub has-map : {X Y : Type 0} (f : X → Y) (xs : List X) (k : ℕ) (x : X) → slice_get xs k ≡ Some x → Has (map f xs) (f x)
has-map f [] k x e = absurd (none≢some x e)
has-map f (y ∷ xs) zero x e = let same : y ≡ x = cc in subst (λ z. Has (f z ∷ map f xs) (f x)) (sym same) (has-first (f x) (map f xs))
has-map f (y ∷ xs) (suc k) x e = has-later (f y) (map f xs) (f x) (has-map f xs k x e)

-- lists that a function gives, joined
pub has-joined : {X Y : Type 0} (f : X → List Y) (xs : List X) (k : ℕ) (x : X) (y : Y) → slice_get xs k ≡ Some x → Has (f x) y → Has (joined f xs) y
unfolding joined
has-joined f [] k x y e h = absurd (none≢some x e)
has-joined f (z ∷ xs) zero x y e h = let same : z ≡ x = cc in has-front (f z) (joined f xs) y (subst (λ w. Has (f w) y) (sym same) h)
has-joined f (z ∷ xs) (suc k) x y e h = has-back (f z) (joined f xs) y (has-joined f xs k x y e h)

-- the first of a list that has an element is one of its elements
pub first-has : {X : Type 0} (P : X → Type 0) (xs : List X) (x d : X) → AllByRecursion P xs → Has xs x → P (slice_index_or xs 0 d)
first-has P [] x d a h = absurd (none≢some x h.there)
first-has P (y ∷ xs) x d a h = a.0

-- ---- tests

-- each element passes
pub list_all-true : {X : Type 0} (test : X → Bool) (xs : List X) → AllByRecursion (λ x. test x ≡ true) xs → list_all test xs ≡ true
list_all-true test [] a = refl
list_all-true test (x ∷ xs) a = rw a.0 (list_all-true test xs a.1)

-- some element passes
pub list_any-true : {X : Type 0} (test : X → Bool) (xs : List X) (k : ℕ) (x : X) → slice_get xs k ≡ Some x → test x ≡ true → list_any test xs ≡ true
list_any-true test [] k x e t = absurd (none≢some x e)
list_any-true test (y ∷ xs) zero x e t = let same : y ≡ x = cc in let h : test y ≡ true = ap test same ∙ t in rw h refl
list_any-true test (y ∷ xs) (suc k) x e t = rw (list_any-true test xs k x e t) (or-true (test y))
  where
    or-true : (b : Bool) → (b || true) ≡ true
    or-true true = refl
    or-true false = refl

-- two tests that both pass
pub both-true : (b c : Bool) → b ≡ true → c ≡ true → (b && c) ≡ true
both-true b c e f = rw (e, f) refl

-- one of two passes
pub left-true : (b c : Bool) → b ≡ true → (b || c) ≡ true
left-true b c e = rw e refl

pub right-true : (b c : Bool) → c ≡ true → (b || c) ≡ true
right-true b c e = elim (cases_Bool b) [ inl t ↦ left-true b c t | inr f ↦ rw (f, e) refl ]

-- each of a range of numbers
pub all-range : (P : ℕ → Type 0) (a n : ℕ) → ((j : ℕ) → j < n → P (a + j)) → AllByRecursion P (range_with_len a n)
all-range P a zero f = tt
all-range P a (suc n) f =
    let z : a + 0 ≡ a = omega arith in
    (subst P z (f 0 (omega arith)), all-range P (a + 1) n (λ j h. let e : a + suc j ≡ a + 1 + j = omega arith in subst P e (f (suc j) (omega arith))))

-- each element with its number
pub all-numbered : {X : Type 0} (P : ℕ × X → Type 0) (xs : List X) → ((k : ℕ) (x : X) → slice_get xs k ≡ Some x → P (k, x))
    → AllByRecursion P (enumerate_from 0 xs)
all-numbered P xs f =
    Rattle.ariadne_picture.proofs.Lists.ListFacts.all-weaker (λ e. slice_get xs e.0 ≡ Some e.1) P (enumerate_from 0 xs) (λ e h. f e.0 e.1 h)
    (all-enumerated xs 0 xs (λ k. let z : 0 + k ≡ k = omega arith in sym (ap (slice_get xs) z)))

-- a text is itself
pub pointwise-same : (xs : List ℕ) → pointwise nat_eq xs xs ≡ true
pointwise-same [] = refl
pointwise-same (x ∷ xs) = both-true (nat_eq x x) (pointwise nat_eq xs xs) (eq-eqb x x refl) (pointwise-same xs)

-- texts that are equal
pub pointwise-equal : (xs ys : List ℕ) → xs ≡ ys → pointwise nat_eq xs ys ≡ true
pointwise-equal xs ys e = rw e (pointwise-same ys)

-- and lists of texts
pub texts-same : (xs : List (List ℕ)) → pointwise (pointwise nat_eq) xs xs ≡ true
texts-same [] = refl
texts-same (x ∷ xs) = both-true (pointwise nat_eq x x) (pointwise (pointwise nat_eq) xs xs) (pointwise-same x) (texts-same xs)
