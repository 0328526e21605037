-- How many elements of a list pass a test: in a list made of others, and where the first of them stands.
use Rattle.std.proofs.Common.{◌≡◌, ℕ, zero, suc, ◌+◌, ◌<◌, ◌≤◌, Bool, true, false, cond, List, [], ◌∷◌, ◌++◌, Some, refl, sym, ap, ◌∙◌, subst, arith}
use Rattle.std.proofs.Common.{◌==◌, inl, inr, map, add_assoc, zero-add, one-add}
use Rattle.std.specs.Prelude.{slice_get, filter}
use Rattle.std.specs.List.{enumerate_from, position_or_len}
use Rattle.std.proofs.lemmas.Bool.{cond_both, true≢false, cond-false, eqb-true, ne_eqb, cases_Bool}
use Rattle.ariadne_picture.specs.Lists.{inserted, in_order, joined, total}
use Rattle.ariadne_picture.proofs.Lists.ListFacts.{none≢some}

-- how many elements pass
abbrev pub occurrences : {X : Type 0} → (X → Bool) → List X → ℕ
occurrences p xs = total (λ x. cond (p x) 1 0) xs

-- ---- sums

-- of two lists joined
pub total-append : {X : Type 0} (f : X → ℕ) (xs ys : List X) → total f (xs ++ ys) ≡ total f xs + total f ys
unfolding total
total-append f [] ys = sym (zero-add _)
total-append f (x ∷ xs) ys = ap (λ t. f x + t) (total-append f xs ys) ∙ sym (add_assoc (f x) (total f xs) (total f ys))

-- of lists that a function gives, joined
pub total-joined : {X Y : Type 0} (g : Y → ℕ) (f : X → List Y) (xs : List X) → total g (joined f xs) ≡ total (λ x. total g (f x)) xs
unfolding joined total
total-joined g f [] = refl
total-joined g f (x ∷ xs) = total-append g (f x) (joined f xs) ∙ ap (λ t. total g (f x) + t) (total-joined g f xs)

-- of an element inserted among others
pub total-inserted : {X : Type 0} (f : X → ℕ) (less : X → X → Bool) (x : X) (ys : List X) → total f (inserted less x ys) ≡ f x + total f ys
unfolding total inserted
total-inserted f less x [] = refl
total-inserted f less x (y ∷ ys) =
    let more = total-inserted f less x ys in
    cond_both (less y x) (y ∷ inserted less x ys) (x ∷ y ∷ ys) (λ zs. total f zs ≡ f x + (f y + total f ys)) (λ _. ap (λ t. f y + t) more ∙ omega arith)
    (λ _. refl)

-- of a sort
pub total-in_order : {X : Type 0} (f : X → ℕ) (less : X → X → Bool) (xs : List X) → total f (in_order less xs) ≡ total f xs
unfolding total in_order
total-in_order f less [] = refl
total-in_order f less (x ∷ xs) = total-inserted f less x (in_order less xs) ∙ ap (λ t. f x + t) (total-in_order f less xs)

-- of a filter
pub total-filter : {X : Type 0} (f : X → ℕ) (t : X → Bool) (xs : List X) → total f (filter t xs) ≤ total f xs
unfolding total
total-filter f t [] = omega arith
total-filter f t (x ∷ xs) =
    let more = total-filter f t xs in
    cond_both (t x) (x ∷ filter t xs) (filter t xs) (λ ys. total f ys ≤ f x + total f xs) (λ _. omega arith) (λ _. omega arith)

-- of a map to elements that give nothing
pub total-zero : {X Y : Type 0} (f : Y → ℕ) (g : X → Y) (xs : List X) → ((x : X) → f (g x) ≡ 0) → total f (map g xs) ≡ 0
unfolding total
total-zero f g [] e = refl
total-zero f g (x ∷ xs) e = let h = e x in let more = total-zero f g xs e in omega arith

-- of a map
pub total-map : {X Y : Type 0} (f : Y → ℕ) (g : X → Y) (xs : List X) → total f (map g xs) ≡ total (λ x. f (g x)) xs
unfolding total
total-map f g [] = refl
total-map f g (x ∷ xs) = ap (λ n. f (g x) + n) (total-map f g xs)

-- of two functions that agree
pub total-same : {X : Type 0} (f g : X → ℕ) → ((x : X) → f x ≡ g x) → (xs : List X) → total f xs ≡ total g xs
total-same f g e xs = λ i. total (λ x. e x i) xs

-- of a function that gives no more
pub total-le : {X : Type 0} (f g : X → ℕ) (xs : List X) → ((x : X) → f x ≤ g x) → total f xs ≤ total g xs
unfolding total
total-le f g [] e = omega arith
total-le f g (x ∷ xs) e = let h = e x in let more = total-le f g xs e in omega arith

-- ---- an enumerated list

-- a number below the first does not occur
pub numbered-past : {X : Type 0} (i a : ℕ) (xs : List X) → i < a → total (λ (e : ℕ × X). cond (e.0 == i) 1 0) (enumerate_from a xs) ≡ 0
unfolding total
numbered-past i a [] h = refl
numbered-past i a (x ∷ xs) h =
    let more = numbered-past i (a + 1) xs (omega arith) in
    let here : cond {A = ℕ} (a == i) 1 0 ≡ 0 = cond-false (a == i) 1 0 (ne_eqb a i (omega arith)) in
    omega arith

-- a number occurs at most once
pub numbered-once : {X : Type 0} (i a : ℕ) (xs : List X) → total (λ (e : ℕ × X). cond (e.0 == i) 1 0) (enumerate_from a xs) ≤ 1
unfolding total
numbered-once i a [] = omega arith
numbered-once {X} i a (x ∷ xs) =
    let more = numbered-once i (a + 1) xs in
    let rest : ℕ = total (λ (e : ℕ × X). cond (e.0 == i) 1 0) (enumerate_from (a + 1) xs) in
    cond_both (a == i) 1 0 (λ k. k + rest ≤ 1)
    (λ t. let same = eqb-true a i t in let past : rest ≡ 0 = numbered-past i (a + 1) xs (omega arith) in omega arith) (λ _. omega arith)

-- what one element gives is at most the sum
pub total-part : {X : Type 0} (f : ℕ × X → ℕ) (a i : ℕ) (x : X) (xs : List X) → slice_get xs i ≡ Some x → f (a + i, x) ≤ total f (enumerate_from a xs)
unfolding total
total-part f a i x [] e = absurd (none≢some x e)
total-part f a zero x (y ∷ ys) e =
    let same : x ≡ y = cc in
    let z : a + 0 ≡ a = omega arith in
    let here : f (a + 0, x) ≡ f (a, y) = λ i. f (z i, same i) in
    omega arith
total-part f a (suc i) x (y ∷ ys) e =
    let more = total-part f (a + 1) i x ys e in
    let z : a + suc i ≡ a + 1 + i = omega arith in
    let here : f (a + suc i, x) ≡ f (a + 1 + i, x) = ap (λ k. f (k, x)) z in
    omega arith

-- ---- elements that pass

-- a filter that keeps what passes drops none of it
pub occurrences-kept : {X : Type 0} (p t : X → Bool) (xs : List X) → ((x : X) → p x ≡ true → t x ≡ true)
    → occurrences p (filter t xs) ≡ occurrences p xs
unfolding total
occurrences-kept p t [] h = refl
occurrences-kept p t (x ∷ xs) h =
    let more = occurrences-kept p t xs h in
    cond_both (t x) (x ∷ filter t xs) (filter t xs) (λ ys. occurrences p ys ≡ cond (p x) 1 0 + occurrences p xs)
    (λ _. ap (λ k. cond (p x) 1 0 + k) more)
    (λ out. elim (cases_Bool (p x)) [
      | inl on ↦ absurd (true≢false (sym (h x on) ∙ out))
      | inr off ↦ rw off (more ∙ omega arith)
    ])

-- an element that passes at place k
pub record PassesAt {X : Type 0} (p : X → Bool) (xs : List X) (k : ℕ) : Type 0 where
  pub item : X
  pub there : slice_get xs k ≡ Some item
  pub passes : p item ≡ true

-- something that passes stands at the first place that passes
pub first-passes : {X : Type 0} (p : X → Bool) (xs : List X) → 1 ≤ occurrences p xs → PassesAt p xs (position_or_len p xs)
unfolding total
first-passes p [] h = absurd (omega arith)
first-passes {X} p (x ∷ xs) h = elim (cases_Bool (p x)) [
  | inl t ↦ rw t (record { item = x; there = refl; passes = t })
  | inr f ↦ let rest : PassesAt p xs (position_or_len p xs) = first-passes p xs (later f h) in
      rw (f, one-add) (record { item = rest.item; there = rest.there; passes = rest.passes })
]
  where
    later : p x ≡ false → 1 ≤ cond (p x) 1 0 + occurrences p xs → 1 ≤ occurrences p xs
    later f h = let g : 1 ≤ 0 + occurrences p xs = subst (λ b. 1 ≤ cond b 1 0 + occurrences p xs) f h in omega arith

-- an element that passes counts
pub occurs : {X : Type 0} (p : X → Bool) (xs : List X) (k : ℕ) → PassesAt p xs k → 1 ≤ occurrences p xs
unfolding total
occurs p [] k h = absurd (none≢some h.item h.there)
occurs p (y ∷ ys) zero h = let there = h.there in let same : y ≡ h.item = cc in let t : p y ≡ true = ap p same ∙ h.passes in rw t (omega arith)
occurs p (y ∷ ys) (suc k) h = let more = occurs p ys k (record { item = h.item; there = h.there; passes = h.passes }) in omega arith

-- the only element that passes stands at the first place that passes
pub only-passes : {X : Type 0} (p : X → Bool) (xs : List X) (k : ℕ) → PassesAt p xs k → occurrences p xs ≤ 1 → position_or_len p xs ≡ k
unfolding total
only-passes p [] k h one = absurd (none≢some h.item h.there)
only-passes p (y ∷ ys) zero h one = let there = h.there in let same : y ≡ h.item = cc in let t : p y ≡ true = ap p same ∙ h.passes in rw t
only-passes {X} p (y ∷ ys) (suc k) h one = elim (cases_Bool (p y)) [
  | inl t ↦ absurd (twice (occurs p ys k rest) (subst (λ b. cond b 1 0 + occurrences p ys ≤ 1) t one))
  | inr f ↦ rw f
      (ap (λ n. 1 + n)
      (only-passes p ys k rest (let few : 0 + occurrences p ys ≤ 1 = subst (λ b. cond b 1 0 + occurrences p ys ≤ 1) f one in omega arith))
      ∙ omega arith)
]
  where
    rest : PassesAt p ys k
    rest = record { item = h.item; there = h.there; passes = h.passes }

    twice : {n : ℕ} → 1 ≤ n → 1 + n ≤ 1 → ⊥
    twice a b = omega arith
