-- Facts on lists: what holds of each element of a list that is made of others, how many elements a sort or a filter leaves, and lists whose elements
-- each stand before the later ones.
use Rattle.std.proofs.Common.{◌≡◌, ℕ, zero, suc, ◌+◌, Bool, true, false, cond, List, [], ◌∷◌, ◌++◌, length, Some, None, map, refl, sym, ap, ◌∙◌}
use Rattle.std.proofs.Common.{subst, arith, AllPairs, replicate}
use Rattle.std.specs.Prelude.{slice_get, filter}
use Rattle.std.specs.List.{AllByRecursion, enumerate_from, best_of}
use Rattle.std.proofs.lemmas.Bool.{cond_both, cond-true, cond-false}
use Rattle.std.proofs.lemmas.List.Elements.{All-from_recursion}
use Rattle.std.proofs.lemmas.List.Kept.{AllPairs-cons}
use Rattle.ariadne_picture.specs.Lists.{inserted, in_order, joined, best}

-- ---- each element

-- what follows for each element follows for all
pub all-weaker : {X : Type 0} (P Q : X → Type 0) (xs : List X) → ((x : X) → P x → Q x) → AllByRecursion P xs → AllByRecursion Q xs
all-weaker P Q [] f a = tt
all-weaker P Q (x ∷ xs) f a = (f x a.0, all-weaker P Q xs f a.1)

-- two lists joined
pub all-append : {X : Type 0} (P : X → Type 0) (xs ys : List X) → AllByRecursion P xs → AllByRecursion P ys → AllByRecursion P (xs ++ ys)
all-append P [] ys a b = b
all-append P (x ∷ xs) ys a b = (a.0, all-append P xs ys a.1 b)

-- lists that a function gives, joined
pub all-joined : {X Y : Type 0} (P : Y → Type 0) (Q : X → Type 0) (f : X → List Y) (xs : List X) → ((x : X) → Q x → AllByRecursion P (f x))
    → AllByRecursion Q xs → AllByRecursion P (joined f xs)
unfolding joined
all-joined P Q f [] g a = tt
all-joined P Q f (x ∷ xs) g a = all-append P (f x) (joined f xs) (g x a.0) (all-joined P Q f xs g a.1)

-- a filter
pub all-filter : {X : Type 0} (P : X → Type 0) (t : X → Bool) (xs : List X) → AllByRecursion P xs → AllByRecursion P (filter t xs)
all-filter P t [] a = tt
all-filter P t (x ∷ xs) a =
    cond_both (t x) (x ∷ filter t xs) (filter t xs) (AllByRecursion P) (λ _. (a.0, all-filter P t xs a.1)) (λ _. all-filter P t xs a.1)

-- each element that a filter keeps passes its test
pub all-kept : {X : Type 0} (t : X → Bool) (xs : List X) → AllByRecursion (λ x. t x ≡ true) (filter t xs)
all-kept t [] = tt
all-kept t (x ∷ xs) =
    cond_both (t x) (x ∷ filter t xs) (filter t xs) (AllByRecursion (λ x. t x ≡ true)) (λ h. (h, all-kept t xs)) (λ _. all-kept t xs)

-- an element inserted among others
pub all-inserted : {X : Type 0} (P : X → Type 0) (less : X → X → Bool) (x : X) (ys : List X) → P x → AllByRecursion P ys
    → AllByRecursion P (inserted less x ys)
unfolding inserted
all-inserted P less x [] p a = (p, tt)
all-inserted P less x (y ∷ ys) p a =
    cond_both (less y x) (y ∷ inserted less x ys) (x ∷ y ∷ ys) (AllByRecursion P) (λ _. (a.0, all-inserted P less x ys p a.1)) (λ _. (p, a))

-- a sort
pub all-in_order : {X : Type 0} (P : X → Type 0) (less : X → X → Bool) (xs : List X) → AllByRecursion P xs → AllByRecursion P (in_order less xs)
unfolding in_order
all-in_order P less [] a = tt
all-in_order P less (x ∷ xs) a = all-inserted P less x (in_order less xs) a.0 (all-in_order P less xs a.1)

-- a map
pub all-map : {X Y : Type 0} (P : Y → Type 0) (f : X → Y) (xs : List X) → AllByRecursion (λ x. P (f x)) xs → AllByRecursion P (map f xs)
all-map P f [] a = tt
all-map P f (x ∷ xs) a = (a.0, all-map P f xs a.1)

-- what holds of everything holds of each element
pub all-every : {X : Type 0} (P : X → Type 0) → ((x : X) → P x) → (xs : List X) → AllByRecursion P xs
all-every P f [] = tt
all-every P f (x ∷ xs) = (f x, all-every P f xs)

-- something that a list has is not nothing
pub none≢some : {X : Type 0} (x : X) → None ≡ Some x → ⊥
none≢some x e = cc

-- the element at a place
pub all-at : {X : Type 0} (P : X → Type 0) (xs : List X) (k : ℕ) (x : X) → slice_get xs k ≡ Some x → AllByRecursion P xs → P x
all-at P [] k x e a = absurd (none≢some x e)
all-at P (y ∷ ys) zero x e a = let same : y ≡ x = cc in subst P same a.0
all-at P (y ∷ ys) (suc k) x e a = all-at P ys k x e a.1

-- the best of elements and one more
pub all-best_of : {X : Type 0} (P : X → Type 0) (beats : X → X → Bool) (b : X) (xs : List X) → P b → AllByRecursion P xs → P (best_of beats b xs)
all-best_of P beats b [] p a = p
all-best_of P beats b (x ∷ xs) p a = all-best_of P beats (cond (beats x b) x b) xs (cond_both (beats x b) x b P (λ _. a.0) (λ _. p)) a.1

-- what holds of each element holds of the best
pub all-best : {X : Type 0} (P : X → Type 0) (beats : X → X → Bool) (xs : List X) (b : X) → best beats xs ≡ Some b → AllByRecursion P xs → P b
unfolding best
all-best P beats [] b e a = absurd (none≢some b e)
all-best P beats (x ∷ xs) b e a = let same : best_of beats x xs ≡ b = cc in subst P same (all-best_of P beats x xs a.0 a.1)

-- the numbers of an enumerated list are its places
pub all-enumerated : {X : Type 0} (whole : List X) (a : ℕ) (xs : List X) → ((k : ℕ) → slice_get xs k ≡ slice_get whole (a + k))
    → AllByRecursion (λ e. slice_get whole e.0 ≡ Some e.1) (enumerate_from a xs)
all-enumerated whole a [] g = tt
all-enumerated whole a (x ∷ xs) g =
    let z : a + 0 ≡ a = omega arith in (
      sym (g 0 ∙ ap (slice_get whole) z),
      all-enumerated whole (a + 1) xs
          (λ k. let e : a + suc k ≡ a + 1 + k = omega arith in g (suc k) ∙ ap (slice_get whole) e),
    )

-- ---- how many elements

-- an element inserted among others is one more
length-inserted : {X : Type 0} (less : X → X → Bool) (x : X) (ys : List X) → length (inserted less x ys) ≡ suc (length ys)
unfolding inserted
length-inserted less x [] = refl
length-inserted less x (y ∷ ys) =
    cond_both (less y x) (y ∷ inserted less x ys) (x ∷ y ∷ ys) (λ zs. length zs ≡ suc (suc (length ys))) (λ _. ap suc (length-inserted less x ys))
    (λ _. refl)

-- a sort has as many
pub length-in_order : {X : Type 0} (less : X → X → Bool) (xs : List X) → length (in_order less xs) ≡ length xs
unfolding in_order
length-in_order less [] = refl
length-in_order less (x ∷ xs) = length-inserted less x (in_order less xs) ∙ ap suc (length-in_order less xs)

-- a filter that every element passes
pub filter-all : {X : Type 0} (test : X → Bool) (xs : List X) → AllByRecursion (λ x. test x ≡ true) xs → filter test xs ≡ xs
filter-all test [] a = refl
filter-all test (x ∷ xs) a = cond-true (test x) (x ∷ filter test xs) (filter test xs) a.0 ∙ ap (λ t. x ∷ t) (filter-all test xs a.1)

-- a filter that no element passes
pub filter-none : {X : Type 0} (test : X → Bool) (xs : List X) → AllByRecursion (λ x. test x ≡ false) xs → filter test xs ≡ []
filter-none test [] a = refl
filter-none test (x ∷ xs) a = cond-false (test x) (x ∷ filter test xs) (filter test xs) a.0 ∙ filter-none test xs a.1

-- a map of equal elements
pub map-replicate : {X Y : Type 0} (f : X → Y) (n : ℕ) (x : X) → map f (replicate n x) ≡ replicate n (f x)
map-replicate f zero x = refl
map-replicate f (suc n) x = ap (λ t. f x ∷ t) (map-replicate f n x)

-- ---- each element and each later one

-- R holds of each element and each later one
abbrev pub Increasing : {X : Type 0} → (X → X → Type 0) → List X → Type 0
Increasing R [] = Unit {0}
Increasing R (x ∷ xs) = AllByRecursion (R x) xs × Increasing R xs

-- two lists whose elements stand so join to one where each of the first stands before each of the second
pub increasing-append : {X : Type 0} (R : X → X → Type 0) (P Q : X → Type 0) (xs ys : List X) → ((x y : X) → P x → Q y → R x y) → AllByRecursion P xs
    → AllByRecursion Q ys → Increasing R xs → Increasing R ys → Increasing R (xs ++ ys)
increasing-append R P Q [] ys f p q i j = j
increasing-append R P Q (x ∷ xs) ys f p q i j =
    (all-append (R x) xs ys i.0 (all-weaker Q (R x) ys (λ y. f x y p.0) q), increasing-append R P Q xs ys f p.1 q i.1 j)

-- the same fact by places
pub increasing-pairs : {X : Type 0} (R : X → X → Type 0) (xs : List X) → Increasing R xs → AllPairs R xs
increasing-pairs R [] i = λ j k d h less. absurd (omega arith)
increasing-pairs R (x ∷ xs) i = AllPairs-cons R x xs (All-from_recursion (R x) xs i.0) (increasing-pairs R xs i.1)

-- an element that passes a filter's test has what each such element has
pub all-filtered : {X : Type 0} (P : X → Type 0) (test : X → Bool) (xs : List X)
    → AllByRecursion (λ x. test x ≡ true → P x) xs → AllByRecursion P (filter test xs)
all-filtered P test [] a = tt
all-filtered P test (x ∷ xs) a =
    cond_both (test x) _ _ (AllByRecursion P) (λ e. (a.0 e, all-filtered P test xs a.1)) (λ _. all-filtered P test xs a.1)
