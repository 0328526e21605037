-- Facts on lists that are joined from parts, and on the parts by number.
use Rattle.std.proofs.Common.{slice_index, ◌≡◌, ℕ, zero, suc, ◌+◌, Bool, List, [], ◌∷◌, ◌++◌, length, map, filter, refl, sym, ap, ◌∙◌, arith, append_assoc}
use Rattle.std.proofs.Common.{zero-add, add-zero}
use Rattle.std.proofs.lemmas.List.{append-nil, map-append}
use Rattle.std.proofs.lemmas.List.Elements.{filter-append}
use Rattle.std.specs.List.{AllByRecursion, range_with_len, enumerate_from}
use Rattle.ariadne_base.specs.Locations.{upto}
use Rattle.ariadne_picture.specs.Lists.{joined}

-- two lists joined one after the other
pub joined-append : {X Y : Type 0} (f : X → List Y) (xs ys : List X) → joined f (xs ++ ys) ≡ joined f xs ++ joined f ys
unfolding joined
joined-append f [] ys = refl
joined-append f (x ∷ xs) ys = ap (λ t. f x ++ t) (joined-append f xs ys) ∙ sym (append_assoc (f x) (joined f xs) (joined f ys))

-- a single part
pub joined-one : {X Y : Type 0} (f : X → List Y) (x : X) → joined f (x ∷ []) ≡ f x
unfolding joined
joined-one f x = append-nil (f x)

-- the parts of a mapped list
pub joined-map : {X Y Z : Type 0} (f : Y → List Z) (g : X → Y) (xs : List X) → joined f (map g xs) ≡ joined (λ x. f (g x)) xs
unfolding joined
joined-map f g [] = refl
joined-map f g (x ∷ xs) = ap (λ t. f (g x) ++ t) (joined-map f g xs)

-- a mapped list of parts
pub map-joined : {X Y Z : Type 0} (f : Y → Z) (g : X → List Y) (xs : List X) → map f (joined g xs) ≡ joined (λ x. map f (g x)) xs
unfolding joined
map-joined f g [] = refl
map-joined f g (x ∷ xs) = map-append f (g x) (joined g xs) ∙ ap (λ t. map f (g x) ++ t) (map-joined f g xs)

-- a filter of parts
pub filter-joined : {X Y : Type 0} (test : Y → Bool) (f : X → List Y) (xs : List X) → filter test (joined f xs) ≡ joined (λ x. filter test (f x)) xs
unfolding joined
filter-joined test f [] = refl
filter-joined test f (x ∷ xs) = filter-append test (f x) (joined f xs) ∙ ap (λ t. filter test (f x) ++ t) (filter-joined test f xs)

-- parts that are joined themselves
pub joined-joined : {X Y Z : Type 0} (f : Y → List Z) (g : X → List Y) (xs : List X) → joined f (joined g xs) ≡ joined (λ x. joined f (g x)) xs
unfolding joined
joined-joined f g [] = refl
joined-joined f g (x ∷ xs) = joined-append f (g x) (joined g xs) ∙ ap (λ t. joined f (g x) ++ t) (joined-joined f g xs)

-- two functions that give the same parts
pub joined-same : {X Y : Type 0} (f g : X → List Y) → ((x : X) → f x ≡ g x) → (xs : List X) → joined f xs ≡ joined g xs
unfolding joined
joined-same f g e [] = refl
joined-same f g e (x ∷ xs) = λ i. e x i ++ joined-same f g e xs i

-- the numbers from a on, one more
pub range_more : (a n : ℕ) → range_with_len a (n + 1) ≡ range_with_len a n ++ (a + n) ∷ []
range_more a zero = ap (λ t. t ∷ []) (sym (add-zero a))
range_more a (suc n) =
    let e : suc n + 1 ≡ suc (n + 1) = omega arith in
    let d : (a + 1) + n ≡ a + suc n = omega arith in
    ap (range_with_len a) e ∙ ap (λ t. a ∷ t) (range_more (a + 1) n) ∙ ap (λ k. a ∷ (range_with_len (a + 1) n ++ k ∷ [])) d

-- the parts below n + 1 are those below n and part n
pub joined-upto_more : {X : Type 0} (f : ℕ → List X) (n : ℕ) → joined f (upto (n + 1)) ≡ joined f (upto n) ++ f n
joined-upto_more f n =
    ap (joined f) (range_more 0 n) ∙ joined-append f (upto n) ((0 + n) ∷ [])
    ∙ ap (λ t. joined f (upto n) ++ t) (joined-one f (0 + n) ∙ ap f (zero-add n))

-- two functions that agree at the elements that P holds of
pub joined-enumerated_same : {X Y : Type 0} (P : X → Type 0) (f g : ℕ × X → List Y) → ((k : ℕ) (x : X) → P x → f (k, x) ≡ g (k, x))
    → (n : ℕ) (xs : List X) → AllByRecursion P xs → joined f (enumerate_from n xs) ≡ joined g (enumerate_from n xs)
unfolding joined
joined-enumerated_same P f g e n [] a = refl
joined-enumerated_same P f g e n (x ∷ xs) a = λ i. e n x a.0 i ++ joined-enumerated_same P f g e (n + 1) xs a.1 i

-- what the numbers of a list give by its elements, its numbered elements give
pub joined-numbered : {Y : Type 0} (f : ℕ × ℕ → List Y) (whole : List ℕ) (a : ℕ) (xs : List ℕ)
    → ((k : ℕ) → slice_index xs k ≡ slice_index whole (a + k))
    → joined (λ (k : ℕ). f (k, slice_index whole k)) (range_with_len a (length xs)) ≡ joined f (enumerate_from a xs)
unfolding joined
joined-numbered f whole a [] h = refl
joined-numbered f whole a (x ∷ xs) h =
    let z : a + 0 ≡ a = omega arith in
    let here : slice_index whole a ≡ x = ap (slice_index whole) (sym z) ∙ sym (h 0) in
    let later : (k : ℕ) → slice_index xs k ≡ slice_index whole (a + 1 + k) =
    λ k. let e : a + suc k ≡ a + 1 + k = omega arith in h (suc k) ∙ ap (slice_index whole) e in
    λ i. f (a, here i) ++ joined-numbered f whole (a + 1) xs later i
