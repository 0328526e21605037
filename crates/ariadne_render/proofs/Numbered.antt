-- Lists of what elements give with their numbers: what stands under each number, and what changes where one element is set.
use Rattle.std.proofs.Common.{◌≡◌, ◌≢◌, ℕ, suc, ◌+◌, List, [], ◌∷◌, map, length, replicate, Some, refl, sym, ap, ◌∙◌, arith}
use Rattle.std.proofs.Common.{inl, inr}
use Rattle.std.specs.Prelude.{slice_get, slice_set, slice_index_or, option_map}
use Rattle.std.specs.List.{AllByRecursion, enumerate_from}
use Rattle.std.proofs.lemmas.Bool.{cases_eq}
use Rattle.std.proofs.lemmas.List.{length-map, length-set, get_or-set_other, same_lists}
use Rattle.std.proofs.lemmas.Grind.{get_or-set_at}
use Rattle.std.proofs.lemmas.Option.{slice_get-map, get_or_from_slice_get, slice_get_cases, slice_get_within}
use Rattle.ariadne_picture.specs.Lists.{mapped_numbered}
use Rattle.ariadne_picture.proofs.Rows.RowsThere.{enumerated-at}

-- a list with numbers is as long as without
length-enumerated : {X : Type 0} (k : ℕ) (xs : List X) → length (enumerate_from k xs) ≡ length xs
length-enumerated k [] = refl
length-enumerated k (x ∷ xs) = ap suc (length-enumerated (k + 1) xs)

-- so is what its elements give
pub length-numbered : {X Y : Type 0} (f : ℕ → X → Y) (xs : List X) → length (mapped_numbered f xs) ≡ length xs
length-numbered f xs = length-map (enumerate_from 0 xs) (λ e. f e.0 e.1) ∙ length-enumerated 0 xs

-- under each number stands what the element of that number gives
pub numbered-at : {X Y : Type 0} (f : ℕ → X → Y) (xs : List X) (i : ℕ) (x : X) (d : Y) → slice_get xs i ≡ Some x
    → slice_index_or (mapped_numbered f xs) i d ≡ f i x
numbered-at f xs i x d e =
    let z : 0 + i ≡ i = omega arith in
    get_or_from_slice_get (mapped_numbered f xs) i (f i x) d
    (slice_get-map (λ e. f e.0 e.1) (enumerate_from 0 xs) i ∙ ap (option_map (λ e. f e.0 e.1)) (enumerated-at 0 i xs x e) ∙ ap (λ k. Some (f k x)) z)

-- elements that give the same whatever their numbers
pub numbered-from_map : {X Y : Type 0} (f : X → Y) (xs : List X) → map f xs ≡ mapped_numbered (λ i. f) xs
numbered-from_map {X} {Y} f xs = from 0 xs
  where
    from : (k : ℕ) (xs : List X) → map f xs ≡ map (λ (e : ℕ × X). f e.1) (enumerate_from k xs)
    from k [] = refl
    from k (x ∷ xs) = ap (λ ys. f x ∷ ys) (from (k + 1) xs)

-- a list that has under each number what the element of that number gives
pub numbered-is : {X Y : Type 0} (f : ℕ → X → Y) (xs : List X) (ys : List Y) → length ys ≡ length xs
    → ((i : ℕ) (x : X) (d : Y) → slice_get xs i ≡ Some x → slice_index_or ys i d ≡ f i x) → ys ≡ mapped_numbered f xs
numbered-is {X} {Y} f xs ys n each =
    same_lists ys (mapped_numbered f xs) (n ∙ sym (length-numbered f xs))
    (λ i d less. elim (slice_get_cases xs i).1 [
      | inl h ↦ each i h.0 d h.2 ∙ sym (numbered-at f xs i h.0 d h.2)
      | inr h ↦ let past = h.0 in absurd (omega arith)
    ])

-- two functions that give the same for each element with its number
pub numbered-same : {X Y : Type 0} (f g : ℕ → X → Y) (xs : List X) → ((i : ℕ) (x : X) → slice_get xs i ≡ Some x → f i x ≡ g i x)
    → mapped_numbered f xs ≡ mapped_numbered g xs
numbered-same f g xs same =
    numbered-is g xs (mapped_numbered f xs) (length-numbered f xs) (λ i x d e. numbered-at f xs i x d e ∙ same i x e)

-- or for each but that of number k, which is set to what the second gives
pub numbered-set : {X Y : Type 0} (f g : ℕ → X → Y) (xs : List X) (k : ℕ) (y : Y)
    → ((i : ℕ) (x : X) → slice_get xs i ≡ Some x → i ≢ k → f i x ≡ g i x) → ((i : ℕ) (x : X) → slice_get xs i ≡ Some x → i ≡ k → y ≡ g i x)
    → slice_set (mapped_numbered f xs) k y ≡ mapped_numbered g xs
numbered-set f g xs k y same here =
    let n = length-numbered f xs in
    numbered-is g xs (slice_set (mapped_numbered f xs) k y) (length-set (mapped_numbered f xs) k y ∙ n)
    (λ i x d e. elim (cases_eq i k) [
      | inl at ↦
          let within = slice_get_within xs i x e in
          get_or-set_at (mapped_numbered f xs) k i y d at (omega arith) ∙ here i x e at
      | inr off ↦ get_or-set_other (mapped_numbered f xs) k i y d off ∙ numbered-at f xs i x d e ∙ same i x e off
    ])

-- elements that all give y
pub map-constant : {X Y : Type 0} (f : X → Y) (y : Y) (xs : List X) → AllByRecursion (λ x. f x ≡ y) xs → replicate (length xs) y ≡ map f xs
map-constant f y [] a = refl
map-constant f y (x ∷ xs) a = ap (λ z. z ∷ replicate (length xs) y) (sym a.0) ∙ ap (λ ys. f x ∷ ys) (map-constant f y xs a.1)
