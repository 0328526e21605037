-- Lists of which one item is asked at a time, and lists that grow by one.
use Rattle.std.proofs.Common.{◌≡◌, ℕ, ◌+◌, ◌-◌, ◌<◌, ◌≤◌, List, [], ◌∷◌, ◌++◌, drop, map, min, length, take, get_or, set, sym, ◌∙◌, ap, ap₂, arith}
use Rattle.std.proofs.lemmas.List.{drop-map, drop_min, get_or-map, length-drop, length-map, map-append, map-set, set-get_or, take_all, take_more}

-- the items are seen as before, where one is changed that is seen as it was
module _ {A B : Type 0} (seen : A → B) (all : List A) (i : ℕ) (old : A) (within : i < length all) (read : old ≡ get_or all i old) where
  pub seen_at : (d : B) → get_or (map seen all) i d ≡ seen old
  seen_at d = get_or-map seen all i old d within ∙ ap seen (sym read)

  pub seen_stay : (new : A) → seen new ≡ seen old → map seen (set all i new) ≡ map seen all
  seen_stay new same =
      map-set seen all i new ∙ ap (set (map seen all) i) (same ∙ sym (seen_at (seen old))) ∙ set-get_or (map seen all) i (seen old)

-- one more is seen as one more of others
pub one_more : {A B C : Type 0} (f : A → C) (g : B → C) (made : List A) (new : A) (all : List B) (i : ℕ) (old : B) → i < length all
    → old ≡ get_or all i old → map f made ≡ map g (take i all) → f new ≡ g old → map f (made ++ new ∷ []) ≡ map g (take (i + 1) all)
one_more f g made new all i old within read before same =
    map-append f made (new ∷ []) ∙ ap₂ (λ xs x. xs ++ x ∷ []) before (same ∙ ap g read)
    ∙ sym (ap (map g) (take_more all i old within) ∙ map-append g (take i all) (get_or all i old ∷ []))

-- the rest is all that is behind a place
pub rest_is : {A : Type 0} (xs : List A) (at : ℕ) → take (length xs - at) (drop at xs) ≡ drop at xs
rest_is xs at = take_all (length xs - at) (drop at xs) (omega (arith, length-drop at xs))

-- those behind a place, which may be past the end
pub behind_place : {A B : Type 0} (f : A → B) (xs all : List A) (place at : ℕ) → xs ≡ all → at ≡ min place (length xs)
    → map f (take (length xs - at) (drop at xs)) ≡ drop place (map f all)
behind_place f xs all place at same is =
    ap (map f) (rest_is xs at) ∙ ap (λ (n : ℕ). map f (drop n xs)) is ∙ ap (map f) (drop_min place xs ∙ ap (drop place) same) ∙ sym (drop-map f place all)

-- what stands there is read as before, in those of others that look alike
pub read_alike : {A B : Type 0} (seen : A → B) (all : List A) (others : List B) (i : ℕ) (old : A) → i < length all → old ≡ get_or all i old
    → map seen all ≡ others → seen old ≡ get_or others i (seen old)
read_alike seen all others i old within read alike =
    sym (ap (λ (xs : List _). get_or xs i (seen old)) (sym alike) ∙ seen_at seen all i old within read (seen old))

-- there are as many others
pub within_alike : {A B : Type 0} (seen : A → B) (all : List A) (others : List B) (i : ℕ) → i < length all → map seen all ≡ others → i < length others
within_alike seen all others i within alike = omega (arith, ap length alike, length-map all seen)

pub beyond_alike : {A B : Type 0} (seen : A → B) (all : List A) (others : List B) (i : ℕ) → length all ≤ i → map seen all ≡ others → length others ≤ i
beyond_alike seen all others i beyond alike = omega (arith, ap length alike, length-map all seen)
