-- Sources by their numbers.
use Rattle.std.proofs.Common.{◌≡◌, ap, refl, sym, subst, ◌∙◌, arith, not-suc-le-zero, get_or, take}
use Rattle.std.specs.Prelude.{ℕ, zero, suc, ◌+◌, ◌<◌, ◌≤◌, nat_eq, List, [], ◌∷◌, ◌++◌, length, map, Some, None, IsSome, option_map, slice_get}
use Rattle.std.specs.List.{enumerate_from}
use Rattle.std.proofs.lemmas.Bool.{eq-eqb, ne_eqb}
use Rattle.std.proofs.lemmas.Option.{slice_get-map}
use Rattle.std.proofs.lemmas.List.{take_more}
use Rattle.ariadne.specs.Cache.{held}
use Rattle.ariadne.specs.Listing.{Listing}
use Rattle.ariadne_calls.specs.CallSources.{contents_of, AreNamed, IsNamed}
use Rattle.ariadne_calls.specs.declared.given.GivenSource.{GivenSource}
use Rattle.ariadne_calls.specs.declared.sources.Named.{Named}

-- the element at a number is held under it
found : (k n : ℕ) (xs : List Listing) → held nat_eq (enumerate_from k xs) (k + n) ≡ slice_get xs n
found k n [] = refl
found k zero (x ∷ xs) = rw (eq-eqb (k + zero) k (omega arith)) refl
found k (suc n) (x ∷ xs) =
    let other = ne_eqb (k + suc n) k (λ e. omega (arith, e)) in
    let next : k + suc n ≡ (k + 1) + n = omega arith in
    rw other (ap (λ m. held nat_eq (enumerate_from (k + 1) xs) m) next ∙ found (k + 1) n xs)

-- so a source is held under its number
pub held_at : (items : List Named) (id : ℕ) → held nat_eq (contents_of items) id ≡ option_map (λ n. n.source) (slice_get items id)
held_at items id =
    let whole : id ≡ 0 + id = omega arith in
    ap (λ m. held nat_eq (contents_of items) m) whole ∙ found 0 id (map (λ n. n.source) items) ∙ slice_get-map (λ n. n.source) items id

-- an element stands at each number below the length
within : {X Y : Type 0} (f : X → Y) (xs : List X) (n : ℕ) → n < length xs → IsSome (option_map f (slice_get xs n))
within f [] n h = absurd (not-suc-le-zero h)
within f (x ∷ xs) zero h = refl
within f (x ∷ xs) (suc n) h = within f xs n (omega (arith, h))

-- and none at another
past : {X Y : Type 0} (f : X → Y) (xs : List X) (n : ℕ) → length xs ≤ n → option_map f (slice_get xs n) ≡ None
past f [] n h = refl
past f (x ∷ xs) zero h = absurd (not-suc-le-zero h)
past f (x ∷ xs) (suc n) h = past f xs n (omega (arith, h))

-- a source is held under each number below their count
pub is_held : (items : List Named) (id : ℕ) → id < length items → IsSome (held nat_eq (contents_of items) id)
is_held items id h = subst IsSome (sym (held_at items id)) (within (λ n. n.source) items id h)

pub is_not_held : (items : List Named) (id : ℕ) → length items ≤ id → held nat_eq (contents_of items) id ≡ None
is_not_held items id h = held_at items id ∙ past (λ n. n.source) items id h

-- one item more
pub named_more : (sources : List GivenSource) (items : List Named) (s : GivenSource) (n : Named) → AreNamed sources items → IsNamed s n
    → AreNamed (sources ++ s ∷ []) (items ++ n ∷ [])
named_more [] [] s n a h = (h, tt)
named_more (t ∷ sources) (m ∷ items) s n a h = (a.0, named_more sources items s n a.1 h)
named_more [] (m ∷ items) s n a h = elim a [ ]
named_more (t ∷ sources) [] s n a h = elim a [ ]

-- what stands at a place
pub element : {X : Type 0} (xs : List X) (k : ℕ) (x : X) → k < length xs → x ≡ get_or xs k x → slice_get xs k ≡ Some x
element [] k x h e = absurd (not-suc-le-zero h)
element (y ∷ xs) zero x h e = ap Some (sym e)
element (y ∷ xs) (suc k) x h e = element xs k x (omega (arith, h)) e

-- is held there
pub found_at : (items : List Named) (id : ℕ) (n : Named) → id < length items → n ≡ get_or items id n
    → Some n.source ≡ held nat_eq (contents_of items) id
found_at items id n h e = sym (held_at items id ∙ ap (option_map (λ n. n.source)) (element items id n h e))

-- one source more is read
pub more_named : (sources : List GivenSource) (items : List Named) (i : ℕ) (d : GivenSource) (n : Named) → i < length sources
    → AreNamed (take i sources) items → IsNamed (get_or sources i d) n → AreNamed (take (i + 1) sources) (items ++ n ∷ [])
more_named sources items i d n h a is =
    rw (take_more sources i d h) (named_more (take i sources) items (get_or sources i d) n a is)
