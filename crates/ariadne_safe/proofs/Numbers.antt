-- Sources by their numbers: what is held under a number, what it is called, and that it hides nothing.
use Rattle.std.proofs.Common.{◌≡◌, ap, refl, sym, subst, ◌∙◌, arith, not-suc-le-zero, get_or}
use Rattle.std.specs.Prelude.{ℕ, zero, suc, ◌+◌, ◌<◌, ◌≤◌, true, nat_eq, List, [], ◌∷◌, length, map, Option, Some, None, IsSome, IfSome}
use Rattle.std.specs.Prelude.{option_map, option_and_then, slice_get}
use Rattle.std.specs.List.{enumerate_from}
use Rattle.std.proofs.lemmas.Bool.{eq-eqb, ne_eqb}
use Rattle.std.proofs.lemmas.Option.{slice_get-map}
use Rattle.ariadne.specs.Cache.{held}
use Rattle.ariadne.specs.Listing.{Listing}
use Rattle.ariadne_safe.specs.declared.sources.SafeSource.{SafeSource}
use Rattle.ariadne_safe.specs.declared.text.TextKind.TheVariants.{Lines}
use Rattle.ariadne_safe.specs.Visible.{is_shown}
use Rattle.ariadne_safe.specs.Pictures.{is_shown_if_any}
use Rattle.ariadne_safe.specs.Sources.{numbered, name_of, name_at}

-- the element at a number is held under it
found : (k n : ℕ) (xs : List Listing) → held nat_eq (enumerate_from k xs) (k + n) ≡ slice_get xs n
found k n [] = refl
found k zero (x ∷ xs) = rw (eq-eqb (k + zero) k (omega arith)) refl
found k (suc n) (x ∷ xs) =
    let other = ne_eqb (k + suc n) k (λ e. omega (arith, e)) in
    let next : k + suc n ≡ (k + 1) + n = omega arith in
    rw other (ap (λ m. held nat_eq (enumerate_from (k + 1) xs) m) next ∙ found (k + 1) n xs)

-- so a source is held under its number
pub held_at : (items : List SafeSource) (id : ℕ) → held nat_eq (numbered items) id ≡ option_map (λ (s : SafeSource). s.source) (slice_get items id)
held_at items id =
    let whole : id ≡ 0 + id = omega arith in
    ap (λ m. held nat_eq (numbered items) m) whole ∙ found 0 id (map (λ (s : SafeSource). s.source) items)
    ∙ slice_get-map (λ (s : SafeSource). s.source) items id

-- an element stands at each number below the length
within : {X Y : Type 0} (f : X → Y) (xs : List X) (n : ℕ) → n < length xs → IsSome (option_map f (slice_get xs n))
within f [] n h = absurd (not-suc-le-zero h)
within f (x ∷ xs) zero h = refl
within f (x ∷ xs) (suc n) h = within f xs n (omega (arith, h))

-- and none at another
past : {X : Type 0} (xs : List X) (n : ℕ) → length xs ≤ n → slice_get xs n ≡ None
past [] n h = refl
past (x ∷ xs) zero h = absurd (not-suc-le-zero h)
past (x ∷ xs) (suc n) h = past xs n (omega (arith, h))

-- a source is held under each number below their count
pub is_held : (items : List SafeSource) (id : ℕ) → id < length items → IsSome (held nat_eq (numbered items) id)
is_held items id h = subst IsSome (sym (held_at items id)) (within (λ (s : SafeSource). s.source) items id h)

pub is_not_held : (items : List SafeSource) (id : ℕ) → length items ≤ id → held nat_eq (numbered items) id ≡ None
is_not_held items id h = held_at items id ∙ ap (option_map (λ (s : SafeSource). s.source)) (past items id h)

-- what stands at a place
element : {X : Type 0} (xs : List X) (k : ℕ) (x : X) → k < length xs → x ≡ get_or xs k x → slice_get xs k ≡ Some x
element [] k x h e = absurd (not-suc-le-zero h)
element (y ∷ xs) zero x h e = ap Some (sym e)
element (y ∷ xs) (suc k) x h e = element xs k x (omega (arith, h)) e

-- is held there, and has its name
pub found_at : (items : List SafeSource) (id : ℕ) (s : SafeSource) → id < length items → s ≡ get_or items id s
    → Some s.source ≡ held nat_eq (numbered items) id
found_at items id s h e = sym (held_at items id ∙ ap (option_map (λ (s : SafeSource). s.source)) (element items id s h e))

pub named_at : (items : List SafeSource) (id : ℕ) (s : SafeSource) → id < length items → s ≡ get_or items id s
    → name_of s ≡ name_at items id
named_at items id s h e = sym (ap (option_and_then name_of) (element items id s h e))

pub not_named : (items : List SafeSource) (id : ℕ) → length items ≤ id → name_at items id ≡ None
not_named items id h = ap (option_and_then name_of) (past items id h)

-- ---- what hides nothing

-- no name does
pub names_are_shown : (items : List SafeSource) (q : ℕ) → is_shown_if_any (name_at items q) ≡ true
names_are_shown [] q = refl
names_are_shown (s ∷ items) zero = s.name_is_shown
names_are_shown (s ∷ items) (suc q) = names_are_shown items q

-- and no source
texts_are_shown : (o : Option SafeSource) → IfSome (option_map (λ (s : SafeSource). s.source) o) (λ source. is_shown Lines source.text ≡ true)
texts_are_shown None = tt
texts_are_shown (Some s) = s.text_is_shown

pub sources_are_shown : (items : List SafeSource) (q : ℕ) → IfSome (held nat_eq (numbered items) q) (λ source. is_shown Lines source.text ≡ true)
sources_are_shown items q =
    subst (λ o. IfSome o (λ source. is_shown Lines source.text ≡ true)) (sym (held_at items q)) (texts_are_shown (slice_get items q))
