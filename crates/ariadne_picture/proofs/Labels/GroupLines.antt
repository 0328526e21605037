-- The first line of a group is the least one where one of its labels starts.
use Rattle.std.proofs.Common.{◌≡◌, ℕ, zero, suc, ◌≤◌, List, [], ◌∷◌, map, Some, refl, sym, arith, inl, inr, ◌⊎◌, nat_lt, Contains, length}
use Rattle.std.specs.Prelude.{slice_get, All}
use Rattle.std.proofs.lemmas.Bool.{cond_both}
use Rattle.std.proofs.lemmas.List.Elements.{recursion_from_All}
use Rattle.std.proofs.lemmas.Option.{slice_get_read, slice_get_within, get_or_from_slice_get}
use Rattle.ariadne_picture.specs.declared.label_info.LabelInfo.{LabelInfo}
use Rattle.ariadne_picture.specs.Bars.{EndsNoEarlier}
use Rattle.ariadne_picture.specs.Groups.{least_below, group_start_line, group_end_line}
use Rattle.ariadne_picture.proofs.Lists.ListFacts.{none≢some, all-at}
use Rattle.ariadne_picture.proofs.Lists.Elements.{Has, has-first, has-later}
use Rattle.ariadne_picture.proofs.Rows.RowsThere.{starts-within, ends-within}

-- an element that is contained has a place, and the other way round
pub has-place : {X : Type 0} (xs : List X) (x : X) → Contains xs x → Has xs x
has-place xs x c = record { place = c.0; there = slice_get_read xs (length xs) c.0 x refl c.1 (sym c.2) }

pub contained : {X : Type 0} (xs : List X) (x : X) → Has xs x → Contains xs x
contained xs x h = (h.place, slice_get_within xs h.place x h.there, get_or_from_slice_get xs h.place x x h.there)

-- what a map has comes from an element
mapped-from : {X Y : Type 0} (f : X → Y) (xs : List X) (k : ℕ) (y : Y) → slice_get (map f xs) k ≡ Some y → (x : X) × Has xs x × (f x ≡ y)
mapped-from f [] k y e = absurd (none≢some y e)
mapped-from f (x ∷ xs) zero y e = let same : f x ≡ y = cc in (x, has-first x xs, same)
mapped-from f (x ∷ xs) (suc k) y e = let rest = mapped-from f xs k y e in (rest.0, has-later x xs rest.0 rest.1, rest.2)

-- the least is the bound, or one of the numbers
least-or-bound : (b : ℕ) (ns : List ℕ) → (least_below b ns ≡ b) ⊎ Has ns (least_below b ns)
unfolding least_below
least-or-bound b [] = inl refl
least-or-bound b (n ∷ ns) =
    cond_both (nat_lt n (least_below b ns)) n (least_below b ns) (λ m. (m ≡ b) ⊎ Has (n ∷ ns) m) (λ _. inr (has-first n ns))
    (λ _. elim (least-or-bound b ns) [ inl same ↦ inl same | inr h ↦ inr (has-later n ns _ h) ])

-- no label starts on an earlier line
pub starts-least : (group : List LabelInfo) (a : LabelInfo) → Contains group a → group_start_line group ≤ a.start_line
starts-least group a c =
    let h = has-place group a c in
    all-at (λ (a : LabelInfo). group_start_line group ≤ a.start_line) group h.place a h.there (starts-within group)

-- and one starts there
pub start-reached : (group : List LabelInfo) (a : LabelInfo) → Contains group a → All EndsNoEarlier group
    → (b : LabelInfo) × Contains group b × (b.start_line ≡ group_start_line group)
unfolding group_start_line
start-reached group a c rises = elim (least-or-bound (group_end_line group) (map (λ (a : LabelInfo). a.start_line) group)) [
  | inr h ↦
      let b = mapped-from (λ (a : LabelInfo). a.start_line) group h.place _ h.there in (b.0, contained group b.0 b.1, b.2)
  | inl bound ↦
      let h = has-place group a c in
      let low = starts-least group a c in
      let up = all-at EndsNoEarlier group h.place a h.there (recursion_from_All EndsNoEarlier group rises) in
      let high = all-at (λ (a : LabelInfo). a.end_line ≤ group_end_line group) group h.place a h.there (ends-within group) in
      (a, c, omega (arith, low, up, high, bound))
]
