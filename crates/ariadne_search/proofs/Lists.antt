-- Folders above a path, and a folder that is left.
use Rattle.std.proofs.Common.{◌≡◌, ◌∙◌, ap, append_assoc, append-nil, arith, sym, refl, inl, inr, ℕ, suc, ◌+◌, ◌-◌, ◌<◌, ◌≤◌, Bool, true, false, cond, List, [], ◌∷◌, ◌++◌, length, map}
use Rattle.std.specs.Prelude.{Option, Some, None}
use Rattle.std.specs.List.{position, position_or_len, remove}
use Rattle.std.specs.Option.{option_to_list}
use Rattle.std.specs.Set.{remove_key}
use Rattle.std.proofs.lemmas.Bool.{cases_Bool}
use Rattle.std.proofs.lemmas.Bool.Decides.{nat_tests}
use Rattle.std.proofs.lemmas.Option.{none-some, same_Some}
use Rattle.ariadne_search.specs.Search.{above, parent_of}

-- ---- above

above_suc : (n : ℕ) (path : Option (List ℕ)) → above (suc n) path ≡ option_to_list (parent_of path) ++ above n (parent_of path)
unfolding above
above_suc n path = refl

above_zero : (path : Option (List ℕ)) → above 0 path ≡ []
unfolding above
above_zero path = refl

-- one folder more
pub above_on : (out more whole : List (List ℕ)) (path next : Option (List ℕ)) (turn : ℕ) → turn < 64
    → more ≡ out ++ option_to_list next → next ≡ parent_of path → out ++ above (64 - turn) path ≡ whole
    → more ++ above (64 - (turn + 1)) next ≡ whole
above_on out more whole path next turn lt added is before =
    let left : ℕ = 64 - (turn + 1) in
    let one : 64 - turn ≡ suc left = omega arith in
    let same : above (64 - turn) path ≡ option_to_list next ++ above left next =
    ap (λ n. above n path) one ∙ above_suc left path ∙ ap (λ p. option_to_list p ++ above left p) (sym is) in
    ap (λ o. o ++ above left next) added ∙ append_assoc out (option_to_list next) (above left next)
    ∙ ap (λ r. out ++ r) (sym same) ∙ before

-- and no more
pub above_end : (out whole : List (List ℕ)) (path : Option (List ℕ)) (turn : ℕ) → 64 ≤ turn
    → out ++ above (64 - turn) path ≡ whole → out ≡ whole
above_end out whole path turn le before =
    let none : 64 - turn ≡ 0 = omega arith in
    sym (append-nil out) ∙ ap (λ r. out ++ r) (sym (ap (λ n. above n path) none ∙ above_zero path)) ∙ before

-- ---- left

module _ {X : Type 0} (name : X → List ℕ) (test : List ℕ → Bool) where
  removed : (xs : List X) (n : ℕ) → position_or_len (λ x. test (name x)) xs ≡ n → n < length xs
      → map name (remove xs n) ≡ remove_key test (map name xs)
  removed [] n e lt = absurd (omega arith)
  removed (x ∷ xs) n e lt = elim (cases_Bool (test (name x))) [
    | inl is ↦
        let here = rw is at e in
        let first : n ≡ 0 = omega (arith, here) in
        rw (is, first) refl
    | inr other ↦
        let more = rw other at e in
        let k : ℕ = position_or_len (λ y. test (name y)) xs in
        let later : n ≡ suc k = omega (arith, more) in
        rw (other, later) (ap (λ r. name x ∷ r) (removed xs k refl (omega (arith, more))))
  ]

  kept : (xs : List X) → length xs ≤ position_or_len (λ x. test (name x)) xs → remove_key test (map name xs) ≡ map name xs
  kept [] le = refl
  kept (x ∷ xs) le = elim (cases_Bool (test (name x))) [
    | inl is ↦ let here = rw is at le in absurd (omega (arith, here))
    | inr other ↦ let more = rw other at le in rw other (ap (λ r. name x ∷ r) (kept xs (omega (arith, more))))
  ]

  found : (b : Bool) (n i : ℕ) → cond b (Some n) None ≡ Some i → (b ≡ true) × (n ≡ i)
  found true n i e = (refl, same_Some n i e)
  found false n i e = absurd (none-some i e)

  lost : (b : Bool) (n : ℕ) → cond b (Some n) None ≡ None → b ≡ false
  lost true n e = absurd (none-some n (sym e))
  lost false n e = refl

  -- the first of its name
  pub left_some : (xs ys : List X) (i : ℕ) → Some i ≡ position (λ x. test (name x)) xs → ys ≡ remove xs i
      → map name ys ≡ remove_key test (map name xs)
  left_some xs ys i e is =
      let at_first = found _ (position_or_len (λ x. test (name x)) xs) i (sym e) in
      let within : position_or_len (λ x. test (name x)) xs < length xs = grind (arith, nat_tests, at_first.0) in
      ap (map name) is ∙ removed xs i at_first.1 (omega (arith, within, at_first.1))

  -- none
  pub left_none : (xs : List X) → None ≡ position (λ x. test (name x)) xs → map name xs ≡ remove_key test (map name xs)
  left_none xs e =
      let nowhere = lost _ (position_or_len (λ x. test (name x)) xs) (sym e) in
      let past : length xs ≤ position_or_len (λ x. test (name x)) xs = grind (arith, nat_tests, nowhere) in
      sym (kept xs past)
