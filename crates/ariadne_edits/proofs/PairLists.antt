-- The pairs of lines that are appended, piece by piece.
use Rattle.std.proofs.Common.{◌≡◌, ◌∙◌, ap, sym, subst, ℕ, ◌+◌, ◌-◌, ◌<◌, ◌≤◌, ◌==◌, true, false, List, [], ◌∷◌, ◌++◌, drop, get_or, length, arith, ltb}
use Rattle.std.specs.List.{AllByRecursion}
use Rattle.std.specs.Option.{IfSome}
use Rattle.std.proofs.Common.{Option, Some}
use Rattle.std.proofs.lemmas.Bool.{cond-true, cond-false, eq-eqb}
use Rattle.std.proofs.lemmas.Bool.Decides.{nat_tests}
use Rattle.std.proofs.lemmas.List.{drop_more, at_drop_all}
use Rattle.ariadne_base.specs.Locations.{byte_len, column_at, line_at}
use Rattle.ariadne_base.specs.Table.{LineExtent, location_of}
use Rattle.ariadne_edits.specs.declared.hints.Stay.{Stay}
use Rattle.ariadne_edits.specs.Stays.{from_reaching, pair_at, pairs_in, IsInside}

pub is_below : (a b : ℕ) → a < b → ltb a b ≡ true
is_below a b h = grind (arith, nat_tests)

pub not_below : (a b : ℕ) → b ≤ a → ltb a b ≡ false
not_below a b h = grind (arith, nat_tests)

not_zero : (n : ℕ) → (n ≡ 0 → ⊥) → (n == 0) ≡ false
not_zero n h = grind (arith, nat_tests)

-- ---- one pair

module _ (new : List (List ℕ)) (i to : ℕ) (line : LineExtent) (j column : ℕ) (found : (line, j, column) ≡ location_of byte_len new to) where
  line_is : j ≡ line_at byte_len new to
  unfolding location_of
  line_is = ap (λ (p : LineExtent × ℕ × ℕ). p.1) found

  column_is : column ≡ column_at byte_len new to
  unfolding location_of
  column_is = ap (λ (p : LineExtent × ℕ × ℕ). p.2) found

  pub pair_here : column ≡ 0 → (i, j) ∷ [] ≡ pair_at new i to
  unfolding pair_at
  pair_here z =
      ap (λ j. (i, j) ∷ []) line_is
      ∙ sym (cond-true (column_at byte_len new to == 0) ((i, line_at byte_len new to) ∷ []) [] (eq-eqb (column_at byte_len new to) 0 (sym column_is ∙ z)))

  pub pair_none : (column ≡ 0 → ⊥) → [] ≡ pair_at new i to
  unfolding pair_at
  pair_none n =
      sym (cond-false (column_at byte_len new to == 0) ((i, line_at byte_len new to) ∷ []) [] (not_zero (column_at byte_len new to) (λ z. n (column_is ∙ z))))

-- ---- the pieces up to the line

module _ (new : List (List ℕ)) (i begin : ℕ) (stays : List Stay) (k : ℕ) (d : Stay) (lt : k < length stays) where
  pub pairs_more : (get_or stays k d).start ≤ begin
      → pairs_in new i begin (drop k stays) ≡ pair_at new i ((get_or stays k d).to + (begin - (get_or stays k d).start)) ++ pairs_in new i begin (drop (k + 1) stays)
  unfolding pairs_in
  pairs_more h =
      let s = get_or stays k d in
      let pair = pair_at new i (s.to + (begin - s.start)) in
      ap (pairs_in new i begin) (drop_more stays k d lt)
      ∙ cond-false (ltb begin s.start) [] (pair ++ pairs_in new i begin (drop (k + 1) stays)) (not_below begin s.start h)

  pub pairs_stop : begin < (get_or stays k d).start → pairs_in new i begin (drop k stays) ≡ []
  unfolding pairs_in
  pairs_stop h =
      let s = get_or stays k d in
      let pair = pair_at new i (s.to + (begin - s.start)) in
      ap (pairs_in new i begin) (drop_more stays k d lt)
      ∙ cond-true (ltb begin s.start) [] (pair ++ pairs_in new i begin (drop (k + 1) stays)) (is_below begin s.start h)

pub pairs_end : (new : List (List ℕ)) (i begin : ℕ) (stays : List Stay) (k : ℕ) → length stays ≤ k → pairs_in new i begin (drop k stays) ≡ []
unfolding pairs_in
pairs_end new i begin stays k h = at_drop_all (pairs_in new i begin) stays k h

-- ---- the pieces that are passed

module _ (begin : ℕ) (stays : List Stay) (k : ℕ) (d : Stay) (lt : k < length stays) where
  pub reach_more : (get_or stays k d).end < begin → from_reaching begin (drop k stays) ≡ from_reaching begin (drop (k + 1) stays)
  unfolding from_reaching
  reach_more h =
      let s = get_or stays k d in
      ap (from_reaching begin) (drop_more stays k d lt)
      ∙ cond-true (ltb s.end begin) (from_reaching begin (drop (k + 1) stays)) (s ∷ drop (k + 1) stays) (is_below s.end begin h)

  pub reach_here : begin ≤ (get_or stays k d).end → from_reaching begin (drop k stays) ≡ drop k stays
  unfolding from_reaching
  reach_here h =
      let s = get_or stays k d in
      ap (from_reaching begin) (drop_more stays k d lt)
      ∙ cond-false (ltb s.end begin) (from_reaching begin (drop (k + 1) stays)) (s ∷ drop (k + 1) stays) (not_below s.end begin h)
      ∙ sym (drop_more stays k d lt)

-- one of some pieces
pub inside_at : (total begin : ℕ) (stays : List Stay) (k : ℕ) (d : Stay) → k < length stays → AllByRecursion (IsInside total begin) (drop k stays)
    → IsInside total begin (get_or stays k d) × AllByRecursion (IsInside total begin) (drop (k + 1) stays)
inside_at total begin stays k d lt h = subst (AllByRecursion (IsInside total begin)) (drop_more stays k d lt) h

abbrev pub no_stay : Stay
no_stay = record { start = 0; end = 0; to = 0 }

pub of_found : {T : Type 0} (o : Option T) (P : T → Type 0) (x : T) → IfSome o P → o ≡ Some x → P x
of_found o P x h e = subst (λ o. IfSome o P) e h

pub reach_end : (begin : ℕ) (stays : List Stay) (k : ℕ) → length stays ≤ k → from_reaching begin (drop k stays) ≡ drop k stays
unfolding from_reaching
reach_end begin stays k h = at_drop_all (from_reaching begin) stays k h ∙ sym (at_drop_all (λ (ss : List Stay). ss) stays k h)
