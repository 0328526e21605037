-- Where the lines of a text begin: what is found at a character, at the end, and how far that can be.
use Rattle.std.proofs.Common.{◌≡◌, ◌∙◌, ap, sym, refl, ℕ, suc, zero, ◌+◌, ◌<◌, ◌≤◌, Bool, true, false, eqb, cond, List, [], ◌∷◌, ◌++◌, drop, length, get_or, append_assoc, append-nil, Some, unwrap_or, arith}
use Rattle.std.specs.List.{slice_get}
use Rattle.std.proofs.lemmas.Bool.{ne_eqb}
use Rattle.std.proofs.lemmas.List.{at_drop_more, at_drop_all}
use Rattle.std.proofs.lemmas.Option.{slice_get_within}
use Rattle.ariadne_parse.specs.Columns.{begins_behind, line_begins, line_start}

-- a line begins behind a line feed
begins_at : (t : List ℕ) (span c : ℕ) → span < length t → c ≡ get_or t span c
    → begins_behind span (drop span t)
    ≡ cond (eqb c 10) ((span + 1) ∷ begins_behind (span + 1) (drop (span + 1) t)) (begins_behind (span + 1) (drop (span + 1) t))
unfolding begins_behind
begins_at t span c lt is =
    at_drop_more (begins_behind span) t span c lt
    ∙ ap (λ x. begins_behind span (x ∷ drop (span + 1) t)) (sym is)

module _ (t : List ℕ) (span c : ℕ) (lt : span < length t) (is : c ≡ get_or t span c) (xs : List ℕ)
    (so_far : xs ++ begins_behind span (drop span t) ≡ line_begins t) where
  -- so one is pushed there
  pub begins_pushed : (pushed : List ℕ) → c ≡ 10 → pushed ≡ xs ++ (span + 1) ∷ []
      → pushed ++ begins_behind (span + 1) (drop (span + 1) t) ≡ line_begins t
  begins_pushed pushed feed push =
      let rest = begins_behind (span + 1) (drop (span + 1) t) in
      let at = begins_at t span c lt is in
      let moved = append_assoc xs ((span + 1) ∷ []) rest in
      rw push (moved ∙ ap (λ behind. xs ++ behind) (sym (at ∙ rw feed refl)) ∙ so_far)

  -- and none elsewhere
  pub begins_kept : (c ≡ 10 → ⊥) → xs ++ begins_behind (span + 1) (drop (span + 1) t) ≡ line_begins t
  begins_kept other =
      let at = begins_at t span c lt is in
      ap (λ behind. xs ++ behind) (sym (at ∙ rw (ne_eqb c 10 other) refl)) ∙ so_far

-- none does at the end
pub begins_whole : (t : List ℕ) (span : ℕ) (xs : List ℕ) → length t ≤ span
    → xs ++ begins_behind span (drop span t) ≡ line_begins t → xs ≡ line_begins t
unfolding begins_behind
begins_whole t span xs end so_far =
    sym (append-nil xs) ∙ ap (λ behind. xs ++ behind) (sym (at_drop_all (begins_behind span) t span end)) ∙ so_far

-- what is found in a list in front of which one stands, or none does
begins_found : (b : Bool) (n : ℕ) (xs : List ℕ) (bound i x : ℕ) → n ≤ bound
    → ((j : ℕ) → slice_get xs j ≡ Some x → x ≤ bound) → slice_get (cond b (n ∷ xs) xs) i ≡ Some x → x ≤ bound
begins_found true n xs bound zero x le rest h = let e = ap (λ o. unwrap_or o 0) h in omega arith
begins_found true n xs bound (suc i) x le rest h = rest i h
begins_found false n xs bound i x le rest h = rest i h

-- no line begins behind the text
begins_bound : (at : ℕ) (t : List ℕ) (i x : ℕ) → slice_get (begins_behind at t) i ≡ Some x
    → x ≤ at + length t
unfolding begins_behind
begins_bound at [] i x h = let lt = slice_get_within [] i x h in omega arith
begins_bound at (c ∷ t) i x h =
    begins_found (eqb c 10) (at + 1) (begins_behind (at + 1) t) (at + length (c ∷ t)) i x (omega arith)
    (λ j found. let le = begins_bound (at + 1) t j x found in omega arith) h

line_bound : (t : List ℕ) (i x : ℕ) → slice_get (line_begins t) i ≡ Some x → x ≤ length t
line_bound t zero x h = let e = ap (λ o. unwrap_or o 0) h in omega arith
line_bound t (suc i) x h = let le = begins_bound 0 t i x h in omega arith

pub start_bound : (t : List ℕ) (line start : ℕ) → line_start t line ≡ Some start → start ≤ length t
unfolding line_start
start_bound t zero start h = let lt = slice_get_within [] 0 start h in omega arith
start_bound t (suc line) start h = line_bound t line start h
