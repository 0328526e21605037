-- Which lines rows keep, row by row.
use Rattle.std.proofs.Common.{◌≡◌, ap, sym, refl, subst, ℕ, ◌+◌, ◌<◌, ◌≤◌, List, [], ◌∷◌, ◌++◌, ◌⊎◌, inl, inr, drop, get_or, length, arith}
use Rattle.std.proofs.lemmas.List.{at_drop_all, drop_more, get_or_at, length_push}
use Rattle.std.proofs.lemmas.List.Elements.{Contains-append_left}
use Rattle.ariadne_edits.specs.declared.rows.Row.{Row}
use Rattle.ariadne_edits.specs.declared.rows.Row.TheVariants.{Kept}
use Rattle.ariadne_edits.specs.KeptLines.{AreSame, HasKept, IsPaired, KeepAlso, RiseTo}

-- a row more
pub keeps_more : (rows : List Row) (row : Row) → KeepAlso rows (rows ++ row ∷ [])
keeps_more rows row i h = record { other = h.other; told = Contains-append_left rows (row ∷ []) (Kept i h.other) h.told }

pub keeps_last : (rows : List Row) (i j : ℕ) → HasKept (rows ++ Kept i j ∷ []) i
keeps_last rows i j = record {
  other = j;
  told = (length rows, omega (arith, length_push rows (Kept i j)), get_or_at rows (Kept i j) [] (Kept i j) (length rows) refl);
}

-- a line that pairs have is kept, or its pair is still to come, and lies behind what is told
abbrev pub IsDue : List (List ℕ) → List (List ℕ) → List (ℕ × ℕ) → List (ℕ × ℕ) → ℕ × ℕ → List Row → Type 0
IsDue old new pairs rest told rows =
    (i j : ℕ) → AreSame old new i j → RiseTo i j pairs → HasKept rows i ⊎ ((told.0 ≤ i) × (told.1 ≤ j) × RiseTo i j rest)

pub due_first : (old new : List (List ℕ)) (pairs : List (ℕ × ℕ)) → IsDue old new pairs pairs (0, 0) []
due_first old new pairs i j same rise = inr (omega arith, omega arith, rise)

due_next : (old new : List (List ℕ)) (pairs rest : List (ℕ × ℕ)) (pair told next : ℕ × ℕ) (before after : List Row)
    → IsDue old new pairs (pair ∷ rest) told before → (next ≡ told) ⊎ (next ≡ (pair.0 + 1, pair.1 + 1)) → KeepAlso before after
    → (told.0 ≤ pair.0 → told.1 ≤ pair.1 → AreSame old new pair.0 pair.1 → HasKept after pair.0) → IsDue old new pairs rest next after
due_next old new pairs rest pair told next before after due step keeps kept i j same rise = elim (due i j same rise) [
  | inl h ↦ inl (keeps i h)
  | inr h ↦ elim h.2 [
    | inl e ↦
        let first : pair.0 ≡ i = ap (λ (p : ℕ × ℕ). p.0) e in
        let second : pair.1 ≡ j = ap (λ (p : ℕ × ℕ). p.1) e in
        let low = h.0 in
        let low' = h.1 in
        inl (subst (HasKept after) first (kept (omega arith) (omega arith) (subst (λ i. AreSame old new i pair.1) (sym first) (subst (AreSame old new i) (sym second) same))))
    | inr lower ↦ inr (elim step [
      | inl e ↦ (subst (λ (t : ℕ × ℕ). t.0 ≤ i) (sym e) h.0, subst (λ (t : ℕ × ℕ). t.1 ≤ j) (sym e) h.1, lower.2)
      | inr e ↦
          let less = lower.0 in
          let less' = lower.1 in
          (subst (λ (t : ℕ × ℕ). t.0 ≤ i) (sym e) (omega arith), subst (λ (t : ℕ × ℕ). t.1 ≤ j) (sym e) (omega arith), lower.2)
    ])
  ]
]

pub due_more : (old new : List (List ℕ)) (pairs : List (ℕ × ℕ)) (k : ℕ) (d told next : ℕ × ℕ) (before after : List Row) → k < length pairs
    → IsDue old new pairs (drop k pairs) told before → (next ≡ told) ⊎ (next ≡ ((get_or pairs k d).0 + 1, (get_or pairs k d).1 + 1)) → KeepAlso before after
    → (told.0 ≤ (get_or pairs k d).0 → told.1 ≤ (get_or pairs k d).1 → AreSame old new (get_or pairs k d).0 (get_or pairs k d).1 → HasKept after (get_or pairs k d).0)
    → IsDue old new pairs (drop (k + 1) pairs) next after
due_more old new pairs k d told next before after lt due step keeps kept =
    due_next old new pairs (drop (k + 1) pairs) (get_or pairs k d) told next before after
    (subst (λ rest. IsDue old new pairs rest told before) (drop_more pairs k d lt) due) step keeps kept

-- behind all pairs none is to come
pub due_end : (old new : List (List ℕ)) (pairs : List (ℕ × ℕ)) (k : ℕ) (told : ℕ × ℕ) (rows : List Row) → length pairs ≤ k
    → IsDue old new pairs (drop k pairs) told rows → (i : ℕ) → IsPaired old new pairs i → HasKept rows i
due_end old new pairs k told rows end due i p = elim (due i p.other p.same p.rise) [
  | inl h ↦ h
  | inr h ↦ absurd (subst (RiseTo i p.other) (at_drop_all (λ (ps : List (ℕ × ℕ)). ps) pairs k end) h.2)
]
