-- The counterparts of lines, row by row.
use Rattle.std.proofs.Common.{◌≡◌, ◌∙◌, ap, sym, refl, subst, ℕ, ◌+◌, ◌-◌, List, [], ◌∷◌, ◌++◌, ◌⊎◌, inl, inr}
use Rattle.ariadne_edits.specs.declared.rows.Look.{Look}
use Rattle.ariadne_edits.specs.declared.rows.Row.{Row}
use Rattle.ariadne_edits.specs.declared.rows.Row.TheVariants.{Kept, KeptLast, Removed, Added}
use Rattle.ariadne_edits.specs.Counterparts.{behind_kept, EndInRun, EndKept, HaveCounterparts, line_in, next_kept}

next_append : (to : ℕ × ℕ) (xs ys : List Row) → next_kept to (xs ++ ys) ≡ next_kept (next_kept to ys) xs
unfolding next_kept
next_append to [] ys = refl
next_append to (Kept i j ∷ xs) ys = refl
next_append to (KeptLast i j ∷ xs) ys = refl
next_append to (Removed i look ∷ xs) ys = next_append to xs ys
next_append to (Added j look ∷ xs) ys = next_append to xs ys

behind_append : (from : ℕ × ℕ) (xs ys : List Row) → behind_kept from (xs ++ ys) ≡ behind_kept (behind_kept from xs) ys
unfolding behind_kept
behind_append from [] ys = refl
behind_append from (Kept i j ∷ xs) ys = behind_append (i + 1, j + 1) xs ys
behind_append from (KeptLast i j ∷ xs) ys = behind_append (i + 1, j + 1) xs ys
behind_append from (Removed i look ∷ xs) ys = behind_append from xs ys
behind_append from (Added j look ∷ xs) ys = behind_append from xs ys

-- those of rows, and those of the rows behind them
both_have : (from to : ℕ × ℕ) (xs ys : List Row) → HaveCounterparts from (next_kept to ys) xs → HaveCounterparts (behind_kept from xs) to ys
    → HaveCounterparts from to (xs ++ ys)
unfolding next_kept behind_kept HaveCounterparts
both_have from to [] ys h g = g
both_have from to (Kept i j ∷ xs) ys h g = both_have (i + 1, j + 1) to xs ys h g
both_have from to (KeptLast i j ∷ xs) ys h g = both_have (i + 1, j + 1) to xs ys h g
both_have from to (Removed i look ∷ xs) ys h g =
    (h.0 ∙ ap (λ (n : ℕ × ℕ). line_in from.1 n.1 (i - from.0)) (sym (next_append to xs ys)), both_have from to xs ys h.1 g)
both_have from to (Added j look ∷ xs) ys h g =
    (h.0 ∙ ap (λ (n : ℕ × ℕ). line_in from.0 n.0 (j - from.1)) (sym (next_append to xs ys)), both_have from to xs ys h.1 g)

module _ (from to : ℕ × ℕ) (rows : List Row) (h : EndInRun from to rows) where
  -- a line more is removed
  pub removed_more : (i : ℕ) (look : Look) → look.counterpart ≡ line_in from.1 to.1 (i - from.0) → EndInRun from to (rows ++ Removed i look ∷ [])
  unfolding next_kept behind_kept HaveCounterparts
  removed_more i look e = record {
    begins = behind_append (0, 0) rows (Removed i look ∷ []) ∙ h.begins;
    counterparts = both_have (0, 0) to rows (Removed i look ∷ []) h.counterparts
        (subst (λ (n : ℕ × ℕ). look.counterpart ≡ line_in n.1 to.1 (i - n.0)) (sym h.begins) e, tt);
  }

  -- or added
  pub added_more : (j : ℕ) (look : Look) → look.counterpart ≡ line_in from.0 to.0 (j - from.1) → EndInRun from to (rows ++ Added j look ∷ [])
  unfolding next_kept behind_kept HaveCounterparts
  added_more j look e = record {
    begins = behind_append (0, 0) rows (Added j look ∷ []) ∙ h.begins;
    counterparts = both_have (0, 0) to rows (Added j look ∷ []) h.counterparts
        (subst (λ (n : ℕ × ℕ). look.counterpart ≡ line_in n.0 to.0 (j - n.1)) (sym h.begins) e, tt);
  }

-- a line more is kept
kept_row : (from : ℕ × ℕ) (i j : ℕ) (rows : List Row) → EndInRun from (i, j) rows → EndKept (i + 1, j + 1) (rows ++ Kept i j ∷ [])
unfolding next_kept behind_kept HaveCounterparts
kept_row from i j rows h to = record {
  begins = behind_append (0, 0) rows (Kept i j ∷ []);
  counterparts = both_have (0, 0) to rows (Kept i j ∷ []) h.counterparts tt;
}

kept_last_row : (from : ℕ × ℕ) (i j : ℕ) (rows : List Row) → EndInRun from (i, j) rows → EndKept (i + 1, j + 1) (rows ++ KeptLast i j ∷ [])
unfolding next_kept behind_kept HaveCounterparts
kept_last_row from i j rows h to = record {
  begins = behind_append (0, 0) rows (KeptLast i j ∷ []);
  counterparts = both_have (0, 0) to rows (KeptLast i j ∷ []) h.counterparts tt;
}

pub kept_more : (from : ℕ × ℕ) (i j : ℕ) (rows : List Row) (row : Row) → EndInRun from (i, j) rows → (row ≡ Kept i j) ⊎ (row ≡ KeptLast i j)
    → EndKept (i + 1, j + 1) (rows ++ row ∷ [])
kept_more from i j rows row h is = elim is [
  | inl e ↦ subst (λ r. EndKept (i + 1, j + 1) (rows ++ r ∷ [])) (sym e) (kept_row from i j rows h)
  | inr e ↦ subst (λ r. EndKept (i + 1, j + 1) (rows ++ r ∷ [])) (sym e) (kept_last_row from i j rows h)
]

-- at first there is no row
pub none_kept : EndKept (0, 0) []
unfolding behind_kept HaveCounterparts
none_kept to = record { begins = refl; counterparts = tt }

-- a last run
pub run_kept : (told : ℕ × ℕ) (old new i j : ℕ) (rows more : List Row) → i ≡ old → j ≡ new → EndKept told rows
    → (EndInRun (told.0, told.1) (i, j) rows → EndInRun (told.0, told.1) (i, j) more) → EndInRun told (old, new) more
run_kept (a, b) old new i j rows more e f kept run =
    subst (λ n. EndInRun (a, b) (old, n) more) f (subst (λ n. EndInRun (a, b) (n, j) more) e (run (kept (i, j))))
