-- Rows that are appended.
use Rattle.std.proofs.Common.{◌≡◌, ◌∙◌, ap, sym, refl, ℕ, suc, zero, ◌+◌, List, [], ◌∷◌, ◌++◌, append-nil, arith}
use Rattle.std.specs.List.{flat_map, range_with_len, AllByRecursion}
use Rattle.std.proofs.lemmas.Grind.{flat_map-append}
use Rattle.ariadne_base.specs.Locations.{upto, line_text}
use Rattle.ariadne_edits.specs.declared.rows.Look.{Look}
use Rattle.ariadne_edits.specs.declared.rows.Row.{Row}
use Rattle.ariadne_edits.specs.declared.rows.Row.TheVariants.{Removed, Added}
use Rattle.ariadne_edits.specs.SuggestionRows.{lines_before, lines_after, AreMarked, IsKept, IsSame, TellFirst}

-- the numbers from a on, one more
range_more : (a n : ℕ) → range_with_len a (suc n) ≡ range_with_len a n ++ (a + n) ∷ []
range_more a zero = ap (λ x. x ∷ []) (let e : a ≡ a + 0 = omega arith in e)
range_more a (suc n) = ap (λ xs. a ∷ xs) (range_more (a + 1) n ∙ ap (λ x. range_with_len (a + 1) n ++ x ∷ []) (let e : a + 1 + n ≡ a + suc n = omega arith in e))

pub upto_more : (n : ℕ) → upto (n + 1) ≡ upto n ++ n ∷ []
upto_more n = ap (λ m. range_with_len 0 m) (let e : n + 1 ≡ suc n = omega arith in e) ∙ range_more 0 n ∙ ap (λ x. upto n ++ x ∷ []) (let e : 0 + n ≡ n = omega arith in e)

all_more : {X : Type 0} (P : X → Type 0) (xs : List X) (x : X) → AllByRecursion P xs → P x → AllByRecursion P (xs ++ x ∷ [])
all_more P [] x a p = (p, tt)
all_more P (y ∷ xs) x a p = (a.0, all_more P xs x a.1 p)

-- the lines of one row more, where it stands for the next
lines_more : (f : Row → List ℕ) (rows : List Row) (row : Row) (i : ℕ) → flat_map f rows ≡ upto i → f row ≡ i ∷ [] → flat_map f (rows ++ row ∷ []) ≡ upto (i + 1)
lines_more f rows row i h e =
    flat_map-append f rows (row ∷ []) ∙ ap (λ xs. xs ++ (f row ++ [])) h ∙ ap (λ xs. upto i ++ (xs ++ [])) e ∙ sym (upto_more i)

-- and where it stands for none
lines_same : (f : Row → List ℕ) (rows : List Row) (row : Row) (i : ℕ) → flat_map f rows ≡ upto i → f row ≡ [] → flat_map f (rows ++ row ∷ []) ≡ upto i
lines_same f rows row i h e =
    flat_map-append f rows (row ∷ []) ∙ ap (λ xs. flat_map f rows ++ (xs ++ [])) e ∙ append-nil (flat_map f rows) ∙ h

module _ (old new : List (List ℕ)) (i j : ℕ) (rows : List Row) (h : TellFirst old new i j rows) where
  pub told_removed : (look : Look) → AreMarked look.blanks (line_text old i) new → TellFirst old new (i + 1) j (rows ++ Removed i look ∷ [])
  told_removed look marked = record {
    before = lines_more lines_before rows (Removed i look) i h.before refl;
    after = lines_same lines_after rows (Removed i look) j h.after refl;
    same = all_more (IsSame old new) rows (Removed i look) h.same marked;
  }

  pub told_added : (look : Look) → AreMarked look.blanks (line_text new j) old → TellFirst old new i (j + 1) (rows ++ Added j look ∷ [])
  told_added look marked = record {
    before = lines_same lines_before rows (Added j look) i h.before refl;
    after = lines_more lines_after rows (Added j look) j h.after refl;
    same = all_more (IsSame old new) rows (Added j look) h.same marked;
  }

  pub told_kept : (row : Row) → IsKept old new i j row → TellFirst old new (i + 1) (j + 1) (rows ++ row ∷ [])
  told_kept row k = record {
    before = lines_more lines_before rows row i h.before k.before;
    after = lines_more lines_after rows row j h.after k.after;
    same = all_more (IsSame old new) rows row h.same k.same;
  }

pub told_none : (old new : List (List ℕ)) → TellFirst old new 0 0 []
told_none old new = record { before = refl; after = refl; same = tt }
