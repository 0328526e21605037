-- Rows that are drawn one after another.
use Rattle.std.proofs.Common.{◌≡◌, ◌∙◌, ap, sym, ℕ, ◌+◌, ◌≤◌, Bool, ◌&&◌, not, List, ◌∷◌, ◌++◌, drop, length, append_assoc, append-nil}
use Rattle.std.proofs.lemmas.List.{at_drop_all}
use Rattle.ariadne_edits.specs.declared.drawing.Layout.{Layout}
use Rattle.ariadne_edits.specs.declared.rows.Row.{Row}
use Rattle.ariadne_edits.specs.HelpTexts.{drawn_row, drawn_rows, is_drawn}

module _ (layout : Layout) (old new : List (List ℕ)) (rows : List Row) (k : ℕ) (is_first is_apart : Bool) (out whole : List ℕ)
    (so_far : out ++ drawn_rows layout old new is_first is_apart (drop k rows) ≡ whole) where
  -- a row is drawn
  pub drawn_more : (r : Row) (first apart : Bool) (behind : List ℕ) → drop k rows ≡ r ∷ drop (k + 1) rows
      → first ≡ (is_first && not (is_drawn r)) → apart ≡ not (is_drawn r)
      → behind ≡ out ++ drawn_row layout old new is_first is_apart r
      → behind ++ drawn_rows layout old new first apart (drop (k + 1) rows) ≡ whole
  unfolding drawn_rows
  drawn_more r first apart behind cut f a pushed =
      let one = drawn_row layout old new is_first is_apart r in
      let rest : Bool → Bool → List ℕ = λ first apart. drawn_rows layout old new first apart (drop (k + 1) rows) in
      ap (λ x. x ++ rest first apart) pushed
      ∙ append_assoc out one (rest first apart)
      ∙ ap (λ x. out ++ (one ++ x)) (ap (λ x. rest x apart) f ∙ ap (λ x. rest (is_first && not (is_drawn r)) x) a)
      ∙ sym (ap (λ rs. out ++ drawn_rows layout old new is_first is_apart rs) cut) ∙ so_far

  -- all are
  pub drawn_end : length rows ≤ k → out ≡ whole
  unfolding drawn_rows
  drawn_end end = sym (append-nil out) ∙ ap (λ x. out ++ x) (sym (at_drop_all (drawn_rows layout old new is_first is_apart) rows k end)) ∙ so_far
