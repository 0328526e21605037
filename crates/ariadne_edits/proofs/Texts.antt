-- The edited text, change by change.
use Rattle.std.proofs.Common.{◌≡◌, ◌∙◌, ap, sym, subst, ℕ, ◌+◌, ◌≤◌, ◌<◌, List, ◌∷◌, ◌++◌, drop, get_or, length, append_assoc}
use Rattle.std.specs.Prelude.{slice_range}
use Rattle.std.specs.Str.{IsCharBoundary}
use Rattle.std.proofs.lemmas.List.{at_drop_all, drop_more}
use Rattle.ariadne_edits.specs.declared.change.Change.{Change}
use Rattle.ariadne_edits.specs.Changes.{edited_from, Fit, FitsBehind}

-- what stands in front of a change, and its text, are appended
change_made : (t : List ℕ) (at : ℕ) (cs : List Change) (k : ℕ) (c : Change) (out front behind whole : List ℕ) → drop k cs ≡ c ∷ drop (k + 1) cs
    → out ++ edited_from t at (drop k cs) ≡ whole → front ≡ out ++ slice_range t at c.start → behind ≡ front ++ c.text.now
    → behind ++ edited_from t c.end (drop (k + 1) cs) ≡ whole
unfolding edited_from
change_made t at cs k c out front behind whole cut so_far f b =
    let rest = edited_from t c.end (drop (k + 1) cs) in
    let middle = slice_range t at c.start in
    ap (λ x. x ++ rest) (b ∙ ap (λ x. x ++ c.text.now) f)
    ∙ append_assoc (out ++ middle) c.text.now rest
    ∙ append_assoc out middle (c.text.now ++ rest)
    ∙ ap (λ x. out ++ x) (sym (append_assoc middle c.text.now rest))
    ∙ sym (ap (λ cs. out ++ edited_from t at cs) cut) ∙ so_far

-- a change more: it fits, and what is behind it does
pub made_more : (t : List ℕ) (at : ℕ) (cs : List Change) (k : ℕ) (d : Change) (out front behind whole : List ℕ)
    → (at ≤ length t) × IsCharBoundary t at × Fit t at (drop k cs) × (out ++ edited_from t at (drop k cs) ≡ whole)
    → k < length cs → front ≡ out ++ slice_range t at (get_or cs k d).start → behind ≡ front ++ (get_or cs k d).text.now
    → ((get_or cs k d).end ≤ length t) × IsCharBoundary t (get_or cs k d).end × Fit t (get_or cs k d).end (drop (k + 1) cs)
    × (behind ++ edited_from t (get_or cs k d).end (drop (k + 1) cs) ≡ whole)
made_more t at cs k d out front behind whole h lt f b =
    let cut = drop_more cs k d lt in
    let fit : FitsBehind t at (get_or cs k d) × Fit t (get_or cs k d).end (drop (k + 1) cs) = subst (Fit t at) cut h.2 in
    (fit.0.within, fit.0.ends_whole, fit.1, change_made t at cs k (get_or cs k d) out front behind whole cut h.3 f b)

-- and the rest
pub changes_end : (t : List ℕ) (at : ℕ) (cs : List Change) (k : ℕ) (out all whole : List ℕ) → length cs ≤ k
    → out ++ edited_from t at (drop k cs) ≡ whole → all ≡ out ++ drop at t → all ≡ whole
unfolding edited_from
changes_end t at cs k out all whole end so_far a =
    a ∙ ap (λ x. out ++ x) (sym (at_drop_all (edited_from t at) cs k end)) ∙ so_far
