-- How many characters end in front of a column: what is passed at a character, and at the end.
use Rattle.std.proofs.Common.{◌≡◌, ◌∙◌, ap, sym, ℕ, suc, ◌+◌, ◌<◌, ◌≤◌, nat_le, cond, List, ◌∷◌, drop, length, get_or}
use Rattle.std.proofs.lemmas.List.{at_drop_more, at_drop_all}
use Rattle.ariadne_matchers.specs.Measures.{passed_from, width_of}
use Rattle.ariadne_matchers.specs.declared.measure.Measure.{Measure}

-- a character is passed if it ends in front of the limit
pub passed_at : (measure : Measure) (limit at : ℕ) (line : List ℕ) (place c columns : ℕ)
    → place < length line → c ≡ get_or line place c → columns ≡ width_of measure at c
    → passed_from measure limit at (drop place line)
    ≡ cond (nat_le (at + columns) limit) (suc (passed_from measure limit (at + columns) (drop (place + 1) line))) 0
unfolding passed_from
passed_at measure limit at line place c columns lt is wide =
    at_drop_more (passed_from measure limit at) line place c lt
    ∙ ap (λ x. passed_from measure limit at (x ∷ drop (place + 1) line)) (sym is)
    ∙ ap (λ n. cond (nat_le (at + n) limit) (suc (passed_from measure limit (at + n) (drop (place + 1) line))) 0) (sym wide)

-- none is passed at the end
pub passed_end : (measure : Measure) (limit at : ℕ) (line : List ℕ) (place : ℕ) → length line ≤ place
    → passed_from measure limit at (drop place line) ≡ 0
unfolding passed_from
passed_end measure limit at line place end = at_drop_all (passed_from measure limit at) line place end
