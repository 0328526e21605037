-- Where a text in quotes ends.
use Rattle.std.proofs.Common.{◌≡◌, ◌∙◌, ap, refl, sym, arith, ℕ, ◌+◌, ◌<◌, Bool, true, false, ◌&&◌, not, cond, eqb, List, ◌∷◌, drop, get_or, length}
use Rattle.std.proofs.lemmas.List.{at_drop_more}
use Rattle.ariadne_json.specs.Pieces.{text_len}

-- with one byte more
text_step : (e : Bool) (b : ℕ) (t : List ℕ)
    → text_len e (b ∷ t) ≡ cond (not e && eqb b 34) 1 (1 + text_len (not e && eqb b 92) t)
text_step true b t = refl
text_step false b t = refl

text_more : (e : Bool) (t : List ℕ) (place : ℕ) → place < length t
    → text_len e (drop place t)
    ≡ cond (not e && eqb (get_or t place 0) 34) 1 (1 + text_len (not e && eqb (get_or t place 0) 92) (drop (place + 1) t))
text_more e t place lt =
    at_drop_more (text_len e) t place 0 lt ∙ text_step e (get_or t place 0) (drop (place + 1) t)

pub step_on : (t : List ℕ) (place whole : ℕ) (e ends escapes : Bool) → place < length t
    → ends ≡ (not e && eqb (get_or t place 0) 34) → escapes ≡ (not e && eqb (get_or t place 0) 92) → ends ≡ false
    → place + text_len e (drop place t) ≡ whole → (place + 1) + text_len escapes (drop (place + 1) t) ≡ whole
step_on t place whole e ends escapes lt end_is escape_is off before =
    let rest : ℕ = text_len (not e && eqb (get_or t place 0) 92) (drop (place + 1) t) in
    let more : text_len e (drop place t) ≡ 1 + rest =
    text_more e t place lt ∙ ap {A = Bool} {B = ℕ} (λ b. cond b 1 (1 + rest)) (sym end_is ∙ off) in
    let same : text_len escapes (drop (place + 1) t) ≡ rest = ap (λ x. text_len x (drop (place + 1) t)) escape_is in
    omega (arith, more, same, before)
