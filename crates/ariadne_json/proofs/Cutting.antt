-- A text is its first piece, and the pieces of the rest.
use Rattle.std.proofs.Common.{◌≡◌, ◌∙◌, ap, refl, sym, arith, ℕ, zero, suc, ◌<◌, ◌≤◌, cond, List, [], ◌∷◌, drop, length, take, length-drop}
use Rattle.std.proofs.lemmas.Bool.{ne_eqb}
use Rattle.ariadne_json.specs.Cuts.{pieces, pieces_at}

-- the first piece of a text that is not empty
at_some : (n : ℕ) (len : List ℕ → ℕ) (t : List ℕ) → 0 < length t
    → pieces_at (suc n) len t ≡ take (len t) t ∷ pieces_at n len (drop (len t) t)
at_some n len t some =
    ap (λ b. cond b [] (take (len t) t ∷ pieces_at n len (drop (len t) t))) (ne_eqb (length t) 0 (λ e. omega arith))

at_none : (n : ℕ) (len : List ℕ → ℕ) (t : List ℕ) → length t ≡ 0 → pieces_at n len t ≡ []
at_none zero len t none = refl
at_none (suc n) len [] none = refl
at_none (suc n) len (b ∷ t) none = absurd (omega arith)

-- as many turns as bytes are enough
enough : (n m : ℕ) (len : List ℕ → ℕ) (t : List ℕ) → ((s : List ℕ) → 0 < length s → 0 < len s) → length t ≤ n → length t ≤ m
    → pieces_at n len t ≡ pieces_at m len t
enough n m len [] some le1 le2 = at_none n len [] refl ∙ sym (at_none m len [] refl)
enough zero m len (b ∷ t) some le1 le2 = absurd (omega arith)
enough (suc n) zero len (b ∷ t) some le1 le2 = absurd (omega arith)
enough (suc n) (suc m) len (b ∷ t) some le1 le2 =
    let whole : List ℕ = b ∷ t in
    let long : 0 < length whole = omega arith in
    let cut : 0 < len whole = some whole long in
    let short : length (drop (len whole) whole) < length whole = omega (arith, length-drop (len whole) whole) in
    at_some n len whole long
    ∙ ap (λ rest. take (len whole) whole ∷ rest) (enough n m len (drop (len whole) whole) some (omega arith) (omega arith))
    ∙ sym (at_some m len whole long)

pub first_piece : (len : List ℕ → ℕ) (t : List ℕ) → ((s : List ℕ) → 0 < length s → 0 < len s) → 0 < length t
    → pieces len t ≡ take (len t) t ∷ pieces len (drop (len t) t)
first_piece len [] some long = absurd (omega arith)
first_piece len (b ∷ t) some long =
    let whole : List ℕ = b ∷ t in
    let cut : 0 < len whole = some whole long in
    at_some (length t) len whole long
    ∙ ap (λ rest. take (len whole) whole ∷ rest)
    (enough (length t) (length (drop (len whole) whole)) len (drop (len whole) whole) some
    (omega (arith, length-drop (len whole) whole)) (omega arith))

pub no_piece : (len : List ℕ → ℕ) (t : List ℕ) → length t ≡ 0 → pieces len t ≡ []
no_piece len t none = at_none (length t) len t none
