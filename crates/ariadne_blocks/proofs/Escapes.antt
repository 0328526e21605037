-- Texts without their escapes, byte by byte.
use Rattle.std.proofs.Common.{◌≡◌, ◌∙◌, ℕ, ◌+◌, ◌-◌, ◌≤◌, ◌<◌, List, [], ◌∷◌, ◌++◌, length, get_or, drop, ap, sym, refl, append-nil, ne_eqb}
use Rattle.std.specs.Prelude.{true, false}
use Rattle.std.proofs.lemmas.List.{append_assoc, at_drop_all, at_drop_more}
use Rattle.ariadne_blocks.specs.FixChanges.{bytes_behind, is_first_digit, meant, with_digit}
use Rattle.ariadne_blocks.specs.declared.fix_rows.Escape.{Escape}
use Rattle.ariadne_blocks.specs.declared.fix_rows.Escape.TheVariants.{Closed, Digit, Digits, Open}

-- one more is read
pub byte_more : (escape next : Escape) (old new text all : List ℕ) (i : ℕ) → i < length text
    → old ++ bytes_behind escape (drop i text) ≡ all
    → ((rest : List ℕ) → new ++ bytes_behind next rest ≡ old ++ bytes_behind escape (get_or text i 0 ∷ rest))
    → new ++ bytes_behind next (drop (i + 1) text) ≡ all
byte_more escape next old new text all i within so_far step =
    step (drop (i + 1) text)
    ∙ sym (ap (λ t. old ++ t) (at_drop_more (bytes_behind escape) text i 0 within)) ∙ so_far

-- all are
pub bytes_over : (escape : Escape) (bytes text all : List ℕ) (i : ℕ) → length text ≤ i
    → bytes ++ bytes_behind escape (drop i text) ≡ all → bytes ≡ all
unfolding bytes_behind
bytes_over escape bytes text all i end so_far =
    sym (append-nil bytes) ∙ sym (ap (λ t. bytes ++ t) (at_drop_all (bytes_behind escape) text i end)) ∙ so_far

-- ---- one byte

-- it stands for nothing
pub read : (escape next : Escape) (bytes : List ℕ) (c : ℕ) (rest : List ℕ)
    → bytes_behind escape (c ∷ rest) ≡ bytes_behind next rest
    → bytes ++ bytes_behind next rest ≡ bytes ++ bytes_behind escape (c ∷ rest)
read escape next bytes c rest step = ap (λ t. bytes ++ t) (sym step)

-- or for a byte
pub put_in : (escape : Escape) (old new : List ℕ) (put c : ℕ) (rest : List ℕ) → new ≡ old ++ put ∷ []
    → bytes_behind escape (c ∷ rest) ≡ put ∷ bytes_behind Closed rest
    → new ++ bytes_behind Closed rest ≡ old ++ bytes_behind escape (c ∷ rest)
put_in escape old new put c rest is step =
    ap (λ t. t ++ bytes_behind Closed rest) is ∙ append_assoc old (put ∷ []) (bytes_behind Closed rest)
    ∙ ap (λ t. old ++ t) (sym step)

-- a backslash opens an escape, and any other is itself
pub opens : (c : ℕ) (rest : List ℕ) → c ≡ 92 → bytes_behind Closed (c ∷ rest) ≡ bytes_behind Open rest
unfolding bytes_behind
opens c rest is = rw is refl

pub is_itself : (c : ℕ) (rest : List ℕ) → (c ≡ 92 → ⊥) → bytes_behind Closed (c ∷ rest) ≡ c ∷ bytes_behind Closed rest
unfolding bytes_behind
is_itself c rest other = rw (ne_eqb c 92 other) refl

-- behind that a digit is the first of three, and a letter means something
pub is_digit : (c : ℕ) (rest : List ℕ) → is_first_digit c ≡ true
    → bytes_behind Open (c ∷ rest) ≡ bytes_behind (Digit (c - 48)) rest
unfolding bytes_behind
is_digit c rest is = rw is refl

pub is_letter : (c : ℕ) (rest : List ℕ) → is_first_digit c ≡ false
    → bytes_behind Open (c ∷ rest) ≡ meant c ∷ bytes_behind Closed rest
unfolding bytes_behind
is_letter c rest is = rw is refl

-- the others follow
pub is_second : (value c : ℕ) (rest : List ℕ)
    → bytes_behind (Digit value) (c ∷ rest) ≡ bytes_behind (Digits (with_digit value c)) rest
unfolding bytes_behind
is_second value c rest = refl

pub is_third : (value c : ℕ) (rest : List ℕ)
    → bytes_behind (Digits value) (c ∷ rest) ≡ with_digit value c ∷ bytes_behind Closed rest
unfolding bytes_behind
is_third value c rest = refl
