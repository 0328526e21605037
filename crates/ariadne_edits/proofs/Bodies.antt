-- What is shown of a line, character by character.
use Rattle.std.proofs.Common.{◌≡◌, ◌∙◌, ap, sym, refl, ℕ, zero, suc, ◌+◌, ◌≤◌, ◌==◌, true, false, not, cond, List, [], ◌∷◌, ◌++◌, replicate, eq-eqb, arith}
use Rattle.std.specs.Prelude.{encode_utf8_all, unwrap_or, Option, Some, None}
use Rattle.std.specs.Char.{is_whitespace}
use Rattle.unicode_width.specs.Width.{char_width}
use Rattle.unicode_width.proofs.Rules.{width_or_zero-le}
use Rattle.ariadne_base.specs.Lines.{is_separator}
use Rattle.ariadne_edits.specs.Bodies.{columns_at, shown_at, sign_of, spread, tab_blanks}
use Rattle.ariadne_edits.specs.SuggestionRows.{seen_of}

-- blanks are bytes of their own
pub blanks_encoded : (n : ℕ) → encode_utf8_all (replicate n 32) ≡ replicate n 32
unfolding lib.Utf8.encode
blanks_encoded zero = refl
blanks_encoded (suc n) = ap (λ t. 32 ∷ t) (blanks_encoded n)

-- a tab is shown as blanks
pub tab_shown : (tab_width column c : ℕ) → is_separator c ≡ false → c ≡ 9 → shown_at tab_width column c ≡ replicate (tab_blanks tab_width column) 32
tab_shown tab_width column c s e =
    let blanks = replicate (tab_blanks tab_width column) 32 in
    ap (λ b. cond b [] (cond (c == 9) blanks (sign_of c ∷ []))) s ∙ ap (λ b. cond b blanks (sign_of c ∷ [])) (eq-eqb c 9 e)

-- one character more
pub spread_more : (tab_width column next c : ℕ) (t : List ℕ) → next ≡ column + columns_at tab_width column c
    → spread tab_width column (c ∷ t) ≡ shown_at tab_width column c ++ spread tab_width next t
unfolding spread
spread_more tab_width column next c t e = ap (λ n. shown_at tab_width column c ++ spread tab_width n t) (sym e)

pub spread_none : (tab_width column : ℕ) → spread tab_width column [] ≡ []
unfolding spread
spread_none tab_width column = refl

-- a character takes three columns at most
pub columns-le : (c : ℕ) → unwrap_or (char_width false c) 1 ≤ 3
columns-le c = at_most (char_width false c) (width_or_zero-le false c)
  where
    at_most : (w : Option ℕ) → unwrap_or w 0 ≤ 3 → unwrap_or w 1 ≤ 3
    at_most None h = omega arith
    at_most (Some n) h = h

-- what is seen of a line
pub seen_more : (c : ℕ) (t : List ℕ) → is_whitespace c ≡ false → seen_of (c ∷ t) ≡ (c ∷ []) ++ seen_of t
seen_more c t e = ap (λ b. cond (not b) (c ∷ seen_of t) (seen_of t)) e

pub seen_less : (c : ℕ) (t : List ℕ) → is_whitespace c ≡ true → seen_of (c ∷ t) ≡ [] ++ seen_of t
seen_less c t e = ap (λ b. cond (not b) (c ∷ seen_of t) (seen_of t)) e
