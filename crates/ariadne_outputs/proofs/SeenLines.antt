-- Texts in which nothing is hidden: each character stands for itself.
use Rattle.std.proofs.Common.{◌≡◌, ◌∙◌, ℕ, Bool, true, false, cond, eqb, List, [], ◌∷◌, map, refl, ap}
use Rattle.std.specs.Prelude.{chars, encode_utf8_all}
use Rattle.std.specs.List.{list_all}
use Rattle.std.specs.Str.{IsUtf8, is_utf8}
use Rattle.std.proofs.lemmas.Bool.{and_parts}
use Rattle.std.proofs.lemmas.Str.{encodes-chars}
use Rattle.ariadne_safe.specs.Visible.{is_seen_in, is_shown, symbol_of}
use Rattle.ariadne_safe.specs.declared.text.TextKind.TheVariants.{OneRow}
use Rattle.ariadne_outputs.specs.Passing.{line_code}
use Rattle.ariadne_outputs.proofs.Pushed.{line_bytes}

either : (b : Bool) (c : ℕ) → cond b c c ≡ c
either true c = refl
either false c = refl

own_code : (c : ℕ) → is_seen_in OneRow c ≡ true → line_code c ≡ c
own_code c seen = ap (λ b. cond (eqb c 9) c (cond b c (symbol_of c))) seen ∙ either (eqb c 9) c

own_codes : (cs : List ℕ) → list_all (is_seen_in OneRow) cs ≡ true → map line_code cs ≡ cs
own_codes [] seen = refl
own_codes (c ∷ cs) seen =
    let both = and_parts (is_seen_in OneRow c) (list_all (is_seen_in OneRow) cs) seen in
    rw (own_code c both.0, own_codes cs both.1) refl

-- what stands for such a text is the text
pub seen_bytes : (text : List ℕ) → IsUtf8 text → is_shown OneRow text ≡ true → line_bytes (chars text) ≡ text
seen_bytes text u seen =
    ap encode_utf8_all
    (own_codes (chars text) ((and_parts (is_utf8 text) (list_all (is_seen_in OneRow) (chars text)) seen).1))
    ∙ encodes-chars text u
