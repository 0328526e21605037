-- What stands for a character of a line hides nothing.
use Rattle.std.proofs.Common.{◌≡◌, ◌∙◌, ℕ, Bool, true, false, not, ◌&&◌, ◌||◌, eqb, List, [], ◌∷◌, map, refl, ap, sym, subst}
use Rattle.std.proofs.lemmas.Bool.{and_from, and_parts, both_ways, cond_both, cond-true, ne_eqb, not_from_false, or_left, or_right}
use Rattle.ariadne_safe.specs.Visible.{is_hidden, shown_code, symbol_of}
use Rattle.ariadne_safe.specs.declared.text.TextKind.TheVariants.{OneRow}
use Rattle.ariadne_safe.proofs.Signs.{not_hidden, shown_is_seen}
use Rattle.ariadne_outputs.specs.Passing.{hides_nothing, line_code}

-- a character that is not hidden, or a tab
abbrev pub is_clear : ℕ → Bool
is_clear c = not (is_hidden c) || eqb c 9

shown_clear : (h t : Bool) → h ≡ false → (not h || t) ≡ true
shown_clear h t e = rw e refl

-- so is each that stands for a character
pub code_clear : (c : ℕ) → is_clear (line_code c) ≡ true
code_clear c =
    let sign = shown_code OneRow c false in
    cond_both (eqb c 9) c sign (λ x. is_clear x ≡ true) (λ e. or_right (not (is_hidden c)) (eqb c 9) e)
    (λ e. shown_clear (is_hidden sign) (eqb sign 9) (not_hidden (is_hidden sign) false refl (shown_is_seen OneRow c false)))

pub codes_clear : (t : List ℕ) → hides_nothing (map line_code t) ≡ true
codes_clear [] = refl
codes_clear (c ∷ t) = and_from (is_clear (line_code c)) (hides_nothing (map line_code t)) (code_clear c) (codes_clear t)

-- none of them begins a sequence
escape_hidden : is_clear 27 ≡ false
unfolding is_hidden
escape_hidden = refl

pub no_escape : (c : ℕ) → is_clear c ≡ true → eqb c 27 ≡ false
no_escape c clear = ne_eqb c 27 (λ is. both_ways (is_clear 27) escape_hidden (subst (λ x. is_clear x ≡ true) is clear))

-- a terminal obeys none of them but tabs
pub obeys_none : (h t : Bool) → (not h || t) ≡ true → (h && not t) ≡ false
obeys_none true true e = refl
obeys_none true false e = sym e
obeys_none false t e = refl

-- a character that hides nothing stands for itself
pub clear_stays : (c : ℕ) → is_clear c ≡ true → line_code c ≡ c
clear_stays c clear =
    cond_both (eqb c 9) c (shown_code OneRow c false) (λ x. x ≡ c) (λ e. refl)
    (λ e. cond-true (not (is_hidden c) || false) c (symbol_of c)
    (or_left (not (is_hidden c)) false (not_from_false (is_hidden c) (not_hidden (is_hidden c) (eqb c 9) e clear))))

-- so does a text
pub clear_text_stays : (t : List ℕ) → hides_nothing t ≡ true → map line_code t ≡ t
clear_text_stays [] clear = refl
clear_text_stays (c ∷ t) clear =
    let both = and_parts (is_clear c) (hides_nothing t) clear in
    ap (λ x. x ∷ map line_code t) (clear_stays c both.0) ∙ ap (λ xs. c ∷ xs) (clear_text_stays t both.1)
