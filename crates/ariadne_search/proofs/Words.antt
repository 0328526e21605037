-- Words that a text begins or ends with.
use Rattle.std.proofs.Common.{◌≡◌, ◌∙◌, ap, arith, refl, subst, sym, Bor}
use Rattle.std.proofs.Math.Dec.{eqb}
use Rattle.std.proofs.lemmas.Str.Pattern.{ends_text, starts_text}
use Rattle.std.specs.Prelude.{ℕ, ◌-◌, true, false, List, length, take, drop, Option, Some, None, MatchOption, option_map}
use Rattle.std.specs.List.{ends_with, starts_with}
use Rattle.std.specs.Str.{IsCharBoundary}
use Rattle.std.specs.Str.Pattern.{FindsTextPrefix, FindsTextSuffix, StripsPrefix, StripsSuffix}
use Rattle.ariadne_search.specs.Make.{behind_words, in_front_of_words}

-- `strip_prefix` at words
pub behind_is : (words text : List ℕ) (r : Option (Bor (List ℕ)))
    → MatchOption r (FindsTextPrefix words text None) (λ x. StripsPrefix (FindsTextPrefix words) text x.now)
    → option_map (λ (x : Bor (List ℕ)). x.now) r ≡ behind_words words text
behind_is words text None h = rw (sym (starts_text false words text h)) refl
behind_is words text (Some x) h =
    let on : starts_with eqb text words ≡ true =
    sym (starts_text true words text (h.0, h.1, subst (IsCharBoundary text) (sym h.1.0) h.1.2)) in
    rw on (ap (λ (xs : List ℕ). Some xs) (h.2 ∙ ap (λ k. drop k text) h.1.0))

-- `strip_suffix` at words
pub in_front_is : (words text : List ℕ) (r : Option (Bor (List ℕ)))
    → MatchOption r (FindsTextSuffix words text None) (λ x. StripsSuffix (FindsTextSuffix words) text x.now)
    → option_map (λ (x : Bor (List ℕ)). x.now) r ≡ in_front_of_words words text
in_front_is words text None h = rw (sym (ends_text false words text h)) refl
in_front_is words text (Some x) h =
    let n : h.0 ≡ length words = h.1.0 in
    let on : true ≡ ends_with eqb text words =
    ends_text true words text
    (h.0, h.1, omega (arith, h.3), subst (λ k. IsCharBoundary text (length text - k)) (sym n) h.1.2) in
    rw (sym on) (ap (λ (xs : List ℕ). Some xs) (h.2 ∙ ap (λ k. take (length text - k) text) n))
