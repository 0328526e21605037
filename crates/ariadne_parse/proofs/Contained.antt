-- Words that stand in a text.
use Rattle.std.proofs.Common.{◌≡◌, ◌∙◌, ap, refl, sym, inl, inr}
use Rattle.std.proofs.lemmas.Bool.{cases_Bool, false≢true, or_right}
use Rattle.std.proofs.lemmas.Bool.Decides.{Decides-eqb}
use Rattle.std.proofs.lemmas.Slice.Eq.{starts_is}
use Rattle.std.proofs.lemmas.Str.Pattern.{contains_text}
use Rattle.std.specs.Prelude.{ℕ, Bool, true, false, ◌||◌, List, [], ◌∷◌, ◌++◌, drop, length, None, MatchBool}
use Rattle.std.specs.Str.Iter.{HasSubslice}
use Rattle.std.specs.Str.Pattern.{FindsText, HasMatch}
use Rattle.ariadne_parse.specs.TextPieces.{begins_with, contains}

-- words that a text begins with
at_front : (words text : List ℕ) → begins_with words text ≡ true → contains words text ≡ true
at_front words [] is = is
at_front words (c ∷ text) is = ap (λ b. b || contains words text) is

front_is : (words text rest : List ℕ) → text ≡ words ++ rest → begins_with words text ≡ true
front_is words text rest is = (starts_is Decides-eqb text words (begins_with words text) refl).1 rest is

rest_is : (words text : List ℕ) → begins_with words text ≡ true → text ≡ words ++ drop (length words) text
rest_is words text is = (starts_is Decides-eqb text words (begins_with words text) refl).0 is

-- those behind others
behind_others : (words others rest : List ℕ) → contains words (others ++ (words ++ rest)) ≡ true
behind_others words [] rest = at_front words (words ++ rest) (front_is words (words ++ rest) rest refl)
behind_others words (c ∷ others) rest =
    or_right (begins_with words (c ∷ (others ++ (words ++ rest)))) (contains words (others ++ (words ++ rest)))
    (behind_others words others rest)

-- words that stand in a text are there
found : (words text : List ℕ) → contains words text ≡ true → HasSubslice text words
found words [] is = ([], drop (length words) [], rest_is words [] is)
found words (c ∷ text) is = elim (cases_Bool (begins_with words (c ∷ text))) [
  | inl on ↦ ([], drop (length words) (c ∷ text), rest_is words (c ∷ text) on)
  | inr off ↦
      let more = found words text (sym (ap (λ b. b || contains words text) off) ∙ is) in
      (c ∷ more.0, more.1, ap (λ (xs : List ℕ). c ∷ xs) more.2)
]

-- `contains` at words
pub contains_is : (r : Bool) (words text : List ℕ) → MatchBool r (HasMatch (FindsText words) text) (FindsText words text None)
    → r ≡ contains words text
contains_is true words text h =
    let there : HasSubslice text words = (contains_text true words text h).0 refl in
    sym (ap (contains words) there.2 ∙ behind_others words there.0 there.1)
contains_is false words text h = elim (cases_Bool (contains words text)) [
  | inl on ↦ absurd (false≢true ((contains_text false words text h).1 (found words text on)))
  | inr off ↦ sym off
]
