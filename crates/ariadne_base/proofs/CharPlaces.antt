-- The bytes before a character.
use Rattle.std.proofs.Common.{◌≡◌, ℕ, ◌≤◌, true, List, length, take, drop, sym, ap, ◌∙◌, inl, inr, arith, take_all, take_at, length-take-le, take-append-drop}
use Rattle.std.specs.Fmt.{is_char_start}
use Rattle.std.specs.Str.{chars, IsUtf8, IsCharBoundary, encode_utf8_all}
use Rattle.std.proofs.lemmas.Bool.{cases_lt}
use Rattle.std.proofs.lemmas.Bool.Decides.{nat_tests}
use Rattle.std.proofs.lemmas.Str.{IsUtf8-take, chars-append, encodes-chars}
use Rattle.ariadne_base.specs.Separators.{IsCharPlace}
use Rattle.ariadne_base.proofs.CharStarts.{length-chars}

-- a first byte is ASCII or no continuation
start_apart : (b : ℕ) → is_char_start b ≡ true → 128 ≤ b → 192 ≤ b
start_apart b h high = grind (arith, nat_tests)

module _ (bs : List ℕ) (n at : ℕ) (u : IsUtf8 bs) (p : IsCharPlace bs n at) where
  cut : IsCharBoundary bs at
  cut = (p.fits, λ l high. start_apart _ (p.end l).0 high)

  front : IsUtf8 (take at bs)
  front = IsUtf8-take bs at u cut

  -- as many characters as lie before the place
  before : length (chars (take at bs)) ≤ n
  before = let size = length-chars (take at bs) front in let few = p.few in omega arith

  size_of_front : length (encode_utf8_all (chars (take at bs))) ≡ at
  size_of_front = ap length (encodes-chars (take at bs) front) ∙ length-take-le at bs p.fits

  -- they are the first n, or all
  first_chars : take n (chars bs) ≡ chars (take at bs)
  first_chars = elim (cases_lt at (length bs)) [
    | inl l ↦
        ap (λ xs. take n (chars xs)) (sym (take-append-drop at bs))
        ∙ ap (take n) (chars-append (take at bs) (drop at bs) front)
        ∙ take_at (chars (take at bs)) (chars (drop at bs)) n (length-chars (take at bs) front ∙ (p.end l).1)
    | inr g ↦
        let whole : take at bs ≡ bs = take_all at bs g in
        let few : length (chars bs) ≤ n = let same = ap (λ xs. length (chars xs)) whole in let most = before in omega arith in
        take_all n (chars bs) few ∙ ap chars (sym whole)
  ]

  pub place_is : at ≡ length (encode_utf8_all (take n (chars bs)))
  place_is = sym (ap (λ cs. length (encode_utf8_all cs)) first_chars ∙ size_of_front)
