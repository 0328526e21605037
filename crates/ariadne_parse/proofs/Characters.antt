-- The first characters of a text, and what stands behind them.
use Rattle.std.proofs.Common.{◌≡◌, ◌∙◌, ap, sym, refl, ℕ, ◌+◌, ◌-◌, ◌<◌, ◌≤◌, true, false, List, [], ◌∷◌, ◌++◌, take, drop, length, eq-eqb, length-append, length-drop, arith, Option, Some, None}
use Rattle.std.proofs.Math.Dec.{eqb}
use Rattle.std.proofs.Math.ListN.{drop_of_length-le}
use Rattle.std.proofs.Math.Seq.{take-append_seam}
use Rattle.std.proofs.lemmas.List.{drop-drop, drop_at, take-append-drop}
use Rattle.std.proofs.lemmas.Str.{chars-nil, chars_past_char, encodes-append, encodes-chars, IsUtf8-past_char}
use Rattle.std.specs.Prelude.{is_some, MatchOption}
use Rattle.std.specs.Char.{encode_utf8}
use Rattle.std.specs.Cmp.Lexicographic.{pointwise}
use Rattle.std.specs.List.{ends_with}
use Rattle.std.specs.Str.{chars, encode_utf8_all, IsUtf8}
use Rattle.ariadne_parse.specs.TextPieces.{in_front_of_text}
use Rattle.ariadne_parse.specs.Suggested.{behind_chars, front_chars}

-- ---- behind them

-- a character comes off
pub past_char : (A : Type 0) (s t : List ℕ) (r : Option ℕ) (n : ℕ) (all : List ℕ) → IsUtf8 s → chars s ≡ drop n all
    → is_some r ≡ true → MatchOption r A (λ c. s ≡ encode_utf8 c ++ t) → (IsUtf8 t) × (chars t ≡ drop (n + 1) all)
past_char A s t None n all text left some step = absurd (cc some)
past_char A s t (Some c) n all text left some step = (
  IsUtf8-past_char s t c text step,
  ap (λ xs. drop 1 xs) (sym (chars_past_char s t c text step) ∙ left) ∙ drop-drop 1 n all,
)

-- behind all there is nothing
pub past_all : (A : Type 0) (s t : List ℕ) (r : Option ℕ) (n count : ℕ) (all : List ℕ) → chars s ≡ drop n all
    → n < count → is_some r ≡ false → MatchOption r ((length s ≡ 0) × A) (λ c. s ≡ encode_utf8 c ++ t)
    → [] ≡ encode_utf8_all (drop count all)
past_all A s t (Some c) n count all left lt none step = absurd (cc none)
past_all A [] t None n count all left lt none step =
    let empty : length (drop n all) ≡ 0 = ap length (sym left ∙ chars-nil) in
    let short : length all ≤ count = omega (arith, empty, length-drop n all) in
    ap encode_utf8_all (sym (drop_of_length-le all short))
past_all A (b ∷ s) t None n count all left lt none step = absurd (omega (arith, step.0))

-- what is left is the rest of the text
pub left_is : (s text : List ℕ) (n count : ℕ) → IsUtf8 s → chars s ≡ drop n (chars text) → n ≡ count
    → s ≡ behind_chars count text
left_is s text n count utf8 left e =
    sym (encodes-chars s utf8) ∙ ap encode_utf8_all left ∙ ap (λ k. encode_utf8_all (drop k (chars text))) e

-- ---- in front of that

same_points : (xs : List ℕ) → pointwise eqb xs xs ≡ true
same_points [] = refl
same_points (x ∷ xs) = rw (eq-eqb x x refl) (same_points xs)

-- a text is its first characters and the rest
both_parts : (count : ℕ) (text : List ℕ) → IsUtf8 text → text ≡ front_chars count text ++ behind_chars count text
both_parts count text utf8 =
    sym (encodes-chars text utf8)
    ∙ ap encode_utf8_all (sym (take-append-drop count (chars text)))
    ∙ encodes-append (take count (chars text)) (drop count (chars text))

in_front_of_both : (front behind : List ℕ) → in_front_of_text behind (front ++ behind) ≡ Some front
unfolding in_front_of_text
in_front_of_both front behind =
    let size : length (front ++ behind) - length behind ≡ length front = omega (arith, length-append front behind) in
    let ends : ends_with eqb (front ++ behind) behind ≡ true =
    ap (λ n. pointwise eqb behind (drop n (front ++ behind))) size
    ∙ ap (λ xs. pointwise eqb behind xs) (drop_at front behind (length front) refl)
    ∙ same_points behind in
    rw ends (ap (λ n. Some (take n (front ++ behind))) size ∙ ap (λ (xs : List ℕ). Some xs) (take-append_seam front behind))

pub in_front_is : (count : ℕ) (text behind : List ℕ) → IsUtf8 text → behind ≡ behind_chars count text
    → in_front_of_text behind text ≡ Some (front_chars count text)
in_front_is count text behind utf8 is =
    ap (λ xs. in_front_of_text xs text) is
    ∙ ap (λ xs. in_front_of_text (behind_chars count text) xs) (both_parts count text utf8)
    ∙ in_front_of_both (front_chars count text) (behind_chars count text)
