-- The first word of a text, character by character.
use Rattle.std.proofs.Common.{◌≡◌, ◌∙◌, ℕ, suc, ◌-◌, List, ◌∷◌, ◌++◌, length, refl, ap, sym, arith}
use Rattle.std.specs.Prelude.{Bool, true, false, not, ◌&&◌, ◌==◌, nat_le, if◌then◌else◌, cond, chars, encode_utf8}
use Rattle.std.specs.Str.{IsUtf8}
use Rattle.std.proofs.lemmas.Str.{IsUtf8-past_char, chars-nil, chars_past_char}
use Rattle.std.proofs.lemmas.List.{nil_from_length}
use Rattle.std.proofs.lemmas.Bool.Decides.{nat_tests}
use Rattle.ariadne_blocks.specs.Messages.{word_length}

-- of the first word so many characters are missing, where the rest of a text is not read yet
pub record IsMissing (text rest : List ℕ) (least missing : ℕ) (is_quoted : Bool) : Type 0 where
  pub whole : nat_le missing (word_length is_quoted (chars rest)) ≡ nat_le least (word_length false (chars text))
  pub utf8 : IsUtf8 rest

pub missing_first : (text : List ℕ) (least : ℕ) → IsUtf8 text → IsMissing text text least least false
missing_first text least u = record { whole = refl; utf8 = u }

-- one less is where a character more was read
one_less : (missing n : ℕ) → nat_le (missing - 1) n ≡ nat_le missing (suc n)
one_less missing n = grind (arith, nat_tests)

none_left : (missing : ℕ) → (missing == 0) ≡ nat_le missing 0
none_left missing = grind (arith, nat_tests)

-- a blank ends the word outside of quotes, and any other character doesn't
pub blank_ends : (c : ℕ) (is_quoted : Bool) → c ≡ 32 → is_quoted ≡ false → (c == 32 && not is_quoted) ≡ true
blank_ends c is_quoted h k = rw (h, k) refl

pub quoted_goes : (c : ℕ) (is_quoted : Bool) → is_quoted ≡ true → (c == 32 && not is_quoted) ≡ false
quoted_goes c true h = elim (c == 32) as (λ b. (b && false) ≡ false) [ true ↦ refl | false ↦ refl ]
quoted_goes c false h = absurd (cc h)

pub other_goes : (c : ℕ) (is_quoted : Bool) → (c ≡ 32 → ⊥) → (c == 32 && not is_quoted) ≡ false
other_goes c is_quoted h = grind (arith, nat_tests)

-- a quote opens or closes quotes
pub flips : (c : ℕ) (is_quoted now : Bool) → now ≡ not is_quoted → c ≡ 34
    → now ≡ (if c == 34 then not is_quoted else is_quoted)
flips c is_quoted now is h = rw h is

pub keeps : (c : ℕ) (is_quoted now : Bool) → now ≡ is_quoted → (c ≡ 34 → ⊥)
    → now ≡ (if c == 34 then not is_quoted else is_quoted)
keeps c is_quoted now is h = grind (arith, nat_tests)

-- the word goes on with a character
goes_on : (c : ℕ) (is_quoted : Bool) (text : List ℕ) → (c == 32 && not is_quoted) ≡ false
    → word_length is_quoted (c ∷ text) ≡ suc (word_length (if c == 34 then not is_quoted else is_quoted) text)
goes_on c is_quoted text goes =
    ap (λ b. cond b 0 (suc (word_length (if c == 34 then not is_quoted else is_quoted) text))) goes

pub missing_next : (text rest left : List ℕ) (least missing c : ℕ) (is_quoted now : Bool)
    → IsMissing text rest least missing is_quoted → rest ≡ encode_utf8 c ++ left
    → (c == 32 && not is_quoted) ≡ false → now ≡ (if c == 34 then not is_quoted else is_quoted)
    → IsMissing text left least (missing - 1) now
missing_next text rest left least missing c is_quoted now so_far cut goes is = record {
  whole = ap (λ b. nat_le (missing - 1) (word_length b (chars left))) is
      ∙ one_less missing (word_length (if c == 34 then not is_quoted else is_quoted) (chars left))
      ∙ ap (nat_le missing) (sym (goes_on c is_quoted (chars left) goes))
      ∙ ap (λ t. nat_le missing (word_length is_quoted t)) (sym (chars_past_char rest left c so_far.utf8 cut))
      ∙ so_far.whole;
  utf8 = IsUtf8-past_char rest left c so_far.utf8 cut;
}

-- it ends at a blank
pub missing_end : (text rest left : List ℕ) (least missing c : ℕ) (is_quoted : Bool)
    → IsMissing text rest least missing is_quoted → rest ≡ encode_utf8 c ++ left
    → (c == 32 && not is_quoted) ≡ true → (missing == 0) ≡ nat_le least (word_length false (chars text))
missing_end text rest left least missing c is_quoted so_far cut ends =
    none_left missing
    ∙ ap (λ b. nat_le missing (cond b 0 (suc (word_length (if c == 34 then not is_quoted else is_quoted) (chars left))))) (sym ends)
    ∙ ap (λ t. nat_le missing (word_length is_quoted t)) (sym (chars_past_char rest left c so_far.utf8 cut))
    ∙ so_far.whole

-- or with the text
pub missing_all : (text rest : List ℕ) (least missing : ℕ) (is_quoted : Bool)
    → IsMissing text rest least missing is_quoted → length rest ≡ 0
    → (missing == 0) ≡ nat_le least (word_length false (chars text))
missing_all text rest least missing is_quoted so_far over =
    none_left missing
    ∙ ap (λ t. nat_le missing (word_length is_quoted t)) (sym (ap chars (nil_from_length rest over) ∙ chars-nil))
    ∙ so_far.whole
