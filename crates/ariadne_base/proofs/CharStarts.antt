-- A text has as many characters as it has bytes that begin one.
use Rattle.std.proofs.Common.{◌≡◌, ℕ, ◌+◌, ◌/◌, ◌<◌, ◌≤◌, Bool, true, false, cond, List, [], ◌∷◌, length, refl, ap, ◌∙◌, inl, inr, arith, zero-add, lt-ltb, le-ltb, le-leb, take, drop, take-add, length-take-le}
use Rattle.std.specs.List.{count_by}
use Rattle.std.specs.Fmt.{is_char_start}
use Rattle.std.specs.Str.{chars, IsUtf8}
use Rattle.std.proofs.lemmas.Bool.{and_parts, or_left, or_right, or_from, lt-leb, cases_lt}
use Rattle.std.proofs.lemmas.List.Sums.{sum_by-cons, sum_by-append, sum_by-take-drop, count_by-le-length}
use Rattle.std.proofs.lemmas.Str.{encode_ascii, encodes-chars, scalars-chars}
use lib.Utf8.{scalar, scalars, encode, encodes, next, scalar_cases}

-- a character's bytes, by its size
two : (c : ℕ) → 128 ≤ c → c < 2048 → encode c ≡ (192 + c / 64) ∷ next c ∷ []
unfolding encode
two c l h = rw (le-ltb c 128 l, lt-ltb c 2048 h)

three : (c : ℕ) → 2048 ≤ c → c < 65536 → encode c ≡ (224 + c / 4096) ∷ next (c / 64) ∷ next c ∷ []
unfolding encode
three c l h = rw (le-ltb c 128 (omega arith), le-ltb c 2048 l, lt-ltb c 65536 h)

four : (c : ℕ) → 65536 ≤ c → encode c ≡ (240 + c / 262144) ∷ next (c / 4096) ∷ next (c / 64) ∷ next c ∷ []
unfolding encode
four c l = rw (le-ltb c 128 (omega arith), le-ltb c 2048 (omega arith), le-ltb c 65536 l)

-- a byte that is no continuation begins a character
pub starts_low : (b : ℕ) → b < 128 → is_char_start b ≡ true
starts_low b h = or_left _ _ (lt-ltb b 128 h)

pub starts_high : (b : ℕ) → 192 ≤ b → is_char_start b ≡ true
starts_high b h = or_right _ _ (le-leb 192 b h)

next_starts_none : (n : ℕ) → is_char_start (next n) ≡ false
next_starts_none n = or_from _ _ (le-ltb (next n) 128 (omega arith)) (lt-leb 192 (next n) (omega arith))

-- a count with one element more in front
count_yes : (p : ℕ → Bool) (b : ℕ) (bs : List ℕ) → p b ≡ true → count_by p (b ∷ bs) ≡ 1 + count_by p bs
count_yes p b bs h = sum_by-cons (λ x. cond (p x) 1 0) b bs ∙ ap (λ t. cond t 1 0 + count_by p bs) h

count_no : (p : ℕ → Bool) (b : ℕ) (bs : List ℕ) → p b ≡ false → count_by p (b ∷ bs) ≡ count_by p bs
count_no p b bs h = sum_by-cons (λ x. cond (p x) 1 0) b bs ∙ ap (λ t. cond t 1 0 + count_by p bs) h ∙ zero-add (count_by p bs)

-- a first byte and the bytes that continue it
lead_alone : (b : ℕ) (bs : List ℕ) → is_char_start b ≡ true → count_by is_char_start bs ≡ 0 → count_by is_char_start (b ∷ bs) ≡ 1
lead_alone b bs h none = count_yes is_char_start b bs h ∙ ap (λ n. 1 + n) none

more : (n : ℕ) (bs : List ℕ) → count_by is_char_start bs ≡ 0 → count_by is_char_start (next n ∷ bs) ≡ 0
more n bs none = count_no is_char_start (next n) bs (next_starts_none n) ∙ none

-- one byte of a character begins it
one_start : (c : ℕ) → scalar c ≡ true → count_by is_char_start (encode c) ≡ 1
one_start c ok =
    let range = scalar_cases c ok in
    elim (cases_lt c 128) [
      | inl a ↦ ap (count_by is_char_start) (encode_ascii c a) ∙ lead_alone c [] (starts_low c a) refl
      | inr a ↦ elim (cases_lt c 2048) [
        | inl b ↦ ap (count_by is_char_start) (two c a b)
            ∙ lead_alone (192 + c / 64) (next c ∷ []) (starts_high (192 + c / 64) (omega arith)) (more c [] refl)
        | inr b ↦ elim (cases_lt c 65536) [
          | inl d ↦ ap (count_by is_char_start) (three c b d)
              ∙ lead_alone (224 + c / 4096) (next (c / 64) ∷ next c ∷ []) (starts_high (224 + c / 4096) (omega arith))
              (more (c / 64) (next c ∷ []) (more c [] refl))
          | inr d ↦ ap (count_by is_char_start) (four c d)
              ∙ lead_alone (240 + c / 262144) (next (c / 4096) ∷ next (c / 64) ∷ next c ∷ []) (starts_high (240 + c / 262144) (omega arith))
              (more (c / 4096) (next (c / 64) ∷ next c ∷ []) (more (c / 64) (next c ∷ []) (more c [] refl)))
        ]
      ]
    ]

-- so do the bytes of a list of characters
counted : (cs : List ℕ) → scalars cs ≡ true → length cs ≡ count_by is_char_start (encodes cs)
counted [] h = refl
counted (c ∷ cs) h =
    let parts = and_parts (scalar c) (scalars cs) h in
    let both = sum_by-append (λ x. cond (is_char_start x) 1 0) (encode c) (encodes cs) in
    let one = one_start c parts.0 in
    let others = counted cs parts.1 in
    omega arith

pub length-chars : (bs : List ℕ) → IsUtf8 bs → length (chars bs) ≡ count_by is_char_start bs
length-chars bs u = counted (chars bs) (scalars-chars bs u) ∙ ap (count_by is_char_start) (encodes-chars bs u)

-- a count goes on over the next bytes
pub count_more : (bs : List ℕ) (at k n m : ℕ) → n ≡ count_by is_char_start (take at bs) → m ≡ count_by is_char_start (take k (drop at bs))
    → n + m ≡ count_by is_char_start (take (at + k) bs)
count_more bs at k n m e f =
    let both = sum_by-append (λ x. cond (is_char_start x) 1 0) (take at bs) (take k (drop at bs)) in
    let joined = ap (count_by is_char_start) (take-add at k bs) in
    omega arith

-- a first part has at most as many as it has bytes
pub count-le : (bs : List ℕ) (n : ℕ) → n ≤ length bs → count_by is_char_start (take n bs) ≤ n
count-le bs n h = omega (arith, count_by-le-length is_char_start (take n bs), length-take-le n bs h)

-- the characters of two parts
pub count_rest : (bs : List ℕ) (at n m : ℕ) → n ≡ count_by is_char_start (take at bs) → m ≡ count_by is_char_start (drop at bs)
    → n + m ≡ count_by is_char_start bs
count_rest bs at n m e f =
    let whole = sum_by-take-drop (λ x. cond (is_char_start x) 1 0) bs at in
    omega arith
