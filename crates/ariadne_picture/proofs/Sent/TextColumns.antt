-- The columns of texts: of a character's bytes, of printable ASCII, and of numbers.
use Rattle.std.proofs.Common.{◌≡◌, ℕ, zero, suc, ◌+◌, ◌-◌, ◌*◌, ◌/◌, ◌%◌, ◌<◌, ◌≤◌, true, false, cond, List, [], ◌∷◌, ◌++◌, length}
use Rattle.std.proofs.Common.{refl, sym, ap, ◌∙◌, arith, ◌==◌, nat_lt, inl, inr}
use Rattle.std.specs.Prelude.{decimal, encode_utf8}
use Rattle.std.specs.Str.{chars, chars_after}
use Rattle.std.specs.Fmt.{digits, digits_onto, digit_glyph}
use Rattle.std.specs.List.{AllByRecursion}
use Rattle.std.proofs.lemmas.Bool.{cond_both, cond-true, cases_Bool, lt-ltb, ltb-true, le-leb, le-ltb, true≢false, eqb-true, eq-eqb}
use Rattle.std.proofs.lemmas.List.{append-nil}
use Rattle.std.proofs.lemmas.Str.{encode_ascii}
use Rattle.unicode_width.specs.Width.{char_width}
use Rattle.ariadne_picture.specs.Lists.{total}
use Rattle.ariadne_picture.specs.Columns.{char_columns, text_columns}
use Rattle.ariadne_picture.specs.Pieces.{spaces}
use Rattle.ariadne_picture.proofs.Cells.RowCells.{all-replicate}

-- ---- characters and their bytes

-- where no byte of a character is left, the next one begins
after-whole : (c : ℕ) (t : List ℕ) → chars_after zero c t ≡ c ∷ chars t
unfolding chars
after-whole c [] = refl
after-whole c (b ∷ t) = refl

-- the bytes of a character in front of others spell it, and then what the others spell
pub chars-encode : (c : ℕ) (t : List ℕ) → chars (encode_utf8 c ++ t) ≡ c ∷ chars t
unfolding chars lib.Utf8.encode
chars-encode c t =
    let next = λ (n : ℕ). 128 + n % 64 in
    let two = (192 + c / 64) ∷ next c ∷ [] in
    let three = (224 + c / 4096) ∷ next (c / 64) ∷ next c ∷ [] in
    let four = (240 + c / 262144) ∷ next (c / 4096) ∷ next (c / 64) ∷ next c ∷ [] in
    let long = cond (nat_lt c 65536) three four in
    let Spells : List ℕ → Type 0 = λ bs. chars (bs ++ t) ≡ c ∷ chars t in
    cond_both (nat_lt c 128) (c ∷ []) (cond (nat_lt c 2048) two long) Spells (λ h. rw h (after-whole c t))
    (λ f. cond_both (nat_lt c 2048) two long Spells (λ h.
    let less = ltb-true c 2048 h in
    let x : nat_lt (192 + c / 64) 128 ≡ false = le-ltb (192 + c / 64) 128 (omega arith) in
    let y : nat_lt (192 + c / 64) 224 ≡ true = lt-ltb (192 + c / 64) 224 (omega arith) in
    let z : (192 + c / 64 - 192) * 64 + (128 + c % 64 - 128) ≡ c = omega arith in
    rw (x, y) (after-whole _ t ∙ ap (λ d. d ∷ chars t) z))
    (λ g. cond_both (nat_lt c 65536) three four Spells (λ h.
    let less = ltb-true c 65536 h in
    let x : nat_lt (224 + c / 4096) 128 ≡ false = le-ltb (224 + c / 4096) 128 (omega arith) in
    let y : nat_lt (224 + c / 4096) 224 ≡ false = le-ltb (224 + c / 4096) 224 (omega arith) in
    let w : nat_lt (224 + c / 4096) 240 ≡ true = lt-ltb (224 + c / 4096) 240 (omega arith) in
    let z : ((224 + c / 4096 - 224) * 64 + (128 + c / 64 % 64 - 128)) * 64 + (128 + c % 64 - 128) ≡ c = omega arith in
    rw (x, y, w) (after-whole _ t ∙ ap (λ d. d ∷ chars t) z))
    (λ h.
    let x : nat_lt (240 + c / 262144) 128 ≡ false = le-ltb (240 + c / 262144) 128 (omega arith) in
    let y : nat_lt (240 + c / 262144) 224 ≡ false = le-ltb (240 + c / 262144) 224 (omega arith) in
    let w : nat_lt (240 + c / 262144) 240 ≡ false = le-ltb (240 + c / 262144) 240 (omega arith) in
    let z : (((240 + c / 262144 - 240) * 64 + (128 + c / 4096 % 64 - 128)) * 64 + (128 + c / 64 % 64 - 128)) * 64 + (128 + c % 64 - 128) ≡ c = omega arith in
    rw (x, y, w) (after-whole _ t ∙ ap (λ d. d ∷ chars t) z))))

-- so their columns add up
pub columns-encode : (c : ℕ) (t : List ℕ) → text_columns (encode_utf8 c ++ t) ≡ char_columns c + text_columns t
unfolding text_columns total
columns-encode c t = ap (total char_columns) (chars-encode c t)

-- a character alone
pub columns-one : (c : ℕ) → text_columns (encode_utf8 c) ≡ char_columns c
unfolding text_columns total chars
columns-one c =
    let last : char_columns c + text_columns [] ≡ char_columns c = omega arith in
    ap text_columns (sym (append-nil (encode_utf8 c))) ∙ columns-encode c [] ∙ last

-- ---- texts of printable ASCII

-- a printable character below 127
pub record IsLow (b : ℕ) : Type 0 where
  pub from : 32 ≤ b
  pub below : b < 127

-- it takes one column
low-columns : (b : ℕ) → IsLow b → char_columns b ≡ 1
unfolding char_columns char_width
low-columns b h =
    let less = lt-ltb b 127 h.below in
    let least = le-leb 32 b h.from in
    rw (less, least) refl

-- so a text of them takes as many columns as bytes, whatever stands behind it
pub columns-low : (s t : List ℕ) → AllByRecursion IsLow s → text_columns (s ++ t) ≡ length s + text_columns t
columns-low [] t a = omega arith
columns-low (b ∷ s) t a =
    let below = a.0.below in
    let byte : encode_utf8 b ≡ b ∷ [] = encode_ascii b (omega arith) in
    let more = columns-low s t a.1 in
    let one = low-columns b a.0 in
    let step : text_columns (b ∷ (s ++ t)) ≡ char_columns b + text_columns (s ++ t) =
    ap (λ bs. text_columns (bs ++ (s ++ t))) (sym byte) ∙ columns-encode b (s ++ t) in
    omega (arith, step, one, more)

-- blanks
pub low-spaces : (n : ℕ) → AllByRecursion IsLow (spaces n)
unfolding spaces
low-spaces n = all-replicate IsLow n 32 (record { from = omega arith; below = omega arith })

-- digits in front of others
low-digits : (k n : ℕ) (t : List ℕ) → AllByRecursion IsLow t → AllByRecursion IsLow (digits_onto k 10 false n t)
low-digits zero n t a = a
low-digits (suc k) n t a =
    let d = digit_glyph false (n % 10) in
    let small : n % 10 < 10 = omega arith in
    let is : d ≡ 48 + n % 10 = cond-true (nat_lt (n % 10) 10) (48 + n % 10) (87 + n % 10) (lt-ltb (n % 10) 10 small) in
    let h : IsLow d = record { from = omega (arith, is, small); below = omega (arith, is, small) } in
    cond_both (n / 10 == 0) (d ∷ t) (digits_onto k 10 false (n / 10) (d ∷ t)) (AllByRecursion IsLow)
    (λ _. (h, a)) (λ _. low-digits k (n / 10) (d ∷ t) (h, a))

-- a number
pub low-decimal : (n : ℕ) → AllByRecursion IsLow (decimal n)
unfolding digits
low-decimal n = low-digits 64 n [] tt

-- ---- a greater number has no fewer digits

-- digits come in front
digits-grow : (k n : ℕ) (t : List ℕ) → length t ≤ length (digits_onto k 10 false n t)
digits-grow zero n t = omega arith
digits-grow (suc k) n t =
    let d = digit_glyph false (n % 10) in
    let more = digits-grow k (n / 10) (d ∷ t) in
    cond_both (n / 10 == 0) (d ∷ t) (digits_onto k 10 false (n / 10) (d ∷ t)) (λ u. length t ≤ length u) (λ _. omega arith) (λ _. omega arith)

-- of two numbers the greater one's digits are no fewer, behind as many or more
digits-rise : (k n m : ℕ) (t u : List ℕ) → n ≤ m → length t ≤ length u
    → length (digits_onto k 10 false n t) ≤ length (digits_onto k 10 false m u)
digits-rise zero n m t u h len = len
digits-rise (suc k) n m t u h len =
    let d = digit_glyph false (n % 10) in
    let e = digit_glyph false (m % 10) in
    let less : n / 10 ≤ m / 10 = omega arith in
    let more = digits-rise k (n / 10) (m / 10) (d ∷ t) (e ∷ u) less (omega arith) in
    let grow = digits-grow k (m / 10) (e ∷ u) in
    elim (cases_Bool (n / 10 == 0)) [
      | inl low ↦ rw low (cond_both (m / 10 == 0) (e ∷ u) (digits_onto k 10 false (m / 10) (e ∷ u)) (λ u. suc (length t) ≤ length u)
          (λ _. omega arith) (λ _. omega arith))
      | inr high ↦ elim (cases_Bool (m / 10 == 0)) [
        | inl none ↦
            let big = eqb-true (m / 10) 0 none in
            let small : n / 10 ≡ 0 = omega arith in
            absurd (true≢false (sym (eq-eqb (n / 10) 0 small) ∙ high))
        | inr both ↦ rw (high, both) more
      ]
    ]

pub decimal-rises : (n m : ℕ) → n ≤ m → length (decimal n) ≤ length (decimal m)
unfolding digits
decimal-rises n m h = digits-rise 64 n m [] [] h (omega arith)
