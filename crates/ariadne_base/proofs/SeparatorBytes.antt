-- The separators of a text are where their bytes are.
use Rattle.std.proofs.Common.{◌≡◌, ℕ, ◌+◌, ◌<◌, ◌≤◌, ◌⊎◌, ◌||◌, Bool, true, false, List, [], ◌∷◌, ◌++◌, length, get_or, take, drop, refl, sym, ap, subst, ◌∙◌, inl, inr, arith, length-append, get_or-append-add, length-take-le, take-append-drop}
use Rattle.std.specs.Str.{chars, IsUtf8, NonePass, IsCharBoundary}
use Rattle.std.proofs.lemmas.Bool.{cases_Bool, both_ways}
use Rattle.std.proofs.lemmas.Bool.Decides.{nat_tests}
use Rattle.std.proofs.lemmas.List.{append_assoc}
use Rattle.std.proofs.lemmas.Str.{encode_ascii, length-encode, len_utf8_bounds, encodes-chars, IsUtf8-take}
use lib.Utf8.{encode, encodes}
use Rattle.ariadne_base.specs.Lines.{is_separator}
use Rattle.ariadne_base.specs.Separators.{is_control, begins_wide, separator_at}

-- the seven separators
separator_cases : (c : ℕ) → is_separator c ≡ true → ((10 ≤ c) × (c ≤ 13)) ⊎ ((c ≡ 0x85) ⊎ ((c ≡ 0x2028) ⊎ (c ≡ 0x2029)))
unfolding is_separator
separator_cases c h = grind (arith, nat_tests)

-- an ASCII separator is its byte
control_is : (a : ℕ) (t : Bool) → 10 ≤ a → a ≤ 13 → (is_control a || t) ≡ true
unfolding is_control
control_is a t l h = grind (arith, nat_tests)

control_at : (c : ℕ) (t : List ℕ) → 10 ≤ c → c ≤ 13 → separator_at (encode c ++ t) 0 ≡ true
control_at c t l h =
    ap (λ bs. separator_at (bs ++ t) 0) (encode_ascii c (omega arith))
    ∙ control_is c (begins_wide c (get_or t 0 0) (get_or t 1 0)) l h

-- the others have two and three
next_line_at : (t : List ℕ) → separator_at (encode 0x85 ++ t) 0 ≡ true
unfolding is_control begins_wide encode
next_line_at t = refl

line_separator_at : (t : List ℕ) → separator_at (encode 0x2028 ++ t) 0 ≡ true
unfolding is_control begins_wide encode
line_separator_at t = refl

paragraph_separator_at : (t : List ℕ) → separator_at (encode 0x2029 ++ t) 0 ≡ true
unfolding is_control begins_wide encode
paragraph_separator_at t = refl

-- the bytes of a separator begin with one
at_separator : (c : ℕ) (t : List ℕ) → is_separator c ≡ true → separator_at (encode c ++ t) 0 ≡ true
at_separator c t h =
    elim (separator_cases c h) [
      | inl a ↦ control_at c t a.0 a.1
      | inr a ↦ elim a [
        | inl e ↦ subst (λ x. separator_at (encode x ++ t) 0 ≡ true) (sym e) (next_line_at t)
        | inr b ↦ elim b [
          | inl e ↦ subst (λ x. separator_at (encode x ++ t) 0 ≡ true) (sym e) (line_separator_at t)
          | inr e ↦ subst (λ x. separator_at (encode x ++ t) 0 ≡ true) (sym e) (paragraph_separator_at t)
        ]
      ]
    ]

-- a place behind a first part is a place in the second
separator_at-append : (xs ys : List ℕ) (k : ℕ) → separator_at (xs ++ ys) (length xs + k) ≡ separator_at ys k
separator_at-append xs ys k =
    let one : get_or (xs ++ ys) (length xs + k + 1) 0 ≡ get_or ys (k + 1) 0 =
    ap (λ n. get_or (xs ++ ys) n 0) (omega arith) ∙ get_or-append-add xs ys (k + 1) 0 in
    let two : get_or (xs ++ ys) (length xs + k + 2) 0 ≡ get_or ys (k + 2) 0 =
    ap (λ n. get_or (xs ++ ys) n 0) (omega arith) ∙ get_or-append-add xs ys (k + 2) 0 in
    rw (get_or-append-add xs ys k 0, one, two) refl

-- characters in whose bytes no separator begins
none_separates : (cs tail : List ℕ) → ((k : ℕ) → k < length (encodes cs) → separator_at (encodes cs ++ tail) k ≡ false)
    → NonePass (λ c. is_separator c) cs
none_separates [] tail h = tt
none_separates (c ∷ cs) tail h =
    let size = length-append (encode c) (encodes cs) in
    let wide = len_utf8_bounds c in
    let is = length-encode c in
    let assoc : (encode c ++ encodes cs) ++ tail ≡ encode c ++ (encodes cs ++ tail) = append_assoc (encode c) (encodes cs) tail in
    let first : is_separator c ≡ false = elim (cases_Bool (is_separator c)) [
      | inl y ↦ absurd (both_ways _ (h 0 (omega arith)) (ap (λ bs. separator_at bs 0) assoc ∙ at_separator c (encodes cs ++ tail) y))
      | inr n ↦ n
    ] in (
      first,
      none_separates cs tail (λ k l.
          sym (ap (λ bs. separator_at bs (length (encode c) + k)) assoc ∙ separator_at-append (encode c) (encodes cs ++ tail) k)
          ∙ h (length (encode c) + k) (omega arith)),
    )

-- the characters of a first part in whose bytes no separator begins
pub plain_chars : (bs : List ℕ) (n : ℕ) → IsUtf8 bs → IsCharBoundary bs n → ((k : ℕ) → k < n → separator_at bs k ≡ false)
    → NonePass (λ c. is_separator c) (chars (take n bs))
plain_chars bs n u cut plain =
    let e = encodes-chars (take n bs) (IsUtf8-take bs n u cut) in
    let size = ap length e in
    let short = length-take-le n bs cut.0 in
    none_separates (chars (take n bs)) (drop n bs) (λ k l.
    ap (λ xs. separator_at (xs ++ drop n bs) k) e ∙ ap (λ xs. separator_at xs k) (take-append-drop n bs) ∙ plain k (omega arith))

-- a separator begins where a character does
begins_apart : (a b c : ℕ) → (is_control a || begins_wide a b c) ≡ true → (a < 128) ⊎ (192 ≤ a)
unfolding is_control begins_wide
begins_apart a b c h = grind (arith, nat_tests)

pub separator_starts : (bs : List ℕ) (i : ℕ) → separator_at bs i ≡ true → 128 ≤ get_or bs i 0 → 192 ≤ get_or bs i 0
separator_starts bs i h high =
    elim (begins_apart (get_or bs i 0) (get_or bs (i + 1) 0) (get_or bs (i + 2) 0) h) [ inl l ↦ absurd (omega arith) | inr g ↦ g ]
