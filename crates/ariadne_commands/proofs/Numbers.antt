-- The number that a word writes.
use Rattle.std.proofs.Common.{◌≡◌, refl}
use Rattle.std.specs.Prelude.{ℕ, ◌^◌, ◌<◌, Bool, true, false, ◌&&◌, nat_lt, List, length, Option, Some, None, SomeIff}
use Rattle.std.specs.Cmp.Derive.{both_true}
use Rattle.std.specs.Str.{all_ascii_digits}
use Rattle.std.specs.Str.Parse.{IsNumeral, digits_value}
use Rattle.std.proofs.lemmas.Bool.{and_parts, ltb-true, lt-ltb}
use Rattle.std.proofs.lemmas.Str.Parse.{IsNumeralModel, numerals_by_value, tells_all_ascii_digits}
use Rattle.ariadne_commands.specs.Words.{is_number, number_of}

-- the test of digits, in other words
digits : IsNumeralModel (λ ds. all_ascii_digits ds ≡ true) (digits_value 10)
digits = numerals_by_value (λ ds. all_ascii_digits ds ≡ true) tells_all_ascii_digits

-- a numeral below 2 ^ 64 passes the test
passes : (word : List ℕ) → IsNumeral 10 word → digits_value 10 word < 2 ^ 64 → is_number word ≡ true
passes word is below =
    both_true (both_true (lt-ltb 0 (length word) is.0) (digits.from word is.1)) (lt-ltb _ _ below)

-- what passes the test is one
passed : (word : List ℕ) → is_number word ≡ true → IsNumeral 10 word × (digits_value 10 word < 2 ^ 64)
passed word test =
    let parts = and_parts (nat_lt 0 (length word) && all_ascii_digits word) (nat_lt (digits_value 10 word) (2 ^ 64)) test in
    let first = and_parts (nat_lt 0 (length word)) (all_ascii_digits word) parts.0 in
    ((ltb-true 0 (length word) first.0, digits.to word first.1), ltb-true (digits_value 10 word) (2 ^ 64) parts.1)

-- what is no numeral below 2 ^ 64 fails it
fails_test : (word : List ℕ) (test : Bool) → is_number word ≡ test → ¬ (IsNumeral 10 word × (digits_value 10 word < 2 ^ 64)) → test ≡ false
fails_test word true is none = absurd (none (passed word is))
fails_test word false is none = refl

-- the number where it is one, and nothing else
pub number_is : (word : List ℕ) (number : Option ℕ)
    → SomeIff number (IsNumeral 10 word × (digits_value 10 word < 2 ^ 64)) (digits_value 10 word) → number ≡ number_of word
unfolding number_of
number_is word None none = rw (fails_test word (is_number word) refl none) refl
number_is word (Some n) some = rw (passes word some.0.0 some.0.1, some.1) refl
