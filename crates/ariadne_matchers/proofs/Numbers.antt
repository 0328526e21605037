-- The number that digits are.
use Rattle.std.proofs.Common.{◌≡◌, ℕ, true, false, List, arith}
use Rattle.std.proofs.lemmas.Bool.Decides.{nat_tests}
use Rattle.std.proofs.lemmas.Str.Parse.{numerals_by_value, parse_digits, tells_all_ascii_digits}
use Rattle.std.specs.Prelude.{None, Result, Ok, Err}
use Rattle.std.specs.Result.{result_ok}
use Rattle.std.specs.Str.{all_ascii_digits}
use Rattle.std.specs.Str.Parse.{ParsesUnsigned}
use Rattle.ariadne_matchers.specs.Lasts.{number_in}

pub number_is : {E : Type 0} (text : List ℕ) (r : Result ℕ E) → ParsesUnsigned 32 10 text r → all_ascii_digits text ≡ true
    → result_ok r ≡ number_in text
unfolding number_in
number_is {E = E} text (Ok x) parses digits =
    let is = parse_digits (numerals_by_value _ tells_all_ascii_digits) {E = E} 32 text (Ok x) parses digits in
    grind (arith, nat_tests)
number_is {E = E} text (Err e) parses digits =
    let is = parse_digits (numerals_by_value _ tells_all_ascii_digits) {E = E} 32 text (Err e) parses digits in
    grind (arith, nat_tests)

pub no_number : (text : List ℕ) → all_ascii_digits text ≡ false → None ≡ number_in text
unfolding number_in
no_number text other = grind (arith, nat_tests)
