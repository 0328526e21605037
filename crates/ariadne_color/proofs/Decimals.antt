-- The decimal digits of numbers below a thousand.
use Rattle.std.proofs.Common.{◌≡◌, ℕ, ◌+◌, ◌/◌, ◌%◌, ◌<◌, ◌≤◌, [], ◌∷◌, ◌++◌, decimal, arith, ◌∙◌, ap}
use Rattle.std.proofs.lemmas.Fmt.{decimal_digit, decimal_step}

-- a number of two digits is its tens and its ones
pub two_digits : (n : ℕ) → 10 ≤ n → n < 100 → decimal n ≡ (48 + n / 10) ∷ (48 + n % 10) ∷ []
two_digits n low high =
    decimal_step n low (omega arith)
    ∙ ap (λ ds. ds ++ (48 + n % 10) ∷ []) (decimal_digit (n / 10) (omega arith))

-- a number of three digits is its hundreds, its tens and its ones
pub three_digits : (n : ℕ) → 100 ≤ n → n < 1000 → decimal n ≡ (48 + n / 100) ∷ (48 + n / 10 % 10) ∷ (48 + n % 10) ∷ []
three_digits n low high =
    decimal_step n (omega arith) (omega arith)
    ∙ ap (λ ds. ds ++ (48 + n % 10) ∷ []) (two_digits (n / 10) (omega arith) (omega arith))
    ∙ ap (λ h. (48 + h) ∷ (48 + n / 10 % 10) ∷ (48 + n % 10) ∷ []) (omega arith)
