-- The greater of two numbers, and how many digits one has.
use Rattle.std.proofs.Common.{◌≡◌, ℕ, ◌^◌, ◌<◌, ◌≤◌, length, max, arith, rules, nat_cmp}
use Rattle.std.specs.Ordering.{ord_max}
use Rattle.std.specs.Prelude.{decimal}
use Rattle.std.proofs.lemmas.Fmt.{length-decimal-le}

-- as the code takes it
pub max_is : (a b : ℕ) → ord_max nat_cmp a b ≡ max a b
max_is a b = search rules

-- a number of 64 bits has at most 20 digits
pub few_digits : (n : ℕ) → n < 2 ^ 64 → length (decimal n) ≤ 20
few_digits n h = length-decimal-le 20 n (omega arith) (omega (arith, h)) h
