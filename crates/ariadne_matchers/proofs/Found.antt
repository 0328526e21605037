-- Where letters are found in a line.
use Rattle.std.proofs.Common.{◌≡◌, ℕ, ◌+◌, ◌≤◌, ◌==◌, List, [], ◌∷◌, length, Option, Some, None, Bool, true, false, if◌then◌else◌, arith}
use Rattle.ariadne_matchers.specs.QuotedMarks.{begin_line, found_in}

-- one of two places is within a bound, if both are
within_both : (b : Bool) (at n bound : ℕ) (rest : Option ℕ) → at ≤ bound → ((m : ℕ) → rest ≡ Some m → m ≤ bound)
    → (if b then Some at else rest) ≡ Some n → n ≤ bound
within_both true at n bound rest le more is = let same : at ≡ n = cc is in omega (arith, le, same)
within_both false at n bound rest le more is = more n is

-- a place that is found is in the line, or at its end
pub found_within : (letters : List ℕ) (at : ℕ) (line : List ℕ) (n : ℕ) → found_in letters at line ≡ Some n → n ≤ at + length line
unfolding found_in
found_within letters at [] n is =
    within_both (length letters == 0) at n (at + 0) None (omega arith) (λ m none. absurd (cc none)) is
found_within letters at (c ∷ line) n is =
    within_both (begin_line letters (c ∷ line)) at n (at + length (c ∷ line)) (found_in letters (at + 1) line) (omega arith)
    (λ m some. let le = found_within letters (at + 1) line m some in omega (arith, le)) is
