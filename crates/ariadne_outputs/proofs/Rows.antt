-- What is added one after the other.
use Rattle.std.proofs.Common.{◌≡◌, ◌∙◌, ℕ, List, [], ◌++◌, ap}

-- two texts
pub both_added : (t0 t1 t2 a b : List ℕ) → t0 ≡ [] → t1 ≡ t0 ++ a → t2 ≡ t1 ++ b → t2 ≡ a ++ b
both_added t0 t1 t2 a b none one two = two ∙ ap (λ t. t ++ b) (one ∙ ap (λ t. t ++ a) none)

-- four texts
pub four_added : (t0 t1 t2 t3 t4 a b c d : List ℕ) → t0 ≡ [] → t1 ≡ t0 ++ a → t2 ≡ t1 ++ b → t3 ≡ t2 ++ c → t4 ≡ t3 ++ d
    → t4 ≡ a ++ b ++ c ++ d
four_added t0 t1 t2 t3 t4 a b c d none one two three four =
    four ∙ ap (λ t. t ++ d) (three ∙ ap (λ t. t ++ c) (both_added t0 t1 t2 a b none one two))
