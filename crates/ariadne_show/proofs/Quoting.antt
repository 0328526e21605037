-- Lines that are quoted: the first and the last of them, and their texts.
use Rattle.std.proofs.Common.{◌≡◌, ◌∙◌, ◌+◌, ◌≤◌, add-one, append-nil, ap, arith, sym}
use Rattle.std.proofs.lemmas.Grind.{flat_map-append}
use Rattle.std.specs.List.{flat_map, range_with_len}
use Rattle.std.specs.Prelude.{ℕ, suc, zero, List, [], ◌∷◌, ◌++◌, fold, max, min}

pub least_below : (n : ℕ) (xs : List ℕ) → fold (λ a b. min a b) n xs ≤ n
least_below n [] = omega arith
least_below n (x ∷ xs) = omega (arith, least_below (min n x) xs)

pub greatest_above : (n : ℕ) (xs : List ℕ) → n ≤ fold (λ a b. max a b) n xs
greatest_above n [] = omega arith
greatest_above n (x ∷ xs) = omega (arith, greatest_above (max n x) xs)

-- one number more
range_more : (a n : ℕ) → range_with_len a (suc n) ≡ range_with_len a n ++ (a + n) ∷ []
range_more a zero = ap (λ (k : ℕ). k ∷ []) (omega arith)
range_more a (suc n) =
    ap (λ (ks : List ℕ). a ∷ ks) (range_more (a + 1) n ∙ ap (λ (k : ℕ). range_with_len (a + 1) n ++ k ∷ []) (omega arith))

-- one text more
pub flat_more : (f : ℕ → List ℕ) (a k n m : ℕ) (old new : List ℕ) → m ≡ n + 1 → k ≡ a + n
    → old ≡ flat_map f (range_with_len a n) → new ≡ old ++ f k → new ≡ flat_map f (range_with_len a m)
flat_more f a k n m old new more at before added =
    added ∙ ap (λ (t : List ℕ). t ++ f k) before ∙ ap (λ (j : ℕ). flat_map f (range_with_len a n) ++ f j) at
    ∙ ap (λ (t : List ℕ). flat_map f (range_with_len a n) ++ t) (sym (append-nil (f (a + n))))
    ∙ sym (flat_map-append f (range_with_len a n) ((a + n) ∷ []))
    ∙ ap (flat_map f) (sym (range_more a n)) ∙ ap (λ (j : ℕ). flat_map f (range_with_len a j)) (sym (more ∙ add-one n))
