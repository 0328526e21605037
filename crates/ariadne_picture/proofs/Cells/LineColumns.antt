-- The column of a place, as the sum of the columns of the places before it.
use Rattle.std.proofs.Common.{◌≡◌, ℕ, zero, suc, ◌+◌, [], ◌∷◌, refl, sym, ap, ◌∙◌, arith}
use Rattle.ariadne_base.specs.Locations.{upto}
use Rattle.ariadne_picture.specs.declared.switches.Switches.{Switches}
use Rattle.ariadne_picture.specs.Lists.{total}
use Rattle.ariadne_picture.specs.Columns.{Layout, width, column_of}
use Rattle.ariadne_picture.proofs.Lists.Joined.{range_more}
use Rattle.ariadne_picture.proofs.Lists.Occurrences.{total-append}

-- a sum over one number
total-one : (f : ℕ → ℕ) (n : ℕ) → total f (n ∷ []) ≡ f n
unfolding total
total-one f n = omega arith

-- a sum over the numbers below n, and one number more
pub total-upto_more : (f : ℕ → ℕ) (n : ℕ) → total f (upto (n + 1)) ≡ total f (upto n) + f n
total-upto_more f n =
    let z : 0 + n ≡ n = omega arith in
    ap (total f) (range_more 0 n) ∙ total-append f (upto n) ((0 + n) ∷ []) ∙ ap (λ t. total f (upto n) + t) (total-one f (0 + n) ∙ ap f z)

-- a place begins behind the columns of those before it
pub column_of-total : (switches : Switches) (y : Layout) (k : ℕ) → column_of switches y k ≡ total (width switches y) (upto k)
unfolding width total column_of
column_of-total switches y zero = refl
column_of-total switches y (suc k) =
    let e : suc k ≡ k + 1 = omega arith in
    ap (λ n. n + width switches y k) (column_of-total switches y k) ∙ sym (total-upto_more (width switches y) k)
    ∙ sym (ap (λ n. total (width switches y) (upto n)) e)
