-- A piece more was appended.
use Rattle.std.proofs.Common.{ap, refl, not, Bool, true, false, ◌||◌, ◌&&◌, ◌==◌, ◌≡◌, ℕ, ◌+◌, List, ◌++◌, Option, take, drop, sym, subst}
use Rattle.std.proofs.lemmas.Bool.{ne_eqb}
use Rattle.std.specs.Io.KnownBytes.{Appends}
use Rattle.std.proofs.KnownBytes.{Appends-trans}
use Rattle.std.proofs.Math.Seq.{take-add}

take_add : (i n : ℕ) (bs : List ℕ) → take i bs ++ take n (drop i bs) ≡ take (i + n) bs
take_add i n bs = sym (take-add i n bs)

pub Appends-more : (a b c : Option (List ℕ)) (bs : List ℕ) (i n : ℕ) → Appends a b (take i bs) → Appends b c (take n (drop i bs))
    → Appends a c (take (i + n) bs)
Appends-more a b c bs i n p q = subst (Appends a c) (take_add i n bs) (Appends-trans a b c _ _ p q)

-- a call that takes something leaves a sink that has not failed as it is
pub stays : (old : Bool) (n len : ℕ) → (n ≡ 0 → ⊥) → (old || ((n == 0) && not (len == 0))) ≡ old
stays true n len some = refl
stays false n len some = ap (λ b. b && not (len == 0)) (ne_eqb n 0 some)
