-- Lists that grow side by side, and what results say.
use Rattle.std.proofs.Common.{List, [], ◌∷◌, ◌++◌}
use Rattle.std.specs.List.{AllZip}
use Rattle.std.specs.Prelude.{Result, Ok, Err, IfOk, OnOk}

-- one more on either side
pub zip_push : {A B : Type 0} (R : A → B → Type 0) (xs : List A) (ys : List B) (x : A) (y : B) → AllZip R xs ys → R x y
    → AllZip R (xs ++ x ∷ []) (ys ++ y ∷ [])
zip_push R [] [] x y h r = (r, tt)
zip_push R [] (z ∷ ys) x y h r = absurd h
zip_push R (z ∷ xs) [] x y h r = absurd h
zip_push R (a ∷ xs) (b ∷ ys) x y h r = (h.0, zip_push R xs ys x y h.1 r)

-- two facts of a value as one
pub both_ok : {T E : Type 0} (P Q S : T → Type 0) (r : Result T E) → ((x : T) → P x → Q x → S x) → IfOk r P → IfOk r Q → IfOk r S
both_ok P Q S (Ok x) both p q = both x p q
both_ok P Q S (Err e) both p q = tt

-- a fact of no value
pub always_ok : {T E : Type 0} (P : Type 0) (r : Result T E) → P → OnOk r P
always_ok P (Ok x) p = p
always_ok P (Err e) p = tt
