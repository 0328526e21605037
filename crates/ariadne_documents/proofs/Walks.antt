-- A walk through a text, byte by byte.
use Rattle.std.proofs.Common.{◌≡◌, ℕ, ◌+◌, ◌≤◌, cond, arith}
use Rattle.std.specs.Prelude.{Bool, true, false, nat_le, nat_lt, ◌||◌, ◌==◌}
use Rattle.ariadne_documents.specs.Offsets.{gone_on, step, units}
use Rattle.ariadne_documents.specs.declared.offsets.Walk.{Walk}

-- a walk comes one line further at most, and two columns
pub record IsNear (walk next : Walk) : Type 0 where
  pub line : next.line ≤ walk.line + 1
  pub column : next.column ≤ walk.column + 2

-- a byte begins two units at most
units_by : (a b : Bool) → cond a 2 (cond b 1 0) ≤ 2
units_by true b = omega arith
units_by false true = omega arith
units_by false false = omega arith

two_at_most : (b : ℕ) → units b ≤ 2
two_at_most b = units_by (nat_le 240 b) (nat_lt b 128 || nat_le 192 b)

-- one of two walks is near where both are
either : (first : Bool) (walk a b : Walk) → IsNear walk a → IsNear walk b → IsNear walk (cond first a b)
either true walk a b near_a near_b = near_a
either false walk a b near_a near_b = near_b

same : (walk : Walk) → IsNear walk walk
same walk = record { line = omega arith; column = omega arith }

gone : (walk : Walk) (b : ℕ) → IsNear walk (gone_on walk b)
gone walk b =
    let le = two_at_most b in
    either (b == 10) walk _ _ (record { line = omega arith; column = omega arith }) (record { line = omega arith; column = omega (arith, le) })

pub is_near : (walk next : Walk) (b : ℕ) → next ≡ step walk b → IsNear walk next
is_near walk next b is = rw is (either (walk.left == 0) walk walk (gone_on walk b) (same walk) (gone walk b))
