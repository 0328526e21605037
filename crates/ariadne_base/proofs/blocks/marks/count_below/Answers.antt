use Rattle.std.proofs.Common.{◌≡◌, ℕ, ◌-◌, ◌*◌, ◌^◌, ◌%◌, ◌<◌, suc, ap, ◌∙◌, arith, bit_and, pow_pos, pow_mono}
use Rattle.std.proofs.Math.Nat.{two-pow-succ}
use Rattle.std.proofs.lemmas.Nat.{and_mask}
use Rattle.std.specs.Int.RustNames.{count_ones}
use Rattle.ariadne_base.proofs.blocks.marks.count_below.Goals as goal

-- the mask of a place
one_shifted : (k : ℕ) → k < 64 → 1 * 2 ^ k % 2 ^ 64 ≡ 2 ^ k
one_shifted k h =
    let small : 2 ^ k < 2 ^ 64 = omega (arith, two-pow-succ k, pow_pos k, pow_mono {i = suc k} {j = 64} (omega arith)) in
    omega arith

pub overflow_sub-result : goal.overflow_sub-result
overflow_sub-result c = omega (arith, one_shifted c.args.place c.requires, pow_pos c.args.place)

pub returns : goal.returns
returns c =
    ap (λ n. count_ones (bit_and c.args.marks (n - 1))) (one_shifted c.args.place c.requires) ∙ ap count_ones (and_mask c.args.marks c.args.place)
