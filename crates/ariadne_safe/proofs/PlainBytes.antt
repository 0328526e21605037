-- Bytes that are plain, in blocks of 64: lanes, masks, and runs of such bytes.
use Rattle.std.proofs.Common.{◌≡◌, ℕ, ◌+◌, ◌-◌, ◌%◌, ◌^◌, ◌<◌, ◌≤◌, Bool, true, false, not, ◌||◌, cond, ltb, min, List, map, length, get_or, take, drop, replicate, bit_and, refl, sym, ap, ap₂, subst, ◌∙◌, inl, inr, arith, w8, Fits, lit≤, below_more}
use Rattle.std.specs.Simd.Lanes.{mask_l}
use Rattle.std.specs.Int.{bit_at}
use Rattle.std.proofs.lemmas.Simd.{bitmask_splat, zip2_splat, zip2_splat_left, map-map, get_or-chunk}
use Rattle.std.proofs.lemmas.Bool.{cases_lt}
use Rattle.std.proofs.lemmas.Bool.Decides.{nat_tests}
use Rattle.std.proofs.lemmas.List.{length-map}
use Rattle.std.proofs.lemmas.Nat.Bits.{bit_at_and, bit_at-zero}
use lib.Lanes.{Each1, zip2, top}
use Rattle.ariadne_base.proofs.Lanes.{map_agree, mark_at}
use Rattle.ariadne_safe.specs.Visible.{is_between}
use Rattle.ariadne_safe.specs.Kept.{is_plain, IsPlainRun}

-- ---- marks

-- a byte less the first of a range
lowered : (first last x : ℕ) → x < 256 → first ≤ last → last < 256
    → ltb (last - first) ((x + (256 - first)) % 256) ≡ not (is_between first last x)
lowered first last x h le few = grind (arith, nat_tests)

-- the comparison is the test, lane by lane
pub outside_mask : (v : List ℕ) (first last : ℕ) → (length v ≡ 64) × Each1 (Fits w8) v → first ≤ last → last < 256
    → mask_l (map (top 7) (zip2 (λ a b. cond (ltb a b) 255 0) (replicate 64 (last - first)) (zip2 (λ a b. (a + (256 - b)) % 256) v (replicate 64 first)))) % 2 ^ 64
    ≡ mask_l (map (λ b. not (is_between first last b)) v)
outside_mask v first last fits le few =
    let low : List ℕ = map (λ x. (x + (256 - first)) % 256) v in
    let long : length low ≡ 64 = length-map v (λ x. (x + (256 - first)) % 256) ∙ fits.0 in
    let test : ℕ → ℕ → ℕ = λ a b. cond (ltb a b) 255 0 in
    let turned : zip2 test (replicate 64 (last - first)) low ≡ zip2 (λ a b. test b a) low (replicate 64 (last - first)) =
    zip2_splat_left test (last - first) 64 low long ∙ sym (zip2_splat (λ a b. test b a) low 64 (last - first) long) in
    ap (λ xs. mask_l (map (top 7) (zip2 test (replicate 64 (last - first)) xs)) % 2 ^ 64)
    (zip2_splat (λ a b. (a + (256 - b)) % 256) v 64 first fits.0)
    ∙ ap (λ xs. mask_l (map (top 7) xs) % 2 ^ 64) turned
    ∙ bitmask_splat w8 (λ a b. ltb b a) low 64 (last - first) long (lit≤ tt)
    ∙ ap mask_l (map-map (λ x. ltb (last - first) x) (λ x. (x + (256 - first)) % 256) v
    ∙ map_agree (λ x. ltb (last - first) ((x + (256 - first)) % 256)) (λ b. not (is_between first last b)) v fits.1
    (λ x h. lowered first last x h le few))

both_out : (p q : Bool) → min (cond (not p) 1 0) (cond (not q) 1 0) ≡ cond (not (p || q)) 1 0
both_out true true = refl
both_out true false = refl
both_out false true = refl
both_out false false = refl

-- bytes outside of both ranges
pub others_mask : (v : List ℕ) (first last k : ℕ) → length v ≡ 64 → k < 64
    → bit_at (bit_and (mask_l (map (λ b. not (is_between 32 126 b)) v)) (mask_l (map (λ b. not (is_between first last b)) v))) k
    ≡ cond (not (is_plain first last (get_or v k 0))) 1 0
unfolding is_plain
others_mask v first last k long less =
    bit_at_and (mask_l (map (λ b. not (is_between 32 126 b)) v)) (mask_l (map (λ b. not (is_between first last b)) v)) k
    ∙ ap₂ min (mark_at (λ b. not (is_between 32 126 b)) v k (omega (arith, long, less)))
    (mark_at (λ b. not (is_between first last b)) v k (omega (arith, long, less)))
    ∙ both_out (is_between 32 126 (get_or v k 0)) (is_between first last (get_or v k 0))

-- ---- runs

pub no_run : (first last : ℕ) (bs : List ℕ) → IsPlainRun first last bs 0
no_run first last bs = record { fits = omega arith; plain = λ k l. absurd (omega (arith, l)) }

-- one byte more
pub run_next : (first last : ℕ) (bs : List ℕ) (at : ℕ) → IsPlainRun first last bs at → at < length bs
    → is_plain first last (get_or bs at 0) ≡ true → IsPlainRun first last bs (at + 1)
run_next first last bs at run less is = record { fits = omega arith; plain = below_more _ _ run.plain is }

no_mark : (t : Bool) → ◌≡◌ {A = ℕ} (cond (not t) 1 0) 0 → t ≡ true
no_mark true e = refl
no_mark false e = absurd (omega arith)

-- j bytes of a block that have no mark
pub run_more : (first last : ℕ) (bs : List ℕ) (at marks j : ℕ) → IsPlainRun first last bs at → at + 64 ≤ length bs → j ≤ 64
    → ((k : ℕ) → k < 64 → bit_at marks k ≡ cond (not (is_plain first last (get_or (take 64 (drop at bs)) k 0))) 1 0)
    → ((k : ℕ) → k < j → bit_at marks k ≡ 0) → IsPlainRun first last bs (at + j)
run_more first last bs at marks j run room short are none = record {
  fits = omega arith;
  plain = λ k l. elim (cases_lt k at) [
    | inl b ↦ run.plain k b
    | inr g ↦
        let here : at + (k - at) ≡ k = omega arith in
        let within : k - at < 64 = omega (arith, l, g, short) in
        let byte = get_or-chunk at 64 bs (k - at) 0 within ∙ ap (λ i. get_or bs i 0) here in
        subst (λ b. is_plain first last b ≡ true) byte
        (no_mark (is_plain first last (get_or (take 64 (drop at bs)) (k - at) 0)) (sym (are (k - at) within) ∙ none (k - at) (omega (arith, l, g))))
  ];
}

-- a whole block without a mark
pub run_block : (first last : ℕ) (bs : List ℕ) (at marks : ℕ) → IsPlainRun first last bs at → at + 64 ≤ length bs
    → ((k : ℕ) → k < 64 → bit_at marks k ≡ cond (not (is_plain first last (get_or (take 64 (drop at bs)) k 0))) 1 0)
    → marks ≡ 0 → IsPlainRun first last bs (at + 64)
run_block first last bs at marks run room are none =
    run_more first last bs at marks 64 run room (lit≤ tt) are (λ k l. ap (λ m. bit_at m k) none ∙ bit_at-zero k)
