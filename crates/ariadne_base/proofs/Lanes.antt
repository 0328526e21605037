-- What a mask of a block says of the block's bytes.
use Rattle.std.proofs.Common.{◌≡◌, ℕ, zero, suc, ◌+◌, ◌-◌, ◌*◌, ◌/◌, ◌%◌, ◌^◌, ◌<◌, Bool, true, false, ◌&&◌, ◌||◌, ◌==◌, cond, leb, eqb, List, [], ◌∷◌, map, length, get_or, take, replicate, bit_and, refl, sym, ap, ap₂, ◌∙◌, arith, w8, Fits, lit<, lit≤, zero-add, pow_pos, mod-eq_of_lt, mul_comm, mul_assoc}
use Rattle.std.proofs.Math.Nat.{two-pow-succ}
use Rattle.std.proofs.lemmas.Nat.{div-add-mod', mod_below, mod-mul-add}
use Rattle.std.specs.Simd.Lanes.{mask_l}
use Rattle.std.specs.Fmt.{is_char_start}
use Rattle.std.specs.Int.{bit_at}
use Rattle.std.specs.Int.RustNames.{bit_or}
use Rattle.std.specs.List.{range_with_len}
use Rattle.std.proofs.lemmas.Simd.{bitmask_splat, zip2_splat, zip2_splat_left, zip2_of_maps, splat_is_map, map-map, mask_l-mod, bit_mask_l, pick_l_whole}
use Rattle.std.proofs.lemmas.Bool.{agree_below_at}
use Rattle.std.proofs.lemmas.List.{length-map, get_or-map}
use Rattle.std.proofs.lemmas.List.FromFn.{get_or-range_with_len}
use lib.Lanes.{Each1, zip2, top}
use Rattle.ariadne_base.specs.Separators.{is_control, begins_wide}

-- two tests that agree on every byte agree on a list of bytes
pub map_agree : {X : Type 0} (f g : ℕ → X) (v : List ℕ) → Each1 (Fits w8) v → ((x : ℕ) → x < 256 → f x ≡ g x) → map f v ≡ map g v
map_agree f g [] h same = refl
map_agree f g (x ∷ xs) h same = ap₂ (λ a b. a ∷ b) (same x h.0.fits) (map_agree f g xs h.1 same)

-- a byte less its continuation's sign
shifted_start : (x : ℕ) → x < 256 → leb 64 ((x + 128) % 256) ≡ is_char_start x
shifted_start x h = agree_below_at (λ b. leb 64 ((b + 128) % 256)) is_char_start 256 x refl h

-- a comparison whose splat stands on the left
splat_first : (f : ℕ → ℕ → ℕ) (v : List ℕ) (y : ℕ) → length v ≡ 64 → zip2 f (replicate 64 y) v ≡ zip2 (λ a b. f b a) v (replicate 64 y)
splat_first f v y long = zip2_splat_left f y 64 v long ∙ sym (zip2_splat (λ a b. f b a) v 64 y long)

pub starts_mask : (v : List ℕ) → (length v ≡ 64) × Each1 (Fits w8) v
    → mask_l (map (top 7) (zip2 (λ a b. cond (leb a b) 255 0) (replicate 64 64) (zip2 (λ a b. (a + b) % 256) v (replicate 64 128)))) % 2 ^ 64
    ≡ mask_l (map is_char_start v)
starts_mask v fits =
    let shifted : List ℕ = map (λ x. (x + 128) % 256) v in
    let long : length shifted ≡ 64 = length-map v (λ x. (x + 128) % 256) ∙ fits.0 in
    ap (λ xs. mask_l (map (top 7) (zip2 (λ a b. cond (leb a b) 255 0) (replicate 64 64) xs)) % 2 ^ 64)
    (zip2_splat (λ a b. (a + b) % 256) v 64 128 fits.0)
    ∙ ap (λ xs. mask_l (map (top 7) xs) % 2 ^ 64) (splat_first (λ a b. cond (leb a b) 255 0) shifted 64 long)
    ∙ bitmask_splat w8 (λ a b. leb b a) shifted 64 64 long (lit≤ tt)
    ∙ ap mask_l (map-map (λ x. leb 64 x) (λ x. (x + 128) % 256) v ∙ map_agree (λ x. leb 64 ((x + 128) % 256)) is_char_start v fits.1 shifted_start)

-- a byte less ten
lowered_control : (x : ℕ) → x < 256 → leb ((x + (256 - 10)) % 256) 3 ≡ is_control x
unfolding is_control
lowered_control x h = agree_below_at (λ b. leb ((b + (256 - 10)) % 256) 3) is_control 256 x refl h

pub controls_mask : (v : List ℕ) → (length v ≡ 64) × Each1 (Fits w8) v
    → mask_l (map (top 7) (zip2 (λ a b. cond (leb a b) 255 0) (zip2 (λ a b. (a + (256 - b)) % 256) v (replicate 64 10)) (replicate 64 3))) % 2 ^ 64
    ≡ mask_l (map is_control v)
controls_mask v fits =
    let lowered : List ℕ = map (λ x. (x + (256 - 10)) % 256) v in
    let long : length lowered ≡ 64 = length-map v (λ x. (x + (256 - 10)) % 256) ∙ fits.0 in
    ap (λ xs. mask_l (map (top 7) (zip2 (λ a b. cond (leb a b) 255 0) xs (replicate 64 3))) % 2 ^ 64)
    (zip2_splat (λ a b. (a + (256 - b)) % 256) v 64 10 fits.0)
    ∙ bitmask_splat w8 leb lowered 64 3 long (lit≤ tt)
    ∙ ap mask_l (map-map (λ x. leb x 3) (λ x. (x + (256 - 10)) % 256) v ∙ map_agree (λ x. leb ((x + (256 - 10)) % 256) 3) is_control v fits.1 lowered_control)

pub high_mask : (v : List ℕ) → length v ≡ 64
    → mask_l (map (top 7) (zip2 (λ a b. cond (leb a b) 255 0) (replicate 64 128) v)) % 2 ^ 64 ≡ mask_l (map (λ b. leb 128 b) v)
high_mask v long =
    ap (λ xs. mask_l (map (top 7) xs) % 2 ^ 64) (splat_first (λ a b. cond (leb a b) 255 0) v 128 long)
    ∙ bitmask_splat w8 (λ a b. leb b a) v 64 128 long (lit≤ tt)

-- ---- lanes of several blocks

-- two functions that agree
map_same : {X Y : Type 0} (f g : X → Y) (xs : List X) → ((x : X) → f x ≡ g x) → map f xs ≡ map g xs
map_same f g [] h = refl
map_same f g (x ∷ xs) h = ap₂ (λ a b. a ∷ b) (h x) (map_same f g xs h)

-- the lane of a comparison
abbrev lane : Bool → ℕ
lane b = cond b 255 0

both_lanes : (p q : Bool) → bit_and (lane p) (lane q) ≡ lane (p && q)
both_lanes true true = refl
both_lanes true false = refl
both_lanes false true = refl
both_lanes false false = refl

either_lane : (p q : Bool) → bit_or (lane p) (lane q) ≡ lane (p || q)
either_lane true true = refl
either_lane true false = refl
either_lane false true = refl
either_lane false false = refl

top_lane : (p : Bool) → top 7 (lane p) ≡ p
top_lane true = refl
top_lane false = refl

pair_of_ends : (c : ℕ) → c < 256 → eqb (bit_and c 0xfe) 0xa8 ≡ ((c == 0xa8) || (c == 0xa9))
pair_of_ends c h = agree_below_at (λ b. eqb (bit_and b 0xfe) 0xa8) (λ b. (b == 0xa8) || (b == 0xa9)) 256 c refl h

lane_of : (a b c : ℕ) → c < 256
    → top 7 (bit_or (bit_and (lane (eqb a 0xc2)) (lane (eqb b 0x85))) (bit_and (bit_and (lane (eqb a 0xe2)) (lane (eqb b 0x80))) (lane (eqb (bit_and c 0xfe) 0xa8))))
    ≡ begins_wide a b c
unfolding begins_wide
lane_of a b c h =
    let two = both_lanes (eqb a 0xc2) (eqb b 0x85) in
    let three = both_lanes (eqb a 0xe2) (eqb b 0x80) in
    let ends = pair_of_ends c h in
    let all = both_lanes (eqb a 0xe2 && eqb b 0x80) ((c == 0xa8) || (c == 0xa9)) in
    let any = either_lane (eqb a 0xc2 && eqb b 0x85) ((eqb a 0xe2 && eqb b 0x80) && ((c == 0xa8) || (c == 0xa9))) in
    ap₂ (λ x y. top 7 (bit_or x (bit_and (bit_and (lane (eqb a 0xe2)) (lane (eqb b 0x80))) (lane y)))) two ends
    ∙ ap (λ x. top 7 (bit_or (lane (eqb a 0xc2 && eqb b 0x85)) (bit_and x (lane ((c == 0xa8) || (c == 0xa9)))))) three
    ∙ ap (λ x. top 7 (bit_or (lane (eqb a 0xc2 && eqb b 0x85)) x)) all
    ∙ ap (top 7) any
    ∙ top_lane ((eqb a 0xc2 && eqb b 0x85) || ((eqb a 0xe2 && eqb b 0x80) && ((c == 0xa8) || (c == 0xa9))))

module _ (ks : List ℕ) (long : length ks ≡ 64) where
  -- the lanes that equal a byte
  equal_lanes : (f : ℕ → ℕ) (v : List ℕ) (y : ℕ) → v ≡ map f ks
      → zip2 (λ a b. cond (eqb a b) 255 0) v (replicate 64 y) ≡ map (λ k. lane (eqb (f k) y)) ks
  equal_lanes f v y e = zip2_of_maps (λ a b. cond (eqb a b) 255 0) f (λ _. y) ks e (splat_is_map ks 64 y long)

  -- the vector that is tested for longer separators
  wide_lanes : (f g h : ℕ → ℕ) (u v w : List ℕ) → u ≡ map f ks → v ≡ map g ks → w ≡ map h ks
      → zip2 bit_or
      (zip2 bit_and (zip2 (λ a b. cond (eqb a b) 255 0) u (replicate 64 0xc2)) (zip2 (λ a b. cond (eqb a b) 255 0) v (replicate 64 0x85)))
      (zip2 bit_and (zip2 bit_and (zip2 (λ a b. cond (eqb a b) 255 0) u (replicate 64 0xe2)) (zip2 (λ a b. cond (eqb a b) 255 0) v (replicate 64 0x80)))
      (zip2 (λ a b. cond (eqb a b) 255 0) (zip2 bit_and w (replicate 64 0xfe)) (replicate 64 0xa8)))
      ≡ map (λ k. bit_or (bit_and (lane (eqb (f k) 0xc2)) (lane (eqb (g k) 0x85)))
      (bit_and (bit_and (lane (eqb (f k) 0xe2)) (lane (eqb (g k) 0x80))) (lane (eqb (bit_and (h k) 0xfe) 0xa8)))) ks
  wide_lanes f g h u v w eu ev ew =
      zip2_of_maps bit_or (λ k. bit_and (lane (eqb (f k) 0xc2)) (lane (eqb (g k) 0x85)))
      (λ k. bit_and (bit_and (lane (eqb (f k) 0xe2)) (lane (eqb (g k) 0x80))) (lane (eqb (bit_and (h k) 0xfe) 0xa8))) ks
      (zip2_of_maps bit_and (λ k. lane (eqb (f k) 0xc2)) (λ k. lane (eqb (g k) 0x85)) ks (equal_lanes f u 0xc2 eu) (equal_lanes g v 0x85 ev))
      (zip2_of_maps bit_and (λ k. bit_and (lane (eqb (f k) 0xe2)) (lane (eqb (g k) 0x80))) (λ k. lane (eqb (bit_and (h k) 0xfe) 0xa8)) ks
      (zip2_of_maps bit_and (λ k. lane (eqb (f k) 0xe2)) (λ k. lane (eqb (g k) 0x80)) ks (equal_lanes f u 0xe2 eu) (equal_lanes g v 0x80 ev))
      (equal_lanes (λ k. bit_and (h k) 0xfe) (zip2 bit_and w (replicate 64 0xfe)) 0xa8
      (zip2_of_maps bit_and h (λ _. 0xfe) ks ew (splat_is_map ks 64 0xfe long))))

-- a lane of bytes is a byte
pub lane_fits : (v : List ℕ) (i : ℕ) → Each1 (Fits w8) v → get_or v i 0 < 256
lane_fits [] i h = omega arith
lane_fits (x ∷ xs) zero h = h.0.fits
lane_fits (x ∷ xs) (suc i) h = lane_fits xs i h.1

-- a mark of a list of tests
pub mark_at : (p : ℕ → Bool) (v : List ℕ) (k : ℕ) → k < length v → bit_at (mask_l (map p v)) k ≡ cond (p (get_or v k 0)) 1 0
mark_at p v k l = bit_mask_l (map p v) k ∙ ap (λ b. cond b 1 0) (get_or-map p v k 0 false l)

pub wide_marks : (u v w : List ℕ) → length u ≡ 64 → length v ≡ 64 → (length w ≡ 64) × Each1 (Fits w8) w → (k : ℕ) → k < 64
    → bit_at (mask_l (map (top 7) (zip2 bit_or
    (zip2 bit_and (zip2 (λ a b. cond (eqb a b) 255 0) u (replicate 64 0xc2)) (zip2 (λ a b. cond (eqb a b) 255 0) v (replicate 64 0x85)))
    (zip2 bit_and (zip2 bit_and (zip2 (λ a b. cond (eqb a b) 255 0) u (replicate 64 0xe2)) (zip2 (λ a b. cond (eqb a b) 255 0) v (replicate 64 0x80)))
    (zip2 (λ a b. cond (eqb a b) 255 0) (zip2 bit_and w (replicate 64 0xfe)) (replicate 64 0xa8))))) % 2 ^ 64) k
    ≡ cond (begins_wide (get_or u k 0) (get_or v k 0) (get_or w k 0)) 1 0
wide_marks u v w lu lv fits k l =
    let ks : List ℕ = range_with_len 0 64 in
    let tests : ℕ → Bool = λ i. begins_wide (get_or u i 0) (get_or v i 0) (get_or w i 0) in
    let lanes = wide_lanes ks refl (λ i. get_or u i 0) (λ i. get_or v i 0) (λ i. get_or w i 0) u v w
    (sym (pick_l_whole 0 u 64 lu)) (sym (pick_l_whole 0 v 64 lv)) (sym (pick_l_whole 0 w 64 fits.0)) in
    let marks = ap (map (top 7)) lanes
    ∙ map-map (top 7) (λ i. bit_or (bit_and (lane (eqb (get_or u i 0) 0xc2)) (lane (eqb (get_or v i 0) 0x85)))
    (bit_and (bit_and (lane (eqb (get_or u i 0) 0xe2)) (lane (eqb (get_or v i 0) 0x80))) (lane (eqb (bit_and (get_or w i 0) 0xfe) 0xa8)))) ks
    ∙ map_same _ tests ks (λ i. lane_of (get_or u i 0) (get_or v i 0) (get_or w i 0) (lane_fits w i fits.1)) in
    ap (λ ms. bit_at (mask_l ms % 2 ^ 64) k) marks
    ∙ ap (λ m. bit_at m k) (mask_l-mod (map tests ks) 64 (lit≤ tt))
    ∙ mark_at tests ks k l
    ∙ ap (λ i. cond (tests i) 1 0) (get_or-range_with_len 0 64 k 0 l ∙ zero-add k)

-- a remainder by an even number
even_mod : (r m p : ℕ) → r < 2 → 0 < p → (r + 2 * m) % (2 * p) ≡ r + 2 * (m % p)
even_mod r m p small some =
    let parts = div-add-mod' m p in
    let twice : m / p * (2 * p) ≡ 2 * (m / p * p) = mul_comm (m / p) (2 * p) ∙ mul_assoc 2 p (m / p) ∙ ap (λ n. 2 * n) (mul_comm p (m / p)) in
    let below = mod_below m p some in
    let split : r + 2 * m ≡ m / p * (2 * p) + (r + 2 * (m % p)) = omega arith in
    ap (λ n. n % (2 * p)) split ∙ mod-mul-add (m / p) (2 * p) (r + 2 * (m % p)) (omega arith)

bit_small : (b : Bool) → cond b 1 0 < 2
bit_small true = lit< tt
bit_small false = lit< tt

-- the marks before a place are those of the list's front
pub low_marks : (ms : List Bool) (k : ℕ) → mask_l ms % 2 ^ k ≡ mask_l (take k ms)
low_marks ms zero = omega arith
low_marks [] (suc k) = mod-eq_of_lt (pow_pos (suc k))
low_marks (b ∷ ms) (suc k) =
    let twice : 2 ^ suc k ≡ 2 * 2 ^ k = omega (arith, two-pow-succ k) in
    ap (λ n. (cond b 1 0 + 2 * mask_l ms) % n) twice
    ∙ even_mod (cond b 1 0) (mask_l ms) (2 ^ k) (bit_small b) (pow_pos k)
    ∙ ap (λ n. cond b 1 0 + 2 * n) (low_marks ms k)
