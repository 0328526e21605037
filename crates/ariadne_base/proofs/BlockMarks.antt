-- What the marks of a block say of the text.
use Rattle.std.proofs.Common.{◌≡◌, ℕ, suc, ◌+◌, ◌-◌, ◌%◌, ◌^◌, ◌<◌, ◌≤◌, Bool, true, false, ◌||◌, cond, leb, max, List, [], ◌∷◌, map, length, get_or, take, drop, replicate, refl, sym, ap, ap₂, subst, ◌∙◌, inl, inr, arith, leb-false, lit≤, take-take, below_more}
use Rattle.std.specs.Simd.Lanes.{mask_l}
use Rattle.std.specs.Fmt.{is_char_start}
use Rattle.std.specs.Int.{bit_at}
use Rattle.std.specs.Int.RustNames.{bit_or, count_ones}
use Rattle.std.specs.List.{count_by}
use Rattle.std.proofs.lemmas.Simd.{get_or-chunk, length-chunk, none_from_empty_mask, ones-mask_l}
use Rattle.std.proofs.lemmas.Bool.{cases_lt}
use Rattle.std.proofs.lemmas.Bool.Decides.{nat_tests}
use Rattle.std.proofs.lemmas.List.{take-map}
use Rattle.std.proofs.lemmas.List.Sums.{sum_by_more}
use Rattle.std.proofs.lemmas.Nat.Bits.{bit_at_or, bit_at-zero}
use Rattle.ariadne_base.specs.Separators.{is_control, begins_wide, separator_at, IsPlain}
use Rattle.ariadne_base.proofs.CharStarts.{starts_low, count_more, count-le}
use Rattle.ariadne_base.proofs.Lanes.{mark_at, low_marks}

-- a list whose elements all pass
map_true : (p : ℕ → Bool) (v : List ℕ) → ((k : ℕ) → k < length v → p (get_or v k 0) ≡ true) → map p v ≡ replicate (length v) true
map_true p [] h = refl
map_true p (x ∷ v) h = ap₂ (λ a b. a ∷ b) (h 0 (omega arith)) (map_true p v (λ k l. h (suc k) (omega arith)))

beside : (x y : Bool) → y ≡ false → x ≡ (x || y)
beside true y e = refl
beside false y e = sym e

either_bit : (p q : Bool) → max (cond p 1 0) (cond q 1 0) ≡ cond (p || q) 1 0
either_bit true true = refl
either_bit true false = refl
either_bit false true = refl
either_bit false false = refl

-- an ASCII byte begins no longer separator
narrow : (a b c : ℕ) → a < 128 → begins_wide a b c ≡ false
unfolding begins_wide
narrow a b c h = grind (arith, nat_tests)

module _ (bs : List ℕ) (at : ℕ) (room : at + 66 ≤ length bs) where
  -- byte k of the block, and of that behind it
  block_byte : (k : ℕ) → k < 64 → get_or (take 64 (drop at bs)) k 0 ≡ get_or bs (at + k) 0
  block_byte k l = get_or-chunk at 64 bs k 0 l

  byte_behind : (j k : ℕ) → k < 64 → get_or (take 64 (drop (at + j) bs)) k 0 ≡ get_or bs (at + k + j) 0
  byte_behind j k l = get_or-chunk (at + j) 64 bs k 0 l ∙ ap (λ i. get_or bs i 0) (omega arith)

  control_mark : (k : ℕ) → k < 64 → bit_at (mask_l (map is_control (take 64 (drop at bs)))) k ≡ cond (is_control (get_or bs (at + k) 0)) 1 0
  control_mark k l =
      mark_at is_control (take 64 (drop at bs)) k (omega (arith, length-chunk at 64 bs (omega arith)))
      ∙ ap (λ b. cond (is_control b) 1 0) (block_byte k l)

  low_byte : mask_l (map (λ b. leb 128 b) (take 64 (drop at bs))) ≡ 0 → (k : ℕ) → k < 64 → get_or bs (at + k) 0 < 128
  low_byte none k l =
      leb-false 128 (get_or bs (at + k) 0) (none_from_empty_mask (λ b. leb 128 b) bs at 64 0 (omega arith) none (at + k) (omega arith) (omega arith))

  -- in a block of ASCII the separators have one byte, and each byte begins a character
  pub ascii_separators : mask_l (map (λ b. leb 128 b) (take 64 (drop at bs))) ≡ 0 → (k : ℕ) → k < 64
      → bit_at (mask_l (map is_control (take 64 (drop at bs)))) k ≡ cond (separator_at bs (at + k)) 1 0
  ascii_separators none k l =
      control_mark k l ∙ ap (λ t. cond t 1 0) (beside (is_control (get_or bs (at + k) 0)) _
      (narrow (get_or bs (at + k) 0) (get_or bs (at + k + 1) 0) (get_or bs (at + k + 2) 0) (low_byte none k l)))

  pub ascii_starts : mask_l (map (λ b. leb 128 b) (take 64 (drop at bs))) ≡ 0 → 2 ^ 64 - 1 ≡ mask_l (map is_char_start (take 64 (drop at bs)))
  ascii_starts none =
      let long = length-chunk at 64 bs (omega arith) in
      let all = map_true is_char_start (take 64 (drop at bs)) (λ k l.
      let l' : k < 64 = omega arith in
      let here = block_byte k l' in
      let low = low_byte none k l' in
      starts_low (get_or (take 64 (drop at bs)) k 0) (omega arith)) in
      sym (ap mask_l all ∙ ap (λ n. mask_l (replicate n true)) long)

  -- in another the separators have one byte or begin a longer one
  pub mixed_separators : (wide : ℕ) → ((k : ℕ) → k < 64 → bit_at wide k
      ≡ cond (begins_wide (get_or (take 64 (drop at bs)) k 0) (get_or (take 64 (drop (at + 1) bs)) k 0) (get_or (take 64 (drop (at + 2) bs)) k 0)) 1 0)
      → (k : ℕ) → k < 64 → bit_at (bit_or (mask_l (map is_control (take 64 (drop at bs)))) wide) k ≡ cond (separator_at bs (at + k)) 1 0
  mixed_separators wide h k l =
      let longer : bit_at wide k ≡ cond (begins_wide (get_or bs (at + k) 0) (get_or bs (at + k + 1) 0) (get_or bs (at + k + 2) 0)) 1 0 =
      h k l ∙ rw (block_byte k l, byte_behind 1 k l, byte_behind 2 k l) refl in
      bit_at_or (mask_l (map is_control (take 64 (drop at bs)))) wide k
      ∙ ap₂ max (control_mark k l) longer
      ∙ either_bit (is_control (get_or bs (at + k) 0)) (begins_wide (get_or bs (at + k) 0) (get_or bs (at + k + 1) 0) (get_or bs (at + k + 2) 0))

-- the marks of characters before a place in a block count them
pub starts_below : (bs : List ℕ) (at j starts : ℕ) → j ≤ 64 → starts ≡ mask_l (map is_char_start (take 64 (drop at bs)))
    → count_ones (starts % 2 ^ j) ≡ count_by is_char_start (take j (drop at bs))
starts_below bs at j starts h e =
    ap (λ m. count_ones (m % 2 ^ j)) e
    ∙ ap count_ones (low_marks (map is_char_start (take 64 (drop at bs))) j ∙ ap mask_l (take-map is_char_start j (take 64 (drop at bs))))
    ∙ ones-mask_l is_char_start (take j (take 64 (drop at bs)))
    ∙ ap (count_by is_char_start) (take-take j 64 (drop at bs) h)

no_mark : (t : Bool) → ◌≡◌ {A = ℕ} (cond t 1 0) 0 → t ≡ false
no_mark true e = absurd (omega arith)
no_mark false e = refl

-- a run goes on over j bytes of a block that have no mark
pub plain_more : (bs : List ℕ) (at n marks j m : ℕ) → IsPlain bs at n
    → ((k : ℕ) → k < 64 → bit_at marks k ≡ cond (separator_at bs (at + k)) 1 0) → j ≤ 64 → at + j ≤ length bs
    → ((k : ℕ) → k < j → bit_at marks k ≡ 0) → m ≡ count_by is_char_start (take j (drop at bs)) → IsPlain bs (at + j) (n + m)
plain_more bs at n marks j m run are short room none count = record {
  fits = room;
  plain = λ k l. elim (cases_lt k at) [
    | inl b ↦ run.plain k b
    | inr g ↦ let here : at + (k - at) ≡ k = omega arith in
        subst (λ i. separator_at bs i ≡ false) here
        (no_mark (separator_at bs (at + (k - at))) (sym (are (k - at) (omega arith)) ∙ none (k - at) (omega arith)))
  ];
  count = count_more bs at j n m run.count count;
}

-- the same over a whole block without a mark
pub plain_block : (bs : List ℕ) (at n marks starts : ℕ) → IsPlain bs at n
    → ((k : ℕ) → k < 64 → bit_at marks k ≡ cond (separator_at bs (at + k)) 1 0) → at + 64 ≤ length bs → marks ≡ 0
    → starts ≡ mask_l (map is_char_start (take 64 (drop at bs))) → IsPlain bs (at + 64) (n + count_ones starts)
plain_block bs at n marks starts run are room none begun =
    plain_more bs at n marks 64 (count_ones starts) run are (lit≤ tt) room (λ k l. ap (λ m. bit_at m k) none ∙ bit_at-zero k)
    (ap count_ones begun ∙ ones-mask_l is_char_start (take 64 (drop at bs)))

-- a run has at most as many characters as bytes
pub plain_short : (bs : List ℕ) (n m : ℕ) → IsPlain bs n m → m ≤ length bs
plain_short bs n m run =
    let below = count-le bs n run.fits in
    let room = run.fits in
    let is = run.count in
    omega arith

-- a printable ASCII byte begins no separator
pub printable_apart : (a b c : ℕ) → 32 ≤ a → a < 127 → (is_control a || begins_wide a b c) ≡ false
unfolding is_control begins_wide
printable_apart a b c l h = grind (arith, nat_tests)

-- a run goes on over a byte that begins no separator
pub plain_byte : (bs : List ℕ) (at n : ℕ) (t : Bool) → IsPlain bs at n → at < length bs → separator_at bs at ≡ false → is_char_start (get_or bs at 0) ≡ t
    → IsPlain bs (at + 1) (n + cond t 1 0)
plain_byte bs at n t run room none starts = record {
  fits = omega arith;
  plain = below_more _ _ run.plain none;
  count = ap₂ (λ a b. a + cond b 1 0) run.count (sym starts) ∙ sym (sum_by_more (λ x. cond (is_char_start x) 1 0) bs at 0 room);
}
