-- The line of an offset is the last that begins at it or before it.
use Rattle.std.proofs.Common.{◌≡◌, ℕ, zero, suc, ◌+◌, ◌<◌, ◌≤◌, Bool, true, List, [], Option, Some, None, unwrap_or, refl, sym, ap, ◌∙◌}
use Rattle.std.proofs.Common.{subst, arith, nat_le, length, take, get_or, sum_by, inl, inr}
use Rattle.std.specs.List.{last_or, range_with_len, filter}
use Rattle.std.proofs.lemmas.Bool.{cases_Bool, leb-true, le-leb, cases_lt}
use Rattle.std.proofs.lemmas.List.{take-take, take_all}
use Rattle.std.proofs.lemmas.List.Sums.{sum_by-take-le, sum_by_more}
use Rattle.std.proofs.lemmas.List.FromFn.{get_or-map-range_with_len}
use Rattle.ariadne_base.specs.Locations.{byte_len, upto, line_text, line_offset, line_at}
use Rattle.ariadne_base.specs.Table.{LineExtent, line_extent, line_table}

-- ---- the last number that passes

-- a result that is a number from low to before high that passes
record LastOf (p : ℕ → Bool) (low high : ℕ) (o : Option ℕ) : Type 0 where
  at : ℕ
  is : o ≡ Some at
  passes : p at ≡ true
  above : low ≤ at
  below : at < high

-- past a number that passes, the last that does is it or a later one
last_from : (p : ℕ → Bool) (x b n : ℕ) → p x ≡ true → x < b → LastOf p x (b + n) (last_or (Some x) (filter p (range_with_len b n)))
last_from p x b zero t h = record { at = x; is = refl; passes = t; above = omega arith; below = omega arith }
last_from p x b (suc n) t h = elim (cases_Bool (p b)) [
  | inl on ↦ rw on (let r : LastOf p b (b + 1 + n) (last_or (Some b) (filter p (range_with_len (b + 1) n))) = last_from p b (b + 1) n on
      (omega arith) in let u = r.above in let v = r.below in
      record { at = r.at; is = r.is; passes = r.passes; above = omega arith; below = omega arith })
  | inr off ↦ rw off (let r : LastOf p x (b + 1 + n) (last_or (Some x) (filter p (range_with_len (b + 1) n))) = last_from p x (b + 1) n t
      (omega arith) in let u = r.above in let v = r.below in
      record { at = r.at; is = r.is; passes = r.passes; above = omega arith; below = omega arith })
]

-- the last that passes is no earlier than any that does
last_upto : (p : ℕ → Bool) (acc : Option ℕ) (a n k : ℕ) → a ≤ k → k < a + n → p k ≡ true
    → LastOf p k (a + n) (last_or acc (filter p (range_with_len a n)))
last_upto p acc a zero k low high t = absurd (omega arith)
last_upto p acc a (suc n) k low high t = elim (cases_lt a k) [
  | inl less ↦ elim (cases_Bool (p a)) [
    | inl on ↦ rw on (wider (last_upto p (Some a) (a + 1) n k (omega arith) (omega arith) t))
    | inr off ↦ rw off (wider (last_upto p acc (a + 1) n k (omega arith) (omega arith) t))
  ]
  | inr least ↦
      let same : k ≡ a = omega arith in
      let on : p a ≡ true = ap p (sym same) ∙ t in
      rw on (let r : LastOf p a (a + 1 + n) (last_or (Some a) (filter p (range_with_len (a + 1) n))) = last_from p a (a + 1) n on (omega arith) in
      let u = r.above in let v = r.below in record { at = r.at; is = r.is; passes = r.passes; above = omega arith; below = omega arith })
]
  where
    wider : {o : Option ℕ} → LastOf p k (a + 1 + n) o → LastOf p k (a + suc n) o
    wider r = let v = r.below in record { at = r.at; is = r.is; passes = r.passes; above = r.above; below = omega arith }

-- ---- offsets

module _ (size : List ℕ → ℕ) (ls : List (List ℕ)) where
  -- the first line begins at 0
  pub offset_none : line_offset size ls 0 ≡ 0
  unfolding line_offset
  offset_none = refl

  -- a line begins where the one before it ends
  pub offset_more : (n : ℕ) → n < length ls → line_offset size ls (n + 1) ≡ line_offset size ls n + size (line_text ls n)
  unfolding line_offset
  offset_more n h = sum_by_more size ls n [] h

  -- later lines begin later
  pub offset_up : (j k : ℕ) → j ≤ k → line_offset size ls j ≤ line_offset size ls k
  unfolding line_offset
  offset_up j k h = let part = sum_by-take-le size (take k ls) j in let same = ap (sum_by size) (take-take j k ls h) in omega arith

  -- behind the last line lies all of the text
  pub offset_all : line_offset size ls (length ls) ≡ sum_by size ls
  unfolding line_offset
  offset_all = ap (sum_by size) (take_all (length ls) ls (omega arith))

-- the line of an offset
pub record IsLineAt (size : List ℕ → ℕ) (ls : List (List ℕ)) (o n : ℕ) : Type 0 where
  pub there : n < length ls
  pub begins : line_offset size ls n ≤ o
  pub last : (k : ℕ) → k < length ls → line_offset size ls k ≤ o → k ≤ n

-- the line of an offset is the last that begins at it or before it
pub line_at_is : (size : List ℕ → ℕ) (ls : List (List ℕ)) (o : ℕ) → 0 < length ls → IsLineAt size ls o (line_at size ls o)
unfolding line_at
line_at_is size ls o h =
    let p : ℕ → Bool = λ n. nat_le (line_offset size ls n) o in
    let z = offset_none size ls in
    let r = last_upto p None 0 (length ls) 0 (omega arith) (omega arith) (le-leb (line_offset size ls 0) o (omega arith)) in
    let n = unwrap_or (last_or None (filter p (upto (length ls)))) 0 in
    let same : n ≡ r.at = ap (λ o. unwrap_or o 0) r.is in
    let low = r.below in
    record {
      there = omega arith;
      begins = subst (λ n. line_offset size ls n ≤ o) (sym same) (leb-true (line_offset size ls r.at) o r.passes);
      last =
          λ k few before. let q = last_upto p None 0 (length ls) k (omega arith) (omega arith) (le-leb (line_offset size ls k) o before) in
          let up = q.above in let e : n ≡ q.at = ap (λ o. unwrap_or o 0) q.is in omega arith;
    }

-- there is one such line
pub line_at_only : (size : List ℕ → ℕ) (ls : List (List ℕ)) (o n : ℕ) → IsLineAt size ls o n → line_at size ls o ≡ n
line_at_only size ls o n i =
    let some = i.there in
    let r = line_at_is size ls o (omega arith) in
    let up = r.last n i.there i.begins in
    let down = i.last (line_at size ls o) r.there r.begins in
    omega arith

-- a later offset lies in the same line or a later one
pub line_at_up : (size : List ℕ → ℕ) (ls : List (List ℕ)) (o p : ℕ) → 0 < length ls → o ≤ p → line_at size ls o ≤ line_at size ls p
line_at_up size ls o p some h =
    let a = line_at_is size ls o some in
    let begins = a.begins in
    (line_at_is size ls p some).last (line_at size ls o) a.there (omega arith)

-- ---- the table

-- row n of the table is the extent of line n
pub get_or-line_table : (ls : List (List ℕ)) (n : ℕ) (d : LineExtent) → n < length ls → get_or (line_table ls) n d ≡ line_extent ls n
unfolding line_table
get_or-line_table ls n d h = get_or-map-range_with_len (line_extent ls) 0 (length ls) n n d h (omega arith)

-- the offset of an extent
pub offset_is : (ls : List (List ℕ)) (n : ℕ) → (line_extent ls n).offset ≡ line_offset length ls n
unfolding line_extent
offset_is ls n = refl

-- the same in bytes
pub byte_offset_is : (ls : List (List ℕ)) (n : ℕ) → (line_extent ls n).byte_offset ≡ line_offset byte_len ls n
unfolding line_extent
byte_offset_is ls n = refl
