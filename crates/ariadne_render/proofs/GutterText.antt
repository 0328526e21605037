-- The text of a gutter's row, column by column: where each column begins in it, that it may be cut there, and what it is after one column was changed.
use Rattle.std.proofs.Common.{◌≡◌, ℕ, zero, suc, ◌+◌, ◌-◌, ◌<◌, ◌≤◌, List, ◌∷◌, ◌++◌, length, take, drop, get_or, refl, sym, ap, ◌∙◌, arith, append_assoc, ◌≢◌, inl, inr, subst}
use Rattle.std.specs.List.{range_with_len, slice_range, replace_range}
use Rattle.std.specs.Str.{IsCharBoundary}
use Rattle.std.proofs.lemmas.List.{length-append, drop_at, take_at, get_or_at}
use Rattle.std.proofs.lemmas.Str.{IsCharBoundary-end}
use Rattle.std.proofs.lemmas.Bool.{cases_lt}
use Rattle.ariadne_base.specs.Locations.{upto}
use Rattle.ariadne_picture.specs.Lists.{joined}
use Rattle.ariadne_picture.proofs.Lists.Joined.{joined-append, joined-upto_more}
use Rattle.ariadne_picture.proofs.Rows.LineBlock.{range-append}

-- ---- parts by number

-- functions that agree at some numbers in a row give the same parts there
pub joined-range_same : {X : Type 0} (f g : ℕ → List X) (a n : ℕ) → ((i : ℕ) → a ≤ i → i < a + n → f i ≡ g i)
    → joined f (range_with_len a n) ≡ joined g (range_with_len a n)
unfolding joined
joined-range_same f g a zero h = refl
joined-range_same f g a (suc n) h =
    let more = joined-range_same f g (a + 1) n (λ k low high. h k (omega arith) (omega arith)) in
    let here = h a (omega arith) (omega arith) in
    λ i. here i ++ more i

-- the parts below n are those below i, part i, and those behind it
pub joined-split : {X : Type 0} (f : ℕ → List X) (i n : ℕ) → i < n
    → joined f (upto n) ≡ joined f (upto i) ++ (f i ++ joined f (range_with_len (i + 1) (n - i - 1)))
unfolding joined
joined-split f i n h =
    let e : n ≡ i + suc (n - i - 1) = omega arith in
    let z : 0 + i ≡ i = omega arith in
    ap (λ k. joined f (upto k)) e ∙ ap (joined f) (range-append 0 i (suc (n - i - 1)))
    ∙ joined-append f (upto i) (range_with_len (0 + i) (suc (n - i - 1)))
    ∙ ap (λ k. joined f (upto i) ++ (f k ++ joined f (range_with_len (k + 1) (n - i - 1)))) z

-- the part behind the first i is part i
part-end : (f : ℕ → List ℕ) (i : ℕ) → length (joined f (upto (i + 1))) ≡ length (joined f (upto i)) + length (f i)
part-end f i = ap length (joined-upto_more f i) ∙ length-append (joined f (upto i)) (f i)

-- ---- where a text of columns may be cut

-- a text that begins with a byte that begins a character
pub record IsHeaded (bs : List ℕ) : Type 0 where
  pub first : ℕ
  pub rest : List ℕ
  pub is : bs ≡ first ∷ rest
  pub lead : 128 ≤ first → 192 ≤ first

-- it may be cut where a column begins, and at its end
pub cut-at : (f : ℕ → List ℕ) (i n : ℕ) → ((k : ℕ) → k < n → IsHeaded (f k)) → i ≤ n
    → IsCharBoundary (joined f (upto n)) (length (joined f (upto i)))
cut-at f i n headed within = elim (cases_lt i n) [
  | inl less ↦
      let text = joined f (upto n) in
      let front = joined f (upto i) in
      let behind = joined f (range_with_len (i + 1) (n - i - 1)) in
      let head = headed i less in
      let parts : text ≡ front ++ (head.first ∷ (head.rest ++ behind)) = joined-split f i n less ∙ ap (λ t. front ++ (t ++ behind)) head.is in
      let at : get_or text (length front) 0 ≡ head.first =
      ap (λ t. get_or t (length front) 0) parts ∙ get_or_at front head.first (head.rest ++ behind) 0 (length front) refl in
      let len = ap length parts ∙ length-append front (head.first ∷ (head.rest ++ behind)) in
      (omega (arith, len), λ _ high. let up = head.lead (omega (arith, at, high)) in omega (arith, at, up))
  | inr more ↦
      let e : i ≡ n = omega arith in
      subst (λ k. IsCharBoundary (joined f (upto n)) (length (joined f (upto k)))) (sym e) (IsCharBoundary-end (joined f (upto n)))
]

-- ---- what stands in it

-- a column between two cuts
pub column-there : (f : ℕ → List ℕ) (i n : ℕ) → i < n
    → slice_range (joined f (upto n)) (length (joined f (upto i))) (length (joined f (upto (i + 1)))) ≡ f i
column-there f i n h =
    let front = joined f (upto i) in
    let behind = joined f (range_with_len (i + 1) (n - i - 1)) in
    let end = part-end f i in
    let size : length (joined f (upto (i + 1))) - length front ≡ length (f i) = omega arith in
    ap (λ t. slice_range t (length front) (length (joined f (upto (i + 1))))) (joined-split f i n h)
    ∙ ap (take (length (joined f (upto (i + 1))) - length front)) (drop_at front (f i ++ behind) (length front) refl)
    ∙ take_at (f i) behind _ (sym size)

-- the columns before a cut
pub front-there : (f : ℕ → List ℕ) (i n : ℕ) → i < n → take (length (joined f (upto i))) (joined f (upto n)) ≡ joined f (upto i)
front-there f i n h = ap (take (length (joined f (upto i)))) (joined-split f i n h) ∙ take_at (joined f (upto i)) _ (length (joined f (upto i))) refl

-- ---- one column is changed

module _ (f g : ℕ → List ℕ) (i n : ℕ) (inside : i < n) (same : (k : ℕ) → k ≢ i → f k ≡ g k) where
  -- those before it stand as they stood
  pub kept-before : (k : ℕ) → k ≤ i → joined f (upto k) ≡ joined g (upto k)
  kept-before k le = joined-range_same f g 0 k (λ j low high. same j (λ e. omega arith))

  -- and so do those behind it
  kept-behind : (m : ℕ) → joined f (range_with_len (i + 1) m) ≡ joined g (range_with_len (i + 1) m)
  kept-behind m = joined-range_same f g (i + 1) m (λ j low high. same j (λ e. omega arith))

  -- the text with the new column in place of the old one
  pub column-replaced : replace_range (joined f (upto n)) (length (joined f (upto i))) (length (joined f (upto (i + 1)))) (g i) ≡ joined g (upto n)
  column-replaced =
      let front = joined f (upto i) in
      let behind = joined f (range_with_len (i + 1) (n - i - 1)) in
      let end = part-end f i in
      let parts = joined-split f i n inside in
      let whole : joined f (upto n) ≡ (front ++ f i) ++ behind = parts ∙ sym (append_assoc front (f i) behind) in
      let size : length (front ++ f i) ≡ length (joined f (upto (i + 1))) = length-append front (f i) ∙ sym end in
      (λ j. (front-there f i n inside j ++ g i)
      ++ (ap (drop (length (joined f (upto (i + 1))))) whole ∙ drop_at (front ++ f i) behind (length (joined f (upto (i + 1)))) size) j)
      ∙ append_assoc front (g i) behind ∙ (λ j. kept-before i (omega arith) j ++ (g i ++ kept-behind (n - i - 1) j))
      ∙ sym (joined-split g i n inside)

  -- a column behind it begins as much later as the new column is longer
  pub moved-behind : (k : ℕ) → i < k → length (joined g (upto k)) + length (f i) ≡ length (joined f (upto k)) + length (g i)
  moved-behind k less =
      let front = joined f (upto i) in
      let behind = joined f (range_with_len (i + 1) (k - i - 1)) in
      let kept : joined g (upto k) ≡ front ++ (g i ++ behind) =
      joined-split g i k less ∙ (λ j. sym (kept-before i (omega arith)) j ++ (g i ++ sym (kept-behind (k - i - 1)) j)) in
      let old = ap length (joined-split f i k less) ∙ length-append front (f i ++ behind) in
      let new = ap length kept ∙ length-append front (g i ++ behind) in
      let old_part = length-append (f i) behind in
      let new_part = length-append (g i) behind in
      omega (arith, old, new, old_part, new_part)
