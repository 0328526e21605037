-- Row numbers: which row of a picture each name of a group's rows has, and the same backwards.
use Rattle.std.proofs.Common.{◌≡◌, ℕ, zero, suc, ◌+◌, ◌-◌, ◌<◌, ◌≤◌, false, List, [], ◌∷◌, ◌++◌, map, take, length, get_or, Some, refl, sym, ap, ◌∙◌}
use Rattle.std.proofs.Common.{subst, arith}
use Rattle.std.specs.Prelude.{slice_get, filter, option_map}
use Rattle.std.proofs.lemmas.Bool.{cond-true, cond-false, false_from_ne_true, true≢false}
use Rattle.std.proofs.lemmas.Option.{slice_get_within, slice_get-get_or, slice_get-map}
use Rattle.std.proofs.lemmas.List.{length-map}
use Rattle.ariadne_picture.specs.Lists.{joined, total}
use Rattle.ariadne_picture.specs.Rows.{Row, before, rows}
use Rattle.ariadne_picture.specs.Pieces.{Texts, Section}
use Rattle.ariadne_picture.proofs.Lists.ListFacts.{none≢some, all-weaker, all-at, filter-none, Increasing}
use Rattle.ariadne_picture.proofs.Rows.RowOrder.{IsBefore, before-irreflexive, before-chain, rows-increasing}
use Rattle.ariadne_picture.proofs.Rows.RowPlacing.{row_list, start_row, row_number}

-- ---- elements of lists joined

-- an element of the first list
pub at-front : {X : Type 0} (xs ys : List X) (k : ℕ) (x : X) → slice_get xs k ≡ Some x → slice_get (xs ++ ys) k ≡ Some x
at-front [] ys k x e = absurd (none≢some x e)
at-front (z ∷ xs) ys zero x e = e
at-front (z ∷ xs) ys (suc k) x e = at-front xs ys k x e

-- an element of the second list
pub at-back : {X : Type 0} (xs ys : List X) (k : ℕ) → slice_get (xs ++ ys) (length xs + k) ≡ slice_get ys k
at-back [] ys k = let z : 0 + k ≡ k = omega arith in ap (slice_get ys) z
at-back (z ∷ xs) ys k = let e : suc (length xs) + k ≡ suc (length xs + k) = omega arith in ap (slice_get (z ∷ xs ++ ys)) e ∙ at-back xs ys k

-- element k of part g of joined parts
pub at-part : {X Y : Type 0} (f : X → List Y) (xs : List X) (g k : ℕ) (x : X) (y : Y) → slice_get xs g ≡ Some x → slice_get (f x) k ≡ Some y
    → slice_get (joined f xs) (total (λ x. length (f x)) (take g xs) + k) ≡ Some y
unfolding joined total
at-part f [] g k x y e h = absurd (none≢some x e)
at-part f (z ∷ xs) zero k x y e h =
    let same : z ≡ x = cc in
    let n : 0 + k ≡ k = omega arith in
    ap (slice_get (f z ++ joined f xs)) n ∙ at-front (f z) (joined f xs) k y (ap (λ w. slice_get (f w) k) same ∙ h)
at-part f (z ∷ xs) (suc g) k x y e h =
    let n : length (f z) + total (λ x. length (f x)) (take g xs) + k ≡ length (f z) + (total (λ x. length (f x)) (take g xs) + k) = omega arith in
    ap (slice_get (f z ++ joined f xs)) n ∙ at-back (f z) (joined f xs) (total (λ x. length (f x)) (take g xs) + k) ∙ at-part f xs g k x y e h

-- a sum over one element more
pub total-next : {X : Type 0} (f : X → ℕ) (xs : List X) (g : ℕ) (x : X) → slice_get xs g ≡ Some x
    → total f (take (suc g) xs) ≡ total f (take g xs) + f x
unfolding total
total-next f [] g x e = absurd (none≢some x e)
total-next f (z ∷ xs) zero x e = let same : z ≡ x = cc in let n : f z ≡ f x = ap f same in omega arith
total-next f (z ∷ xs) (suc g) x e = let n = total-next f xs g x e in omega (arith, n)

-- a sum over more elements is no less
pub total-rises : {X : Type 0} (f : X → ℕ) (g d : ℕ) (xs : List X) → total f (take g xs) ≤ total f (take (g + d) xs)
unfolding total
total-rises f zero d xs = omega arith
total-rises f (suc g) d [] = omega arith
total-rises f (suc g) d (x ∷ xs) = let e : suc g + d ≡ suc (g + d) = omega arith in rw e (let r = total-rises f g d xs in omega (arith, r))

-- how many elements joined parts have
pub length-joined : {X Y : Type 0} (f : X → List Y) (xs : List X) → length (joined f xs) ≡ total (λ x. length (f x)) xs
unfolding joined total
length-joined f [] = refl
length-joined f (x ∷ xs) = Rattle.std.proofs.lemmas.List.length-append (f x) (joined f xs) ∙ ap (λ n. length (f x) + n) (length-joined f xs)

-- ---- the number of a row within its group

-- no row stands before one that stands before it
not-after : (x y : Row) → IsBefore x y → before y x ≡ false
not-after x y h = false_from_ne_true (before y x) (λ t. true≢false (sym (before-chain x y x h t) ∙ before-irreflexive x))

-- in a list in order, as many rows stand before a row as its place says
pub count-before : (xs : List Row) (k : ℕ) (x : Row) → Increasing IsBefore xs → slice_get xs k ≡ Some x → length (filter (λ y. before y x) xs) ≡ k
count-before [] k x i e = absurd (none≢some x e)
count-before (y ∷ xs) zero x i e =
    let same : y ≡ x = cc in
    ap length (cond-false (before y x) (y ∷ filter (λ z. before z x) xs) (filter (λ z. before z x) xs)
    (subst (λ z. before y z ≡ false) same (before-irreflexive y)))
    ∙ ap length (filter-none (λ z. before z x) xs (all-weaker (IsBefore y) (λ z. before z x ≡ false) xs
    (λ z h. subst (λ w. before z w ≡ false) same (not-after y z h)) i.0))
count-before (y ∷ xs) (suc k) x i e =
    ap length (cond-true (before y x) (y ∷ filter (λ z. before z x) xs) (filter (λ z. before z x) xs) (all-at (IsBefore y) xs k x e i.0))
    ∙ ap suc (count-before xs k x i.1 e)

-- ---- the number of a row within the picture

-- x is row number k of group number g, which is s
pub record IsRow (t : Texts) (ss : List Section) (g : ℕ) (s : Section) (k : ℕ) (x : Row) : Type 0 where
  pub group : slice_get ss g ≡ Some s
  pub name : slice_get (row_list t ss s) k ≡ Some x

module _ (t : Texts) (ss : List Section) where
  -- the rows of a picture below its header, where the row x of group s has these cells
  unfoldable pub picture_rows : {Y : Type 0} → (Section → Row → Y) → List Y
  picture_rows f = joined (λ s. map (f s) (row_list t ss s)) ss

  -- the first row of the first group stands below the header
  pub start-first : start_row t ss 0 ≡ 1
  unfolding start_row total
  start-first = refl

  -- the next group begins where this one ends
  pub start-next : (g : ℕ) (s : Section) → slice_get ss g ≡ Some s → start_row t ss (suc g) ≡ start_row t ss g + length (row_list t ss s)
  unfolding start_row
  start-next g s e = let n = total-next (λ s. length (row_list t ss s)) ss g s e in omega (arith, n)

  -- row x stands at its place from the group's first row on
  pub number-of-row : (g : ℕ) (s : Section) (k : ℕ) (x : Row) → IsRow t ss g s k x → row_number t ss g s x ≡ start_row t ss g + k
  unfolding row_number row_list
  number-of-row g s k x h =
      ap (λ n. start_row t ss g + n) (count-before (rows s.sheet s.is_last t.helps t.notes) k x
      (rows-increasing s.sheet s.is_last t.helps t.notes) h.name)

  module _ {Y : Type 0} (f : Section → Row → Y) (header : Y) where
    -- the row at that number has its cells
    pub row-at-place : (g : ℕ) (s : Section) (k : ℕ) (x : Row) → IsRow t ss g s k x
        → slice_get (header ∷ picture_rows f) (start_row t ss g + k) ≡ Some (f s x)
    unfolding start_row picture_rows
    row-at-place g s k x h =
        let lens : total (λ s. length (map (f s) (row_list t ss s))) (take g ss) ≡ total (λ s. length (row_list t ss s)) (take g ss) = ap
        (λ l. total l (take g ss)) (λ i s. length-map (row_list t ss s) (f s) i) in
        let n : 1 + total (λ s. length (row_list t ss s)) (take g ss) + k ≡ suc
        (total (λ s. length (map (f s) (row_list t ss s))) (take g ss) + k) = omega (arith, lens) in
        ap (slice_get (header ∷ picture_rows f)) n
        ∙ at-part (λ s. map (f s) (row_list t ss s)) ss g k s (f s x) h.group (slice_get-map (f s) (row_list t ss s) k ∙ ap (option_map (f s)) h.name)

    -- and so at its row number
    pub row-at-number : (g : ℕ) (s : Section) (k : ℕ) (x : Row) → IsRow t ss g s k x
        → slice_get (header ∷ picture_rows f) (row_number t ss g s x) ≡ Some (f s x)
    row-at-number g s k x h = ap (slice_get (header ∷ picture_rows f)) (number-of-row g s k x h) ∙ row-at-place g s k x h

    -- the groups are all rows but the header
    pub start-last : start_row t ss (length ss) ≡ length (header ∷ picture_rows f)
    unfolding start_row picture_rows
    start-last =
        let all : take (length ss) ss ≡ ss = Rattle.std.proofs.lemmas.List.take_all (length ss) ss (omega arith) in
        let lens : total (λ s. length (map (f s) (row_list t ss s))) ss ≡ total (λ s. length (row_list t ss s)) ss = ap (λ l. total l ss)
        (λ i s. length-map (row_list t ss s) (f s) i) in
        let some = ap (λ xs. total (λ s. length (row_list t ss s)) xs) all in
        let joins = length-joined (λ s. map (f s) (row_list t ss s)) ss in
        omega (arith, some, lens, joins)

  -- ---- backwards

  -- every row from a group's first one on, before the next group's, is one of its rows
  pub row-within : (g n : ℕ) (s : Section) → slice_get ss g ≡ Some s → start_row t ss g ≤ n → n < start_row t ss (suc g)
      → (k : ℕ) × (x : Row) × IsRow t ss g s k x × (n ≡ start_row t ss g + k)
  row-within g n s e low high =
      let next = start-next g s e in
      let k : ℕ = n - start_row t ss g in
      let x : Row = get_or (row_list t ss s) k Rattle.ariadne_picture.specs.Rows.group_header in (
        k,
        x,
        record { group = e; name = slice_get-get_or (row_list t ss s) k Rattle.ariadne_picture.specs.Rows.group_header (omega arith) },
        omega arith,
      )

  -- a row of a group is from its first one on, before the next group's
  pub row-in-group : (g : ℕ) (s : Section) (k : ℕ) (x : Row) → IsRow t ss g s k x → (start_row t ss g ≤ row_number t ss g s x)
      × (row_number t ss g s x < start_row t ss (suc g))
  row-in-group g s k x h =
      let next = start-next g s h.group in
      let here = number-of-row g s k x h in
      let few = slice_get_within (row_list t ss s) k x h.name in
      (omega arith, omega arith)
