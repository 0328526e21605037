-- The numbers of the multi-line labels that touch a line, as the lines are gone through.
use Rattle.std.proofs.Common.{◌≡◌, ℕ, ◌+◌, ◌<◌, ◌≤◌, Bool, true, false, ◌&&◌, ◌==◌, cond, List, [], ◌∷◌, map, fold, get_or, filter, nat_le, nat_lt}
use Rattle.std.proofs.Common.{refl, ap, ◌∙◌, arith, inl, inr, Some}
use Rattle.std.specs.Prelude.{slice_get, slice_range}
use Rattle.std.specs.List.{AllByRecursion, enumerate_from}
use Rattle.std.specs.List.Sorted.{IsNonDecreasing}
use Rattle.std.proofs.lemmas.Bool.{cond_both, cases_lt, cases_order, lt-ltb, le-ltb, le-leb, lt-leb, eq-eqb, ne_eqb}
use Rattle.std.proofs.lemmas.List.Elements.{filter_agree}
use Rattle.ariadne_picture.specs.declared.label_info.LabelInfo.{LabelInfo}
use Rattle.ariadne_picture.specs.Lists.{inserted, in_order, mapped_numbered, total}
use Rattle.ariadne_picture.specs.Ranks.{multi_line_labels}
use Rattle.ariadne_picture.proofs.Lists.Elements.{all-numbered}
use Rattle.ariadne_picture.proofs.Lists.ListFacts.{all-weaker, increasing-pairs}
use Rattle.ariadne_picture.proofs.Lists.Occurrences.{occurrences, total-inserted, total-in_order, total-map, total-same}
use Rattle.ariadne_layout.specs.declared.label_lists.Begin.{Begin}
use Rattle.ariadne_layout.specs.LabelLists.{begins_of, begun_above, ends_from, reaching}
use Rattle.ariadne_layout.specs.SnippetLabels.{touches, touching}
use Rattle.ariadne_layout.proofs.Rising.{RisesBy, in_order-rises, inserted-rises, filter-rises, part-between}

-- ---- numbers that rise

-- a list of numbers that rises
abbrev pub Rises : List ℕ → Type 0
Rises ns = RisesBy (λ n. n) ns

-- the same by places
pub non-decreasing : (ns : List ℕ) → Rises ns → IsNonDecreasing ns
non-decreasing ns up i j d order short = elim (cases_lt i j) [
  | inl less ↦ increasing-pairs (λ m n. m ≤ n) ns up i j d less short
  | inr same ↦ let e : i ≡ j = omega arith in let f = ap (λ k. get_or ns k d) e in omega arith
]

-- a number that all others are above does not occur among them
absent : (w : ℕ) (ns : List ℕ) → AllByRecursion (λ n. w < n) ns → occurrences (λ n. n == w) ns ≡ 0
unfolding total
absent w [] a = refl
absent w (n ∷ ns) a =
    let more = absent w ns a.1 in
    let above = a.0 in
    rw (ne_eqb n w (omega arith)) (omega arith)

-- the first number occurs
first-occurs : (n : ℕ) (ns : List ℕ) → 1 ≤ occurrences (λ m. m == n) (n ∷ ns)
unfolding total
first-occurs n ns = rw (eq-eqb n n refl) (omega arith)

-- lists that rise and have the same numbers are the same
pub same-numbers : (ms ns : List ℕ) → Rises ms → Rises ns
    → ((w : ℕ) → occurrences (λ n. n == w) ms ≡ occurrences (λ n. n == w) ns) → ms ≡ ns
unfolding total
same-numbers [] [] a b e = refl
same-numbers [] (n ∷ ns) a b e = absurd (let here = first-occurs n ns in let none = e n in omega arith)
same-numbers (m ∷ ms) [] a b e = absurd (let here = first-occurs m ms in let none = e m in omega arith)
same-numbers (m ∷ ms) (n ∷ ns) a b e = elim (cases_order m n) [
  | inl same ↦
      let tails : (w : ℕ) → occurrences (λ k. k == w) ms ≡ occurrences (λ k. k == w) ns =
      λ w. let all : cond (m == w) 1 0 + occurrences (λ k. k == w) ms ≡ cond (n == w) 1 0 + occurrences (λ k. k == w) ns = e w in
      let here : cond {A = ℕ} (m == w) 1 0 ≡ cond (n == w) 1 0 = ap (λ k. cond {A = ℕ} (k == w) 1 0) same in
      omega arith in
      λ i. same i ∷ same-numbers ms ns a.1 b.1 tails i
  | inr h ↦ absurd (elim h [
    | inl less ↦
        let gone = absent m (n ∷ ns) (less, all-weaker (λ k. n ≤ k) (λ k. m < k) ns (λ k h. omega arith) b.0) in
        let here = first-occurs m ms in let both = e m in omega (arith, gone, here, both)
    | inr less ↦
        let gone = absent n (m ∷ ms) (less, all-weaker (λ k. m ≤ k) (λ k. n < k) ms (λ k h. omega arith) a.0) in
        let here = first-occurs n ns in let both = e n in omega (arith, gone, here, both)
  ])
]

-- the numbers of an enumerated list are at least the first
numbers-from : {X : Type 0} (p : ℕ × X → Bool) (n : ℕ) (xs : List X)
    → AllByRecursion (λ i. n ≤ i) (map (λ e. e.0) (filter p (enumerate_from n xs)))
numbers-from p n [] = tt
numbers-from p n (x ∷ xs) =
    let rest = all-weaker (λ i. n + 1 ≤ i) (λ i. n ≤ i) (map (λ (e : ℕ × _). e.0) (filter p (enumerate_from (n + 1) xs))) (λ i h. omega arith)
    (numbers-from p (n + 1) xs) in
    cond_both (p (n, x)) ((n, x) ∷ filter p (enumerate_from (n + 1) xs)) (filter p (enumerate_from (n + 1) xs))
    (λ es. AllByRecursion (λ i. n ≤ i) (map (λ (e : ℕ × _). e.0) es)) (λ _. (omega arith, rest)) (λ _. rest)

-- so those that a filter keeps rise
pub numbers-rise : {X : Type 0} (p : ℕ × X → Bool) (n : ℕ) (xs : List X) → Rises (map (λ e. e.0) (filter p (enumerate_from n xs)))
numbers-rise p n [] = tt
numbers-rise p n (x ∷ xs) =
    let more = numbers-from p (n + 1) xs in
    let rest = all-weaker (λ i. n + 1 ≤ i) (λ i. n ≤ i) (map (λ (e : ℕ × _). e.0) (filter p (enumerate_from (n + 1) xs))) (λ i h. omega arith) more in
    cond_both (p (n, x)) ((n, x) ∷ filter p (enumerate_from (n + 1) xs)) (filter p (enumerate_from (n + 1) xs))
    (λ es. Rises (map (λ (e : ℕ × _). e.0) es)) (λ _. (rest, numbers-rise p (n + 1) xs)) (λ _. numbers-rise p (n + 1) xs)

-- so the numbers of labels that reach a line rise
pub reaching-rises : (longs : List LabelInfo) (b m : ℕ) → Rises (reaching longs b m)
unfolding reaching
reaching-rises longs b m =
    numbers-rise (λ (e : ℕ × LabelInfo). nat_lt e.1.start_line b && nat_le m e.1.end_line) 0 longs

-- ---- sums

-- over what a filter keeps
total-kept : {X : Type 0} (f : X → ℕ) (t : X → Bool) (xs : List X) → total f (filter t xs) ≡ total (λ x. cond (t x) (f x) 0) xs
unfolding total
total-kept f t [] = refl
total-kept f t (x ∷ xs) =
    elim (t x) as (λ v. total f (cond v (x ∷ filter t xs) (filter t xs)) ≡ cond v (f x) 0 + total (λ x. cond (t x) (f x) 0) xs) [
      | true ↦ ap (λ n. f x + n) (total-kept f t xs)
      | false ↦ total-kept f t xs ∙ omega arith
    ]

-- two sums are one of what both give
total-both : {X : Type 0} (P : X → Type 0) (f g h : X → ℕ) → ((x : X) → P x → f x + g x ≡ h x) → (xs : List X) → AllByRecursion P xs
    → total f xs + total g xs ≡ total h xs
unfolding total
total-both P f g h e [] a = omega arith
total-both P f g h e (x ∷ xs) a = let here = e x a.0 in let more = total-both P f g h e xs a.1 in omega (arith, here, more)

-- ---- labels are taken in

module _ (labels : List LabelInfo) (l : ℕ) where
  -- the numbers after one more label that starts: it is taken in if it ends on line l or below
  abbrev pub taken_in : List ℕ → Begin → List ℕ
  taken_in ns b = cond (ends_from labels l b.number) (inserted nat_lt b.number ns) ns

  -- they rise
  pub taken_in-rises : (ns : List ℕ) (b : Begin) → Rises ns → Rises (taken_in ns b)
  taken_in-rises ns b up =
      cond_both (ends_from labels l b.number) (inserted nat_lt b.number ns) ns Rises (λ _. inserted-rises (λ n. n) b.number ns up) (λ _. up)

  -- and so they do after some more
  pub all-taken_in-rises : (ns : List ℕ) (bs : List Begin) → Rises ns → Rises (fold taken_in ns bs)
  all-taken_in-rises ns [] up = up
  all-taken_in-rises ns (b ∷ bs) up = all-taken_in-rises (taken_in ns b) bs (taken_in-rises ns b up)

  -- a label that is taken in has its number there once more
  taken_in-count : (w : ℕ) (ns : List ℕ) (b : Begin)
      → occurrences (λ n. n == w) (taken_in ns b) ≡ occurrences (λ n. n == w) ns + cond (ends_from labels l b.number && (b.number == w)) 1 0
  taken_in-count w ns b =
      elim (ends_from labels l b.number) as (λ v. occurrences (λ n. n == w) (cond v (inserted nat_lt b.number ns) ns)
      ≡ occurrences (λ n. n == w) ns + cond (v && (b.number == w)) 1 0) [
        | true ↦ total-inserted (λ n. cond (n == w) 1 0) nat_lt b.number ns ∙ omega arith
        | false ↦ omega arith
      ]

  -- so it is with some more
  all-taken_in-count : (w : ℕ) (ns : List ℕ) (bs : List Begin) → occurrences (λ n. n == w) (fold taken_in ns bs)
      ≡ occurrences (λ n. n == w) ns + occurrences (λ (b : Begin). ends_from labels l b.number && (b.number == w)) bs
  unfolding total
  all-taken_in-count w ns [] = omega arith
  all-taken_in-count w ns (b ∷ bs) =
      let one = taken_in-count w ns b in let more = all-taken_in-count w (taken_in ns b) bs in omega (arith, one, more)

-- ---- from one line to a later one

-- A label may start above line b and end on line m or below, or start from line b to line l. Where it ends on line l or below besides, it is one that
-- starts above the line behind l and ends on line l or below.
one-counts : (start end b m l n : ℕ) → b ≤ l + 1 → m ≤ l
    → cond {A = ℕ} (nat_lt start b && nat_le m end) (cond (nat_le l end) n 0) 0
    + cond (nat_le b start && nat_lt start (l + 1)) (cond (nat_le l end) n 0) 0
    ≡ cond (nat_lt start (l + 1) && nat_le l end) n 0
one-counts start end b m l n h k = elim (cases_lt end l) [
  | inl short ↦ rw (
    lt-leb l end short,
    and-false (nat_lt start (l + 1)),
    no-choice (nat_lt start b && nat_le m end),
    no-choice
        (nat_le b start && nat_lt start (l + 1)),
  ) refl
  | inr long ↦ elim (cases_lt start b) [
    | inl early ↦ rw (le-leb l end long, lt-ltb start b early, le-leb m end (omega arith), lt-leb b start early, lt-ltb start (l + 1) (omega arith))
        (omega arith)
    | inr late ↦ elim (cases_lt start (l + 1)) [
      | inl here ↦ rw (le-leb l end long, le-ltb start b late, le-leb b start late, lt-ltb start (l + 1) here) (omega arith)
      | inr past ↦ rw (le-leb l end long, le-ltb start b late, le-leb b start late, le-ltb start (l + 1) past) refl
    ]
  ]
]
  where
    no-choice : (p : Bool) → cond {A = ℕ} p 0 0 ≡ 0
    no-choice true = refl
    no-choice false = refl

    and-false : (p : Bool) → (p && false) ≡ false
    and-false true = refl
    and-false false = refl

-- a count of those that pass two tests
two-tests : (p q : Bool) → cond {A = ℕ} (p && q) 1 0 ≡ cond p (cond q 1 0) 0
two-tests true q = refl
two-tests false q = refl

-- the begins of a group rise by line
pub begins-rise : (longs : List LabelInfo) → RisesBy (λ b. b.line) (begins_of longs)
unfolding begins_of
begins-rise longs = in_order-rises (λ b. b.line) (mapped_numbered (λ i a. record { line = a.start_line; number = i }) longs)

module _ (longs : List LabelInfo) (b m l : ℕ) (h : b ≤ l + 1) (k : m ≤ l) where
  -- the numbered labels
  abbrev numbered : List (ℕ × LabelInfo)
  numbered = enumerate_from 0 longs

  -- the start of a label
  abbrev begin_of : ℕ × LabelInfo → Begin
  begin_of e = record { line = e.1.start_line; number = e.0 }

  -- a label starts from line b on and no further than line l
  abbrev starts_there : Begin → Bool
  starts_there x = nat_le b x.line && nat_lt x.line (l + 1)

  -- a number is w
  abbrev is_number : ℕ → ℕ → ℕ
  is_number w n = cond (n == w) 1 0

  -- how often a number is among those of labels that reach a line
  reaching-count : (f : ℕ → ℕ) (c n : ℕ)
      → total f (reaching longs c n) ≡ total (λ (e : ℕ × LabelInfo). cond (nat_lt e.1.start_line c && nat_le n e.1.end_line) (f e.0) 0) numbered
  unfolding reaching
  reaching-count f c n =
      let q : ℕ × LabelInfo → Bool = λ e. nat_lt e.1.start_line c && nat_le n e.1.end_line in
      total-map f (λ (e : ℕ × LabelInfo). e.0) (filter q numbered) ∙ total-kept (λ (e : ℕ × LabelInfo). f e.0) q numbered

  -- how often it is among those that start there and end on line l or below
  starting-count : (w : ℕ)
      → occurrences (λ (x : Begin). ends_from longs l x.number && (x.number == w)) (filter starts_there (begins_of longs))
      ≡ total (λ (e : ℕ × LabelInfo). cond (starts_there (begin_of e)) (cond (ends_from longs l e.0) (is_number w e.0) 0) 0) numbered
  unfolding begins_of
  starting-count w =
      let g : Begin → ℕ = λ x. cond (ends_from longs l x.number && (x.number == w)) 1 0 in
      let f : Begin → ℕ = λ x. cond (starts_there x) (g x) 0 in
      let starts : List Begin = map begin_of numbered in
      total-kept g starts_there (in_order (λ a b. nat_lt a.line b.line) starts) ∙ total-in_order f (λ a b. nat_lt a.line b.line) starts
      ∙ total-map f begin_of numbered ∙ total-same (λ e. f (begin_of e))
      (λ e. cond (starts_there (begin_of e)) (cond (ends_from longs l e.0) (is_number w e.0) 0) 0)
      (λ e. ap (λ n. cond (starts_there (begin_of e)) n 0) (two-tests (ends_from longs l e.0) (e.0 == w))) numbered

  -- the numbers of labels that reached line b and end on line l or below, and of those that start there
  abbrev moved_on : List ℕ
  moved_on =
      fold (taken_in longs l) (filter (ends_from longs l) (reaching longs b m)) (filter starts_there (begins_of longs))

  -- each is among them as often as among those that touch line l
  moved-count : (w : ℕ) → occurrences (λ n. n == w) moved_on ≡ occurrences (λ n. n == w) (reaching longs (l + 1) l)
  moved-count w =
      let kept = total-kept (is_number w) (ends_from longs l) (reaching longs b m) in
      let old = reaching-count (λ n. cond (ends_from longs l n) (is_number w n) 0) b m in
      let new = starting-count w in
      let all = all-taken_in-count longs l w (filter (ends_from longs l) (reaching longs b m)) (filter starts_there (begins_of longs)) in
      let sum = total-both (λ (e : ℕ × LabelInfo). slice_get longs e.0 ≡ Some e.1)
      (λ e. cond (nat_lt e.1.start_line b && nat_le m e.1.end_line) (cond (ends_from longs l e.0) (is_number w e.0) 0) 0)
      (λ e. cond (starts_there (begin_of e)) (cond (ends_from longs l e.0) (is_number w e.0) 0) 0)
      (λ e. cond (nat_lt e.1.start_line (l + 1) && nat_le l e.1.end_line) (is_number w e.0) 0)
      (λ e there.
      let ends : ends_from longs l e.0 ≡ nat_le l e.1.end_line = rw there refl in
      rw ends (one-counts e.1.start_line e.1.end_line b m l (is_number w e.0) h k)) numbered
      (all-numbered (λ (e : ℕ × LabelInfo). slice_get longs e.0 ≡ Some e.1) longs (λ k x e. e)) in
      let goal = reaching-count (is_number w) (l + 1) l in
      omega (arith, kept, old, new, all, sum, goal)

  -- so they are the same
  moved-same : moved_on ≡ reaching longs (l + 1) l
  moved-same =
      same-numbers moved_on (reaching longs (l + 1) l)
      (all-taken_in-rises longs l (filter (ends_from longs l) (reaching longs b m)) (filter starts_there (begins_of longs))
      (filter-rises (λ n. n) (ends_from longs l) (reaching longs b m) (reaching-rises longs b m)))
      (reaching-rises longs (l + 1) l) moved-count

  -- after those that end above line l are dropped, and those that start up to it are taken in, the numbers are those that touch it
  pub moved : (first last : ℕ) → first ≡ begun_above longs b → last ≡ begun_above longs (l + 1)
      → fold (taken_in longs l) (filter (ends_from longs l) (reaching longs b m)) (slice_range (begins_of longs) first last) ≡ reaching longs (l + 1) l
  unfolding begun_above
  moved first last e f =
      let there : slice_range (begins_of longs) first last ≡ filter starts_there (begins_of longs) =
      (λ i. slice_range (begins_of longs) (e i) (f i)) ∙ part-between (λ (x : Begin). x.line) b (l + 1) (begins_of longs) h (begins-rise longs) in
      ap (fold (taken_in longs l) (filter (ends_from longs l) (reaching longs b m))) there ∙ moved-same

-- ---- what the numbers are, where a line was gone to

-- those that start above the next line and end on this or below touch this
pub reaching-touching : (labels : List LabelInfo) (l : ℕ) → reaching (multi_line_labels labels) (l + 1) l ≡ touching labels l
unfolding reaching touching touches
reaching-touching labels l =
    ap (map (λ (e : ℕ × LabelInfo). e.0))
    (filter_agree (λ (e : ℕ × LabelInfo). nat_lt e.1.start_line (l + 1) && nat_le l e.1.end_line)
    (λ e. nat_le e.1.start_line l && nat_le l e.1.end_line) (λ e. ap (λ t. t && nat_le l e.1.end_line) (up-to e.1.start_line))
    (enumerate_from 0 (multi_line_labels labels)))
  where
    up-to : (n : ℕ) → nat_lt n (l + 1) ≡ nat_le n l
    up-to n = elim (cases_lt l n) [
      | inl past ↦ rw (le-ltb n (l + 1) (omega arith), lt-leb n l past)
      | inr within ↦ rw (lt-ltb n (l + 1) (omega arith), le-leb n l within)
    ]
