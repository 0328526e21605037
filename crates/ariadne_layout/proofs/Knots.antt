-- The columns of a cut line are held for the places of which anything is seen: one place more is held, and places between take none.
use Rattle.std.proofs.Common.{◌≡◌, ◌∙◌, ℕ, zero, suc, ◌+◌, ◌-◌, ◌<◌, ◌≤◌, min, List, [], ◌∷◌, ◌++◌, length, get_or, map, slice_get, Some, true, false, Result, IfOk, refl, sym, ap, subst, arith, inl, inr}
use Rattle.std.specs.Prelude.{◌&&◌, ◌==◌, nat_le, nat_lt, unwrap_or}
use Rattle.std.specs.List.{AllByRecursion}
use Rattle.std.specs.List.Sorted.{IsNonDecreasingBy}
use Rattle.std.proofs.lemmas.Bool.{cases_lt, cond-true, cond-false, le-leb, lt-leb, leb-true, ltb-true, and_parts, true≢false}
use Rattle.std.proofs.lemmas.List.FromFn.{get_or-map-range_with_len, length-map-range_with_len}
use Rattle.std.proofs.lemmas.Option.{get_or_from_slice_get, slice_get_past, slice_get_within, unwrap_or-slice_get}
use Rattle.std.proofs.lemmas.Result.{IfOk-weaker}
use Rattle.ariadne_base.specs.Locations.{upto}
use Rattle.ariadne_picture.specs.declared.sight.Part.{Part}
use Rattle.ariadne_picture.specs.declared.switches.CharSet.{CharSet}
use Rattle.ariadne_picture.specs.Columns.{mark_columns}
use Rattle.ariadne_layout.specs.Cuts.{end_of, mark_before, mark_behind}
use Rattle.ariadne_layout.specs.Tables.{column_in}
use Rattle.ariadne_layout.proofs.PartColumns.{behind-before, last-ends}
use Rattle.ariadne_layout.specs.declared.line_columns.Knot.{Knot}
use Rattle.ariadne_layout.specs.Knots.{AreRising, HoldColumns, held_columns, knot_column}

-- ---- in order

-- none are
pub rising-none : (knots : List Knot) → knots ≡ [] → AreRising knots
unfolding AreRising
rising-none knots none = subst AreRising (sym none) tt

-- one more behind all
rising-more : (knots : List Knot) (q : Knot) → AreRising knots → AllByRecursion (λ (r : Knot). r.place < q.place) knots → AreRising (knots ++ q ∷ [])
unfolding AreRising
rising-more [] q rising before = (tt, tt)
rising-more (r ∷ knots) q rising before = (all-more knots before.0 rising.0, rising-more knots q rising.1 before.1)
  where
    all-more : (xs : List Knot) → r.place < q.place → AllByRecursion (λ (x : Knot). r.place < x.place) xs → AllByRecursion (λ (x : Knot). r.place < x.place) (xs ++ q ∷ [])
    all-more [] last each = (last, tt)
    all-more (x ∷ xs) last each = (each.0, all-more xs last each.1)

-- it stands before what is behind it
before-more : (knots : List Knot) (q : Knot) (a : ℕ) → AllByRecursion (λ (r : Knot). r.place < q.place) knots → q.place < a
    → AllByRecursion (λ (r : Knot). r.place < a) (knots ++ q ∷ [])
before-more [] q a before last = (last, tt)
before-more (r ∷ knots) q a before last = (omega (arith, before.0, last), before-more knots q a before.1 last)

before-up : (knots : List Knot) (a b : ℕ) → a ≤ b → AllByRecursion (λ (r : Knot). r.place < a) knots → AllByRecursion (λ (r : Knot). r.place < b) knots
before-up [] a b up before = tt
before-up (r ∷ knots) a b up before = (omega (arith, before.0, up), before-up knots a b up before.1)

-- ---- what is looked up

-- behind all of them it is the given column
column-past : (x : ℕ) (knots : List Knot) (k : ℕ) → AllByRecursion (λ (r : Knot). r.place < k) knots → knot_column x knots k ≡ x
unfolding knot_column
column-past x [] k before = refl
column-past x (r ∷ knots) k before = cond-false (nat_le k r.place) r.column (knot_column x knots k) (lt-leb k r.place before.0) ∙ column-past x knots k before.1

-- up to the last of them it is as if that one were given
column-more : (x : ℕ) (knots : List Knot) (q : Knot) (k : ℕ) → k ≤ q.place → knot_column x (knots ++ q ∷ []) k ≡ knot_column q.column knots k
unfolding knot_column
column-more x [] q k up = cond-true (nat_le k q.place) q.column x (le-leb k q.place up)
column-more x (r ∷ knots) q k up = elim (cases_lt r.place k) [
  | inl past ↦
      cond-false (nat_le k r.place) r.column (knot_column x (knots ++ q ∷ []) k) (lt-leb k r.place past) ∙ column-more x knots q k up
      ∙ sym (cond-false (nat_le k r.place) r.column (knot_column q.column knots k) (lt-leb k r.place past))
  | inr here ↦
      cond-true (nat_le k r.place) r.column (knot_column x (knots ++ q ∷ []) k) (le-leb k r.place here)
      ∙ sym (cond-true (nat_le k r.place) r.column (knot_column q.column knots k) (le-leb k r.place here))
]

-- ---- columns are held

-- those of no place are
hold-nothing : (f : ℕ → ℕ) → f 0 ≡ 0 → HoldColumns f [] 0 0
unfolding AreRising knot_column
hold-nothing f first = record {
  rising = tt;
  before = tt;
  next = sym first;
  held = λ k within. let z : k ≡ 0 = omega (arith, within) in sym first ∙ ap f (sym z);
}

pub hold-none : (f : ℕ → ℕ) (knots : List Knot) → knots ≡ [] → f 0 ≡ 0 → HoldColumns f knots 0 0
hold-none f knots none first = subst (λ ks. HoldColumns f ks 0 0) (sym none) (hold-nothing f first)

-- places that take none need no entry
pub hold-flat : (f : ℕ → ℕ) (knots : List Knot) (a b x : ℕ) → HoldColumns f knots a x → a ≤ b → ((k : ℕ) → a ≤ k → k ≤ b → f k ≡ x) → HoldColumns f knots b x
hold-flat f knots a b x h up flat = record {
  rising = h.rising;
  before = before-up knots a b up h.before;
  next = sym (flat b up (omega arith));
  held = λ k within. elim (cases_lt a k) [
    | inl past ↦ column-past x knots k (before-up knots a k (omega (arith, past)) h.before) ∙ sym (flat k (omega (arith, past)) within)
    | inr here ↦ h.held k here
  ];
}

-- a place that takes some has one
pub hold-place : (f : ℕ → ℕ) (knots new : List Knot) (a place x w next : ℕ) → HoldColumns f knots a x → a ≤ place
    → ((k : ℕ) → a ≤ k → k ≤ place → f k ≡ x) → f (place + 1) ≡ x + w → new ≡ knots ++ record { place = place; column = x } ∷ [] → next ≡ x + w
    → HoldColumns f new (place + 1) next
hold-place f knots new a place x w next h up flat more pushed both =
    let q : Knot = record { place = place; column = x } in
    let here = hold-flat f knots a place x h up flat in
    subst (λ ks. HoldColumns f ks (place + 1) next) (sym pushed) (record {
      rising = rising-more knots q h.rising here.before;
      before = before-more knots q (place + 1) here.before (omega arith);
      next = both ∙ sym more;
      held = λ k within. elim (cases_lt place k) [
        | inl past ↦
            let z : k ≡ place + 1 = omega (arith, past, within) in
            column-past next (knots ++ q ∷ []) k (before-more knots q k here.before past) ∙ both ∙ sym more ∙ ap f (sym z)
        | inr low ↦ column-more next knots q k low ∙ here.held k low
      ];
    })

-- the place behind them has one too, so that each is found
pub hold-last : (f : ℕ → ℕ) (knots new : List Knot) (a x : ℕ) → HoldColumns f knots a x → new ≡ knots ++ record { place = a; column = x } ∷ []
    → AreRising new × ((k : ℕ) → k ≤ a → knot_column 0 new k ≡ f k)
hold-last f knots new a x h pushed =
    let q : Knot = record { place = a; column = x } in (
      subst AreRising (sym pushed) (rising-more knots q h.rising h.before),
      λ k within. ap (λ ks. knot_column 0 ks k) pushed ∙ column-more 0 knots q k within ∙ h.held k within,
    )

-- the same columns by another rule
pub hold-alike : (f g : ℕ → ℕ) (knots : List Knot) (a x : ℕ) → ((k : ℕ) → k ≤ a → f k ≡ g k) → HoldColumns f knots a x → HoldColumns g knots a x
hold-alike f g knots a x same h = record {
  rising = h.rising;
  before = h.before;
  next = h.next ∙ same a (omega arith);
  held = λ k within. h.held k within ∙ same k within;
}

-- ---- marks

-- the place that is reached begins at the next column
pub hold-step : (f : ℕ → ℕ) (knots : List Knot) (a x : ℕ) → HoldColumns f knots a x → (k : ℕ) → a ≤ k → k ≤ a → f k ≡ x
hold-step f knots a x h = λ k low high. let z : k ≡ a = omega (arith, low, high) in ap f z ∙ sym h.next

-- a mark before a part is held
pub hold-mark : {E : Type 0} (f : ℕ → ℕ) (r : Result ℕ E) (knots new : List Knot) (a x : ℕ) (set : CharSet) (p : Part) (n w : ℕ) → w ≡ mark_columns set
    → (nat_lt 0 p.from && nat_le p.from n) ≡ true → (0 < p.from → a < p.from) → ((k : ℕ) → a ≤ k → k < p.from → k ≤ n → f k ≡ x)
    → f (min p.from n) ≡ x + mark_before set p n
    → (a ≤ p.from - 1 → ((k : ℕ) → a ≤ k → k ≤ p.from - 1 → f k ≡ x) → f (p.from - 1 + 1) ≡ x + w → IfOk r (λ next. HoldColumns f new (p.from - 1 + 1) next))
    → IfOk r (λ next. HoldColumns f new (min p.from n) next)
unfolding mark_before
hold-mark f r knots new a x set p n w wide on behind flat step held =
    let some = ltb-true 0 p.from (and_parts (nat_lt 0 p.from) (nat_le p.from n) on).0 in
    let within = leb-true p.from n (and_parts (nat_lt 0 p.from) (nat_le p.from n) on).1 in
    let low = behind some in
    let z : min p.from n ≡ p.from - 1 + 1 = omega (arith, some, within) in
    let mark : mark_before set p n ≡ mark_columns set = cond-true (nat_lt 0 p.from && nat_le p.from n) (mark_columns set) 0 on in
    let more : f (p.from - 1 + 1) ≡ x + w = ap f (sym z) ∙ step ∙ ap (λ m. x + m) (mark ∙ sym wide) in
    subst (λ m. IfOk r (λ next. HoldColumns f new m next)) (sym z)
    (held (omega (arith, low)) (λ k from to. flat k from (omega (arith, to, some)) (omega (arith, to, some, within))) more)

-- where there is none nothing is
pub hold-unmarked : (f : ℕ → ℕ) (knots : List Knot) (a x : ℕ) (set : CharSet) (p : Part) (n : ℕ) → HoldColumns f knots a x → a ≤ min p.from n
    → (nat_lt 0 p.from && nat_le p.from n) ≡ false → ((k : ℕ) → a ≤ k → k < p.from → k ≤ n → f k ≡ x) → f (min p.from n) ≡ x + mark_before set p n
    → HoldColumns f knots (min p.from n) x
unfolding mark_before
hold-unmarked f knots a x set p n h up off flat step =
    let mark : mark_before set p n ≡ 0 = cond-false (nat_lt 0 p.from && nat_le p.from n) (mark_columns set) 0 off in
    hold-flat f knots a (min p.from n) x h up (λ k from to. elim (cases_lt k (min p.from n)) [
      | inl before ↦ flat k from (omega (arith, before)) (omega (arith, before))
      | inr last ↦ let z : k ≡ min p.from n = omega (arith, last, to) in let here = ap f z in omega (arith, here, step, mark)
    ])

-- a mark behind the last part is held
pub hold-behind : {E : Type 0} (f : ℕ → ℕ) (r : Result ℕ E) (knots new : List Knot) (x : ℕ) (set : CharSet) (parts : List Part) (p : Part) (n w : ℕ)
    → w ≡ mark_columns set → slice_get parts (length parts - 1) ≡ Some p → p.to < n → HoldColumns f knots (min (end_of 0 parts) n) x
    → ((k : ℕ) → end_of 0 parts < k → k ≤ n → f k ≡ x + mark_behind set parts n)
    → (HoldColumns f knots p.to x → p.to ≤ p.to → ((k : ℕ) → p.to ≤ k → k ≤ p.to → f k ≡ x) → f (p.to + 1) ≡ x + w
    → IfOk r (λ next. HoldColumns f new (p.to + 1) next)) → IfOk r (λ next. HoldColumns f new n next)
hold-behind f r knots new x set parts p n w wide last within h flat held =
    let end = (last-ends parts p last).1 in
    let z : min (end_of 0 parts) n ≡ p.to = omega (arith, end, within) in
    let here : HoldColumns f knots p.to x = subst (λ m. HoldColumns f knots m x) z h in
    let mark = behind-before set parts p n last within in
    let more : (k : ℕ) → p.to < k → k ≤ n → f k ≡ x + w = λ k low high.
    flat k (omega (arith, low, end)) high ∙ ap (λ m. x + m) (sym mark ∙ sym wide) in
    IfOk-weaker r _ _ (λ next there.
    hold-flat f new (p.to + 1) n next there (omega (arith, within))
    (λ k low high. more k (omega (arith, low)) high ∙ sym (there.next ∙ more (p.to + 1) (omega arith) (omega (arith, within)))))
    (held here (omega arith) (hold-step f knots p.to x here) (more (p.to + 1) (omega arith) (omega (arith, within))))

-- where there is none nothing is
pub hold-end : (f : ℕ → ℕ) (knots : List Knot) (x : ℕ) (set : CharSet) (parts : List Part) (n : ℕ) → HoldColumns f knots (min (end_of 0 parts) n) x
    → ((k : ℕ) → end_of 0 parts < k → k ≤ n → f k ≡ x + mark_behind set parts n) → 0 ≡ mark_behind set parts n → HoldColumns f knots n x
hold-end f knots x set parts n h flat none =
    let e = end_of 0 parts in
    hold-flat f knots (min e n) n x h (omega arith) (λ k low high. elim (cases_lt e k) [
      | inl past ↦ let here = flat k past high in omega (arith, here, none)
      | inr before ↦ hold-step f knots (min e n) x h k low (omega (arith, before, high))
    ])

-- ---- they are looked up

-- a later place is held later
rising-all : (knots : List Knot) (p i : ℕ) (d : Knot) → AllByRecursion (λ (r : Knot). p < r.place) knots → i < length knots → p < (get_or knots i d).place
rising-all [] p i d each below = absurd (omega (arith, below))
rising-all (q ∷ knots) p zero d each below = each.0
rising-all (q ∷ knots) p (suc i) d each below = rising-all knots p i d each.1 (omega (arith, below))

pub rising-order : (knots : List Knot) → AreRising knots → IsNonDecreasingBy (λ (q : Knot). q.place) knots
unfolding AreRising
rising-order [] rising i j d up below = absurd (omega (arith, below))
rising-order (q ∷ knots) rising zero zero d up below = omega arith
rising-order (q ∷ knots) rising zero (suc j) d up below = let more = rising-all knots q.place j d rising.0 (omega (arith, below)) in omega (arith, more)
rising-order (q ∷ knots) rising (suc i) zero d up below = absurd (omega (arith, up))
rising-order (q ∷ knots) rising (suc i) (suc j) d up below = rising-order knots rising.1 i j d (omega (arith, up)) (omega (arith, below))

-- the first that stands at a place or behind it
pub first-found : (x : ℕ) (knots : List Knot) (n k : ℕ) (q : Knot) → ((j : ℕ) (d : Knot) → j < n → j < length knots → (get_or knots j d).place < k)
    → ((j : ℕ) (d : Knot) → n ≤ j → j < length knots → k ≤ (get_or knots j d).place) → slice_get knots n ≡ Some q → q.column ≡ knot_column x knots k
unfolding knot_column
first-found x [] n k q before from found = absurd (let within = slice_get_within [] n q found in omega (arith, within))
first-found x (r ∷ knots) zero k q before from found =
    sym (ap (λ (p : Knot). p.column) (get_or_from_slice_get (r ∷ knots) 0 q q found))
    ∙ sym (cond-true (nat_le k r.place) r.column (knot_column x knots k) (le-leb k r.place (from 0 r (omega arith) (omega arith))))
first-found x (r ∷ knots) (suc n) k q before from found =
    first-found x knots n k q (λ j d low within. before (suc j) d (omega (arith, low)) (omega (arith, within)))
    (λ j d low within. from (suc j) d (omega (arith, low)) (omega (arith, within))) found
    ∙ sym (cond-false (nat_le k r.place) r.column (knot_column x knots k) (lt-leb k r.place (before 0 r (omega arith) (omega arith))))

-- or none
pub none-found : (x : ℕ) (knots : List Knot) (n k : ℕ) → ((j : ℕ) (d : Knot) → j < n → j < length knots → (get_or knots j d).place < k)
    → length knots ≤ n → x ≡ knot_column x knots k
unfolding knot_column
none-found x [] n k before past = refl
none-found x (r ∷ knots) zero k before past = absurd (omega (arith, past))
none-found x (r ∷ knots) (suc n) k before past =
    none-found x knots n k (λ j d low within. before (suc j) d (omega (arith, low)) (omega (arith, within))) (omega (arith, past))
    ∙ sym (cond-false (nat_le k r.place) r.column (knot_column x knots k) (lt-leb k r.place (before 0 r (omega arith) (omega arith))))

-- the columns of a line, read by place
pub held-read : (columns : List ℕ) (knots : List Knot) (n k m : ℕ) → m ≡ length knots → (m == 0) ≡ false → k < n
    → knot_column 0 knots k ≡ column_in (held_columns columns knots n) k
unfolding held_columns column_in
held-read columns [] n k m size some below = absurd (true≢false (sym (ap (λ j. j == 0) size) ∙ some))
held-read columns (q ∷ knots) n k m size some below =
    let z : 0 + k ≡ k = omega arith in
    sym (unwrap_or-slice_get (map (knot_column 0 (q ∷ knots)) (upto n)) k k ∙ get_or-map-range_with_len (knot_column 0 (q ∷ knots)) 0 n k k k below z)

pub held-past : (columns : List ℕ) (knots : List Knot) (n k m : ℕ) → m ≡ length knots → (m == 0) ≡ false → n ≤ k
    → k ≡ column_in (held_columns columns knots n) k
unfolding held_columns column_in
held-past columns [] n k m size some past = absurd (true≢false (sym (ap (λ j. j == 0) size) ∙ some))
held-past columns (q ∷ knots) n k m size some past =
    let long : length (map (knot_column 0 (q ∷ knots)) (upto n)) ≡ n = length-map-range_with_len (knot_column 0 (q ∷ knots)) 0 n in
    sym (ap (λ o. unwrap_or o k) (slice_get_past (map (knot_column 0 (q ∷ knots)) (upto n)) k (omega (arith, long, past))))
