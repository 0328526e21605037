-- Verticals by falling place: what is seen at a place, and what an edit of the list changes there.
use Rattle.std.proofs.Common.{◌≡◌, ℕ, zero, suc, ◌+◌, ◌-◌, ◌<◌, ◌≤◌, ◌==◌, false, cond, inl, inr, List, [], ◌∷◌, ◌++◌, refl, sym, ap, ◌∙◌}
use Rattle.std.proofs.Common.{filter, length, get_or, take, drop, arith, Some, None, subst, leb, is_some}
use Rattle.std.proofs.Math.ListN.{set}
use Rattle.std.proofs.Math.Seq.{drop-cons}
use Rattle.std.specs.List.{AllByRecursion, insert, last_or, remove}
use Rattle.std.specs.List.Sorted.{IsPartitionedBy, IsPartitionPoint}
use Rattle.std.specs.Option.{IsSome}
use Rattle.std.proofs.lemmas.Bool.{cases_Bool, cases_order, eqb-true, ne_eqb, eq-eqb, false≢true, leb-true, le-leb}
use Rattle.std.proofs.lemmas.List.{get_or_default, take-append-drop, take-set, drop-set}
use Rattle.std.proofs.lemmas.List.Elements.{filter-append}
use Rattle.ariadne_picture.proofs.Lists.ListFacts.{all-append, all-weaker, filter-none}
use Rattle.ariadne_layout.specs.declared.verticals.Vertical.{Vertical}
use Rattle.ariadne_layout.specs.Falling.{AreFalling}
use Rattle.ariadne_layout.specs.Tables.{seen_vertical}

-- ---- lists in parts

-- what holds of each element in front of n holds of the first n
all-take : {X : Type 0} (P : X → Type 0) (n : ℕ) (xs : List X) → ((k : ℕ) (d : X) → k < n → k < length xs → P (get_or xs k d))
    → AllByRecursion P (take n xs)
all-take P zero xs h = tt
all-take P (suc n) [] h = tt
all-take P (suc n) (x ∷ xs) h = (h 0 x (omega arith) (omega arith), all-take P n xs (λ k d p q. h (suc k) d (omega arith) (omega arith)))

-- what holds of each element from n on holds of the others
all-drop : {X : Type 0} (P : X → Type 0) (n : ℕ) (xs : List X) → ((k : ℕ) (d : X) → n ≤ k → k < length xs → P (get_or xs k d))
    → AllByRecursion P (drop n xs)
all-drop P zero [] h = tt
all-drop P (suc n) [] h = tt
all-drop P zero (x ∷ xs) h = (h 0 x (omega arith) (omega arith), all-drop P zero xs (λ k d p q. h (suc k) d (omega arith) (omega arith)))
all-drop P (suc n) (x ∷ xs) h = all-drop P n xs (λ k d p q. h (suc k) d (omega arith) (omega arith))

-- what holds of all holds of an element among them
all-there : {X : Type 0} (P : X → Type 0) (a : List X) (x : X) (b : List X) → AllByRecursion P (a ++ x ∷ b) → P x
all-there P [] x b h = h.0
all-there P (y ∷ a) x b h = all-there P a x b h.1

-- and of the others
all-without : {X : Type 0} (P : X → Type 0) (a : List X) (x : X) (b : List X) → AllByRecursion P (a ++ x ∷ b) → AllByRecursion P (a ++ b)
all-without P [] x b h = h.1
all-without P (y ∷ a) x b h = (h.0, all-without P a x b h.1)

-- it holds of one among them too, where it holds of that one
all-with : {X : Type 0} (P : X → Type 0) (a : List X) (x : X) (b : List X) → P x → AllByRecursion P (a ++ b) → AllByRecursion P (a ++ x ∷ b)
all-with P [] x b p h = (p, h)
all-with P (y ∷ a) x b p h = (h.0, all-with P a x b p h.1)

-- what holds of all holds at each index
all-index : {X : Type 0} (P : X → Type 0) (xs : List X) (k : ℕ) (d : X) → k < length xs → AllByRecursion P xs → P (get_or xs k d)
all-index P [] k d p h = absurd (omega arith)
all-index P (x ∷ xs) zero d p h = h.0
all-index P (x ∷ xs) (suc k) d p h = all-index P xs k d (omega arith) h.1

-- ---- a vertical among others

-- all stand behind place p
abbrev AllBehind : ℕ → List Vertical → Type 0
AllBehind p verticals = AllByRecursion (λ v. p < v.place) verticals

-- all stand in front of place p
abbrev AllInFront : ℕ → List Vertical → Type 0
AllInFront p verticals = AllByRecursion (λ v. v.place < p) verticals

-- those before it stand behind it
falling-before : (a : List Vertical) (v : Vertical) (b : List Vertical) → AreFalling (a ++ v ∷ b) → AllBehind v.place a
falling-before [] v b f = tt
falling-before (w ∷ a) v b f = (all-there (λ u. u.place < w.place) a v b f.0, falling-before a v b f.1)

-- those after it stand in front of it
falling-after : (a : List Vertical) (v : Vertical) (b : List Vertical) → AreFalling (a ++ v ∷ b) → AllInFront v.place b
falling-after [] v b f = f.0
falling-after (w ∷ a) v b f = falling-after a v b f.1

-- the others fall without it
falling-without : (a : List Vertical) (v : Vertical) (b : List Vertical) → AreFalling (a ++ v ∷ b) → AreFalling (a ++ b)
falling-without [] v b f = f.1
falling-without (w ∷ a) v b f = (all-without (λ u. u.place < w.place) a v b f.0, falling-without a v b f.1)

-- and with one that stands between those before it and those after it
falling-with : (a : List Vertical) (v : Vertical) (b : List Vertical) → AreFalling (a ++ b) → AllBehind v.place a → AllInFront v.place b
    → AreFalling (a ++ v ∷ b)
falling-with [] v b f h g = (g, f)
falling-with (w ∷ a) v b f h g = (all-with (λ u. u.place < w.place) a v b h.0 f.0, falling-with a v b f.1 h.1 g)

-- ---- what is seen

-- where none stands at a place, none is seen there
seen-none : (k : ℕ) (verticals : List Vertical) → AllByRecursion (λ v. (v.place == k) ≡ false) verticals → seen_vertical verticals k ≡ None
unfolding seen_vertical
seen-none k verticals h = ap (last_or None) (filter-none (λ v. v.place == k) verticals h)

-- none of those behind a place stands there
not-behind : (k : ℕ) (a : List Vertical) → AllBehind k a → AllByRecursion (λ v. (v.place == k) ≡ false) a
not-behind k a = all-weaker (λ (v : Vertical). k < v.place) (λ v. (v.place == k) ≡ false) a (λ v h. ne_eqb v.place k (omega arith))

-- none of those in front of it does
not-in-front : (k : ℕ) (b : List Vertical) → AllInFront k b → AllByRecursion (λ v. (v.place == k) ≡ false) b
not-in-front k b = all-weaker (λ (v : Vertical). v.place < k) (λ v. (v.place == k) ≡ false) b (λ v h. ne_eqb v.place k (omega arith))

-- without a vertical none is seen at its place
seen-without : (a : List Vertical) (v : Vertical) (b : List Vertical) → AreFalling (a ++ v ∷ b) → seen_vertical (a ++ b) v.place ≡ None
seen-without a v b f =
    seen-none v.place (a ++ b)
    (all-append (λ w. (w.place == v.place) ≡ false) a b (not-behind v.place a (falling-before a v b f)) (not-in-front v.place b (falling-after a v b f)))

-- with it, it is
seen-there : (a : List Vertical) (v : Vertical) (b : List Vertical) → AreFalling (a ++ v ∷ b) → seen_vertical (a ++ v ∷ b) v.place ≡ Some v
unfolding seen_vertical
seen-there a v b f =
    let at = λ (w : Vertical). w.place == v.place in
    let front : filter at a ≡ [] = filter-none at a (not-behind v.place a (falling-before a v b f)) in
    let behind : filter at b ≡ [] = filter-none at b (not-in-front v.place b (falling-after a v b f)) in
    ap (last_or None) (filter-append at a (v ∷ b)) ∙ ap (λ vs. last_or None (vs ++ filter at (v ∷ b))) front
    ∙ ap (λ t. last_or None (cond t (v ∷ filter at b) (filter at b))) (eq-eqb v.place v.place refl)
    ∙ ap (λ vs. last_or None (v ∷ vs)) behind

-- what is seen elsewhere is the same with it and without it
seen-elsewhere : (a : List Vertical) (v : Vertical) (b : List Vertical) (k : ℕ) → (v.place == k) ≡ false
    → seen_vertical (a ++ v ∷ b) k ≡ seen_vertical (a ++ b) k
unfolding seen_vertical
seen-elsewhere a v b k h =
    let at = λ (w : Vertical). w.place == k in
    ap (last_or None) (filter-append at a (v ∷ b)) ∙ ap (λ t. last_or None (filter at a ++ cond t (v ∷ filter at b) (filter at b))) h
    ∙ sym (ap (last_or None) (filter-append at a b))

-- so with it there is one thing more to be seen
seen-with : (a : List Vertical) (v : Vertical) (b : List Vertical) (k : ℕ) → AreFalling (a ++ v ∷ b)
    → seen_vertical (a ++ v ∷ b) k ≡ cond (v.place == k) (Some v) (seen_vertical (a ++ b) k)
seen-with a v b k f = elim (cases_Bool (v.place == k)) [
  | inl t ↦ ap (seen_vertical (a ++ v ∷ b)) (sym (eqb-true v.place k t)) ∙ seen-there a v b f
      ∙ sym (ap (λ c. cond c (Some v) (seen_vertical (a ++ b) k)) t)
  | inr e ↦ seen-elsewhere a v b k e ∙ sym (ap (λ c. cond c (Some v) (seen_vertical (a ++ b) k)) e)
]

-- and without it one less
seen-less : (a : List Vertical) (v : Vertical) (b : List Vertical) (k : ℕ) → AreFalling (a ++ v ∷ b)
    → seen_vertical (a ++ b) k ≡ cond (v.place == k) None (seen_vertical (a ++ v ∷ b) k)
seen-less a v b k f = elim (cases_Bool (v.place == k)) [
  | inl t ↦ ap (seen_vertical (a ++ b)) (sym (eqb-true v.place k t)) ∙ seen-without a v b f
      ∙ sym (ap (λ c. cond c None (seen_vertical (a ++ v ∷ b) k)) t)
  | inr e ↦ sym (seen-elsewhere a v b k e) ∙ sym (ap (λ c. cond c None (seen_vertical (a ++ v ∷ b) k)) e)
]

-- one in place of another at the same place is all that changes
seen-changed : (a : List Vertical) (v w : Vertical) (b : List Vertical) (k : ℕ) → v.place ≡ w.place → AreFalling (a ++ v ∷ b)
    → AreFalling (a ++ w ∷ b) → seen_vertical (a ++ w ∷ b) k ≡ cond (v.place == k) (Some w) (seen_vertical (a ++ v ∷ b) k)
seen-changed a v w b k e f g = elim (cases_Bool (v.place == k)) [
  | inl t ↦ seen-with a w b k g ∙ rw (← e, t)
  | inr n ↦ seen-with a w b k g ∙ rw (← e, n) (sym (seen-elsewhere a v b k n))
]

-- ---- by index

-- a later one stands at a lower place
falling-index : (xs : List Vertical) (i j : ℕ) (d : Vertical) → i < j → j < length xs → AreFalling xs → (get_or xs j d).place < (get_or xs i d).place
falling-index [] i j d h p f = absurd (omega arith)
falling-index (x ∷ xs) i zero d h p f = absurd (omega arith)
falling-index (x ∷ xs) zero (suc j) d h p f = all-index (λ w. w.place < x.place) xs j d (omega arith) f.0
falling-index (x ∷ xs) (suc i) (suc j) d h p f = falling-index xs i j d (omega arith) (omega arith) f.1

-- the list is what stands before an index, what stands there, and what stands after it
around : (xs : List Vertical) (i : ℕ) (d : Vertical) → i < length xs → xs ≡ take i xs ++ get_or xs i d ∷ drop (suc i) xs
around xs i d h = sym (take-append-drop i xs) ∙ ap (λ ys. take i xs ++ ys) (drop-cons xs i d h)

-- after a write at an index, what is written stands there
around-set : (xs : List Vertical) (i : ℕ) (v : Vertical) → i < length xs → set xs i v ≡ take i xs ++ v ∷ drop (suc i) xs
around-set xs i v h =
    let e : i + 1 ≡ suc i = omega arith in
    sym (take-append-drop i (set xs i v)) ∙ ap (λ ys. ys ++ drop i (set xs i v)) (take-set xs i v) ∙ ap (λ ys. take i xs ++ ys) (drop-set xs i v h)
    ∙ ap (λ m. take i xs ++ v ∷ drop m xs) e

-- so they fall as these parts
falling-around : (xs : List Vertical) (i : ℕ) (d : Vertical) → i < length xs → AreFalling xs → AreFalling (take i xs ++ get_or xs i d ∷ drop (suc i) xs)
falling-around xs i d h f = subst AreFalling (around xs i d h) f

-- the first n stand at place p or behind it, and the others in front of it
abbrev pub SplitAt : ℕ → List Vertical → ℕ → Type 0
SplitAt p xs n = IsPartitionPoint (λ v. p ≤ v.place) (λ v. v.place < p) xs n

-- where one stands at p or behind it, so do those before it
pub falling-partitioned : (p : ℕ) (xs : List Vertical) → AreFalling xs → IsPartitionedBy (λ v. leb p v.place) xs
falling-partitioned p xs f i j d le below t = elim (cases_order i j) [
  | inl e ↦ rw (e) t
  | inr h ↦ elim h [
    | inl l ↦
        let low = falling-index xs i j d l below f in
        let there = leb-true p (get_or xs j d).place t in
        le-leb p (get_or xs i d).place (omega arith)
    | inr l ↦ absurd (omega arith)
  ]
]

-- ---- a vertical put between others

-- they fall with it, where none stood at its place
pub insert-falling : (xs : List Vertical) (n : ℕ) (v : Vertical) → AreFalling xs → n ≤ length xs → SplitAt v.place xs n
    → ((d : Vertical) → 0 < n → (get_or xs (n - 1) d).place ≡ v.place → ⊥) → AreFalling (insert xs n v)
insert-falling xs n v f within split other =
    falling-with (take n xs) v (drop n xs) (subst AreFalling (sym (take-append-drop n xs)) f)
    (all-take (λ w. v.place < w.place) n xs behind) (all-drop (λ w. w.place < v.place) n xs split.1)
  where
    behind : (k : ℕ) (d : Vertical) → k < n → k < length xs → v.place < (get_or xs k d).place
    behind k d p q =
        let last : ℕ = n - 1 in
        let e = split.0 last d (omega arith) (omega arith) in
        let o = other d (omega arith) in
        elim (cases_order k last) [
          | inl same ↦ rw (same) (omega arith)
          | inr h ↦ elim h [
            | inl l ↦ let low = falling-index xs k last d l (omega arith) f in omega arith
            | inr l ↦ absurd (omega arith)
          ]
        ]

-- it is seen at its place
pub insert-seen : (xs : List Vertical) (n : ℕ) (v : Vertical) (k : ℕ) → AreFalling (insert xs n v)
    → seen_vertical (insert xs n v) k ≡ cond (v.place == k) (Some v) (seen_vertical xs k)
insert-seen xs n v k f =
    seen-with (take n xs) v (drop n xs) k f ∙ ap (λ ys. cond (v.place == k) (Some v) (seen_vertical ys k)) (take-append-drop n xs)

-- ---- a vertical in place of another

-- they fall with it, where it stands no further behind than the other and in front of none after it
pub set-falling : (xs : List Vertical) (i : ℕ) (v : Vertical) → AreFalling xs → i < length xs → v.place ≤ (get_or xs i v).place
    → ((k : ℕ) (d : Vertical) → suc i ≤ k → k < length xs → (get_or xs k d).place < v.place) → AreFalling (set xs i v)
set-falling xs i v f within low after =
    let g = falling-around xs i v within f in
    let a : List Vertical = take i xs in
    let b : List Vertical = drop (suc i) xs in
    let h : Vertical = get_or xs i v in
    subst AreFalling (sym (around-set xs i v within))
    (falling-with a v b (falling-without a h b g)
    (all-weaker (λ (w : Vertical). h.place < w.place) (λ w. v.place < w.place) a (λ w p. omega arith) (falling-before a h b g))
    (all-drop (λ w. w.place < v.place) (suc i) xs after))

-- it is seen at their place
pub set-seen : (xs : List Vertical) (i : ℕ) (v : Vertical) (k : ℕ) → AreFalling xs → AreFalling (set xs i v) → i < length xs
    → (get_or xs i v).place ≡ v.place → seen_vertical (set xs i v) k ≡ cond (v.place == k) (Some v) (seen_vertical xs k)
set-seen xs i v k f g within e =
    let a : List Vertical = take i xs in
    let b : List Vertical = drop (suc i) xs in
    let h : Vertical = get_or xs i v in
    ap (λ ys. seen_vertical ys k) (around-set xs i v within)
    ∙ seen-changed a h v b k e (falling-around xs i v within f) (subst AreFalling (around-set xs i v within) g)
    ∙ ap (λ p. cond (p == k) (Some v) (seen_vertical (a ++ h ∷ b) k)) e
    ∙ sym (ap (λ ys. cond (v.place == k) (Some v) (seen_vertical ys k)) (around xs i v within))

-- ---- a vertical taken out

-- the others fall
pub remove-falling : (xs : List Vertical) (i : ℕ) (d : Vertical) → AreFalling xs → i < length xs → AreFalling (remove xs i)
remove-falling xs i d f within = falling-without (take i xs) (get_or xs i d) (drop (suc i) xs) (falling-around xs i d within f)

-- none is seen at its place
pub remove-seen : (xs : List Vertical) (i : ℕ) (d : Vertical) (k : ℕ) → AreFalling xs → i < length xs
    → seen_vertical (remove xs i) k ≡ cond ((get_or xs i d).place == k) None (seen_vertical xs k)
remove-seen xs i d k f within =
    seen-less (take i xs) (get_or xs i d) (drop (suc i) xs) k (falling-around xs i d within f)
    ∙ sym (ap (λ ys. cond ((get_or xs i d).place == k) None (seen_vertical ys k)) (around xs i d within))

-- ---- what is seen

-- each is seen at its place
pub index-seen : (xs : List Vertical) (i : ℕ) (d : Vertical) → AreFalling xs → i < length xs
    → seen_vertical xs (get_or xs i d).place ≡ Some (get_or xs i d)
index-seen xs i d f within =
    let h : Vertical = get_or xs i d in
    ap (λ ys. seen_vertical ys h.place) (around xs i d within)
    ∙ seen-there (take i xs) h (drop (suc i) xs) (falling-around xs i d within f)

-- none is seen from p on, before the first n
pub none-before : (xs : List Vertical) (p n k : ℕ) → SplitAt p xs n → p ≤ k → ((j : ℕ) (d : Vertical) → j < n → k < (get_or xs j d).place)
    → seen_vertical xs k ≡ None
none-before xs p n k split from before =
    seen-none k xs
    (subst (AllByRecursion (λ v. (v.place == k) ≡ false)) (take-append-drop n xs)
    (all-append (λ v. (v.place == k) ≡ false) (take n xs) (drop n xs)
    (not-behind k (take n xs) (all-take (λ w. k < w.place) n xs (λ j d l q. before j d l)))
    (not-in-front k (drop n xs)
    (all-drop (λ w. w.place < k) n xs (λ j d l q. let low = split.1 j d l q in omega arith)))))

-- none is seen from p on, before the last of the first n
pub none-before_last : (xs : List Vertical) (p n i k : ℕ) (d : Vertical) → AreFalling xs → SplitAt p xs n → i + 1 ≡ n → n ≤ length xs → p ≤ k
    → k < (get_or xs i d).place → seen_vertical xs k ≡ None
none-before_last xs p n i k d f split is within from low = none-before xs p n k split from before
  where
    before : (j : ℕ) (e : Vertical) → j < n → k < (get_or xs j e).place
    before j e l =
        let same : get_or xs i e ≡ get_or xs i d = get_or_default xs i e d (omega arith) in
        elim (cases_order j i) [
          | inl here ↦ rw (here, same) low
          | inr h ↦ elim h [
            | inl m ↦ let less = falling-index xs j i e m (omega arith) f in let there = ap (λ (v : Vertical). v.place) same in omega arith
            | inr m ↦ absurd (omega arith)
          ]
        ]

-- where none is seen, it is not so that one is
pub not-seen : (xs : List Vertical) (p : ℕ) → seen_vertical xs p ≡ None → IsSome (seen_vertical xs p) → ⊥
not-seen xs p e seen = false≢true (sym (ap is_some e) ∙ seen)

-- where one is seen at p, it is the last of the first n
pub last-seen : (xs : List Vertical) (p n i : ℕ) (d : Vertical) → AreFalling xs → SplitAt p xs n → i + 1 ≡ n → n ≤ length xs
    → IsSome (seen_vertical xs p) → (get_or xs i d).place ≡ p
last-seen xs p n i d f split is within seen =
    let low = split.0 i d (omega arith) (omega arith) in
    elim (cases_order p (get_or xs i d).place) [
      | inl e ↦ sym e
      | inr h ↦ elim h [
        | inl l ↦ absurd (not-seen xs p (none-before_last xs p n i p d f split is within (omega arith) l) seen)
        | inr l ↦ absurd (omega arith)
      ]
    ]
