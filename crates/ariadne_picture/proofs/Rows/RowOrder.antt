-- The rows of a group stand in the order of their names: by part of the group, then by line or number, then by step.
use Rattle.std.proofs.Common.{◌≡◌, ℕ, zero, suc, ◌+◌, ◌-◌, ◌*◌, ◌<◌, ◌≤◌, Bool, true, false, ◌&&◌, List, [], ◌∷◌, ◌++◌, map, length, refl, sym}
use Rattle.std.proofs.Common.{◌∙◌, arith, ◌==◌, nat_lt, ◌⊎◌, inl, inr, if◌then◌else◌, Decides, AllPairs}
use Rattle.std.specs.declared.cmp.Ordering.{Ordering}
use Rattle.std.specs.declared.cmp.Ordering.TheVariants.{Equal}
use Rattle.std.specs.Ordering.{is_lt, nat_cmp, ordering_then}
use Rattle.std.specs.List.{AllByRecursion, enumerate_from, range_with_len}
use Rattle.std.specs.Str.Lines.{lines}
use Rattle.std.proofs.lemmas.Bool.{cases_Bool, cond_both, eq-eqb, eqb-true, false_from_ne_true, false≢true, ltb-false, ltb-true}
use Rattle.ariadne_base.specs.Locations.{upto}
use Rattle.ariadne_picture.specs.declared.label_info.LineLabel.{LineLabel}
use Rattle.ariadne_picture.specs.Lists.{joined}
use Rattle.ariadne_picture.specs.Ranks.{Sheet, is_hidden_line, line_labels, first_line, last_line, group_lines}
use Rattle.ariadne_picture.specs.Rows.{row_key, Row, group_header, spacer, source, alternate, arrow, gap, bare, blank, piece, tail, Aside, help, note}
use Rattle.ariadne_picture.specs.Rows.{aside_part, before, label_rows, is_lone, lone_rows, is_inside, line_rows, aside_rows, asides, rows}
use Rattle.ariadne_picture.proofs.Rows.RowPlacing.{row_part, row_line, row_step}
use Rattle.ariadne_picture.proofs.Lists.ListFacts.{all-append, all-weaker, Increasing, increasing-append, increasing-pairs}

-- ---- the order

-- an earlier part; or the same part and an earlier line; or the same line and an earlier step
abbrev pub Precedes : Row → Row → Type 0
Precedes a b =
    (row_part a < row_part b) ⊎ ((row_part a ≡ row_part b) × ((row_line a < row_line b) ⊎ ((row_line a ≡ row_line b) × (row_step a < row_step b))))

-- a key has the three parts
key-parts : (x : Row) → row_key x ≡ row_part x ∷ row_line x ∷ row_step x ∷ []
unfolding row_key
key-parts group_header = refl
key-parts spacer = refl
key-parts (source l) = refl
key-parts (alternate l r) = refl
key-parts (arrow l r) = refl
key-parts (gap l) = refl
key-parts (bare l) = refl
key-parts (blank a k) = refl
key-parts (piece a k p) = refl
key-parts tail = refl

-- the lesser first number, or the same one and then the lesser rest
less-then : (m n : ℕ) (o : Ordering) (P : Type 0) → Decides (is_lt o) P
    → Decides (is_lt (ordering_then (nat_cmp m n) o)) ((m < n) ⊎ ((m ≡ n) × P))
less-then m n o P d = elim (cases_Bool (nat_lt m n)) [
  | inl on ↦ rw on ((λ _. inl (ltb-true m n on)), λ _. refl)
  | inr off ↦
      let high = ltb-false m n off in
      elim (cases_Bool (m == n)) [
        | inl same ↦
            let equal = eqb-true m n same in
            rw (off, same) ((λ h. inr (equal, d.0 h)), λ h. elim h [ inl less ↦ absurd (omega arith) | inr tied ↦ d.1 tied.1 ])
        | inr other ↦
            rw (off, other) (
              (λ h. absurd (false≢true h)),
              λ h. elim h [
                | inl less ↦ absurd (omega arith)
                | inr tied ↦ absurd (false≢true (sym other ∙ eq-eqb m n tied.0))
              ],
            )
      ]
]

-- the test tells this order
pub before-decides : (a b : Row) → Decides (before a b) (Precedes a b)
unfolding before
before-decides a b =
    let steps = less-then (row_step a) (row_step b) Equal ⊥ ((λ h. false≢true h), λ h. absurd h) in
    let last : Decides (is_lt (ordering_then (nat_cmp (row_step a) (row_step b)) Equal)) (row_step a < row_step b) =
    ((λ h. elim (steps.0 h) [ inl less ↦ less | inr tied ↦ absurd tied.1 ]), λ h. steps.1 (inl h)) in
    rw (key-parts a, key-parts b)
    (less-then (row_part a) (row_part b) _ _ (less-then (row_line a) (row_line b) _ _ last))

-- no row stands before itself
pub precedes-not-itself : (a : Row) → Precedes a a → ⊥
precedes-not-itself a (inl h) = omega arith
precedes-not-itself a (inr h) = elim h.1 [ inl k ↦ omega arith | inr k ↦ let step = k.1 in omega arith ]

-- so the test fails there
pub before-irreflexive : (a : Row) → before a a ≡ false
before-irreflexive a = false_from_ne_true (before a a) (λ t. precedes-not-itself a ((before-decides a a).0 t))

-- a row before one that stands before a third stands before the third
pub precedes-chain : (a b c : Row) → Precedes a b → Precedes b c → Precedes a c
precedes-chain a b c (inl h) (inl k) = inl (omega arith)
precedes-chain a b c (inl h) (inr k) = inl (let e = k.0 in omega arith)
precedes-chain a b c (inr h) (inl k) = inl (let e = h.0 in omega arith)
precedes-chain a b c (inr h) (inr k) = inr (
  h.0 ∙ k.0,
  elim h.1 [
    | inl m ↦ elim k.1 [ inl n ↦ inl (omega arith) | inr n ↦ inl (let e = n.0 in omega arith) ]
    | inr m ↦ elim k.1 [ inl n ↦ inl (let e = m.0 in omega arith) | inr n ↦ inr (m.0 ∙ n.0, let p = m.1 in let q = n.1 in omega arith) ]
  ],
)

-- so the test passes there
pub before-chain : (a b c : Row) → before a b ≡ true → before b c ≡ true → before a c ≡ true
before-chain a b c h k = (before-decides a c).1 (precedes-chain a b c ((before-decides a b).0 h) ((before-decides b c).0 k))

-- the test passes
abbrev pub IsBefore : Row → Row → Type 0
IsBefore a b = before a b ≡ true

-- a row of an earlier part stands before
pub by-part : (a b : Row) → row_part a < row_part b → IsBefore a b
by-part a b h = (before-decides a b).1 (inl h)

-- of rows of one part that of an earlier line
pub by-line : (a b : Row) → row_part a ≡ row_part b → row_line a < row_line b → IsBefore a b
by-line a b e h = (before-decides a b).1 (inr (e, inl h))

-- of rows of one line that of an earlier step
pub by-step : (a b : Row) → row_part a ≡ row_part b → row_line a ≡ row_line b → row_step a < row_step b → IsBefore a b
by-step a b e f h = (before-decides a b).1 (inr (e, inr (f, h)))

-- ---- rows of one line

-- a row of part p and line l, from step k on
pub record FromStep (p l k : ℕ) (x : Row) : Type 0 where
  pub part : row_part x ≡ p
  pub line : row_line x ≡ l
  pub step : k ≤ row_step x

-- and up to step k
pub record UpToStep (p l k : ℕ) (x : Row) : Type 0 where
  pub part : row_part x ≡ p
  pub line : row_line x ≡ l
  pub step : row_step x ≤ k

-- a row of part p, of line l
pub record AtLine (p l : ℕ) (x : Row) : Type 0 where
  pub part : row_part x ≡ p
  pub line : row_line x ≡ l

-- and from line l on
pub record FromLine (p l : ℕ) (x : Row) : Type 0 where
  pub part : row_part x ≡ p
  pub line : l ≤ row_line x

-- rows up to a step stand before those after it
pub step-before : (p l k : ℕ) (x y : Row) → UpToStep p l k x → FromStep p l (suc k) y → IsBefore x y
step-before p l k x y a b =
    let part = a.part ∙ sym b.part in
    let line = a.line ∙ sym b.line in
    let up = a.step in
    let from = b.step in
    by-step x y part line (omega arith)

-- rows of a line stand before those of later lines
pub line-before : (p l : ℕ) (x y : Row) → AtLine p l x → FromLine p (suc l) y → IsBefore x y
line-before p l x y a b =
    let part = a.part ∙ sym b.part in
    let at = a.line in
    let from = b.line in
    by-line x y part (omega arith)

-- a row from a step on is of its line
pub at-line : (p l k : ℕ) (x : Row) → FromStep p l k x → AtLine p l x
at-line p l k x a = record { part = a.part; line = a.line }

-- a row of a line is from that line on
pub from-line : (p l : ℕ) (x : Row) → AtLine p l x → FromLine p l x
from-line p l x a = let line = a.line in record { part = a.part; line = omega arith }

-- a row from the next line on is from this line on
pub later-line : (p l : ℕ) (x : Row) → FromLine p (suc l) x → FromLine p l x
later-line p l x a = let line = a.line in record { part = a.part; line = omega arith }

-- ---- the rows of a line label

-- the alternate row, where there is one, and the arrow row
pub pair : Bool → ℕ → ℕ → List Row
pair compact l r = (if compact then [] else alternate l r ∷ []) ++ arrow l r ∷ []

-- they stand in order
pub pair-increasing : (compact : Bool) (l r : ℕ) → Increasing IsBefore (pair compact l r)
unfolding pair row_key
pair-increasing true l r = (tt, tt)
pair-increasing false l r = ((by-step (alternate l r) (arrow l r) refl refl (omega arith), tt), (tt, tt))

-- they end at the arrow row's step
pub pair-up-to : (compact : Bool) (l r : ℕ) → AllByRecursion (UpToStep 2 l (2 * r + 2)) (pair compact l r)
unfolding pair row_key
pair-up-to true l r = (record { part = refl; line = refl; step = omega arith }, tt)
pair-up-to false l r = (record { part = refl; line = refl; step = omega arith }, (record { part = refl; line = refl; step = omega arith }, tt))

-- they begin at the alternate row's step
pub pair-from : (compact : Bool) (l r k : ℕ) → k ≤ 2 * r + 1 → AllByRecursion (FromStep 2 l k) (pair compact l r)
unfolding pair row_key
pair-from true l r k h = (record { part = refl; line = refl; step = omega arith }, tt)
pair-from false l r k h = (record { part = refl; line = refl; step = omega arith }, (record { part = refl; line = refl; step = omega arith }, tt))

-- what holds of the pair and of no rows holds of a label's rows
pub label-rows-case : (P : List Row → Type 0) (compact : Bool) (l r : ℕ) (x : LineLabel) → P (pair compact l r) → P []
    → P (label_rows compact l (r, x))
unfolding label_rows pair
label-rows-case P compact l r x two none =
    cond_both x.info.has_message ((if compact then [] else alternate l r ∷ []) ++ arrow l r ∷ []) [] P (λ _. two) (λ _. none)

-- so the rows of labels from number r on begin there
pub labels-from : (compact : Bool) (l r k : ℕ) (xs : List LineLabel) → k ≤ 2 * r + 1
    → AllByRecursion (FromStep 2 l k) (joined (label_rows compact l) (enumerate_from r xs))
unfolding joined
labels-from compact l r k [] h = tt
labels-from compact l r k (x ∷ xs) h =
    all-append (FromStep 2 l k) (label_rows compact l (r, x)) (joined (label_rows compact l) (enumerate_from (r + 1) xs))
    (label-rows-case (AllByRecursion (FromStep 2 l k)) compact l r x (pair-from compact l r k h) tt)
    (labels-from compact l (r + 1) k xs (omega arith))

-- and stand in order
pub labels-increasing : (compact : Bool) (l r : ℕ) (xs : List LineLabel) → Increasing IsBefore (joined (label_rows compact l) (enumerate_from r xs))
unfolding joined
labels-increasing compact l r [] = tt
labels-increasing compact l r (x ∷ xs) =
    increasing-append IsBefore (UpToStep 2 l (2 * r + 2)) (FromStep 2 l (suc (2 * r + 2))) (label_rows compact l (r, x))
    (joined (label_rows compact l) (enumerate_from (r + 1) xs))
    (step-before 2 l (2 * r + 2))
    (label-rows-case (AllByRecursion (UpToStep 2 l (2 * r + 2))) compact l r x (pair-up-to compact l r) tt)
    (labels-from compact l (r + 1) (suc (2 * r + 2)) xs (omega arith))
    (label-rows-case (Increasing IsBefore) compact l r x (pair-increasing compact l r) tt)
    (labels-increasing compact l (r + 1) xs)

-- and end at the last step before that of the row behind all labels
pub labels-up-to : (compact : Bool) (l r : ℕ) (xs : List LineLabel)
    → AllByRecursion (UpToStep 2 l (2 * (r + length xs))) (joined (label_rows compact l) (enumerate_from r xs))
unfolding joined
labels-up-to compact l r [] = tt
labels-up-to compact l r (x ∷ xs) =
    let e : r + 1 + length xs ≡ r + suc (length xs) = omega arith in
    all-append (UpToStep 2 l (2 * (r + suc (length xs)))) (label_rows compact l (r, x)) (joined (label_rows compact l) (enumerate_from (r + 1) xs))
    (all-weaker (UpToStep 2 l (2 * r + 2)) (UpToStep 2 l (2 * (r + suc (length xs)))) (label_rows compact l (r, x))
    (λ y h. let up = h.step in record { part = h.part; line = h.line; step = omega arith })
    (label-rows-case (AllByRecursion (UpToStep 2 l (2 * r + 2))) compact l r x (pair-up-to compact l r) tt))
    (rw (← e) (labels-up-to compact l (r + 1) xs))

-- ---- the rows of a line

-- the source row stands before them
pub source-first : (l : ℕ) (x : Row) → FromStep 2 l 1 x → IsBefore (source l) x
unfolding row_key
source-first l x h = by-step (source l) x (sym h.part) (sym h.line) h.step

-- the rows of all line labels
abbrev pub all_label_rows : Sheet → ℕ → List Row
all_label_rows s l = joined (label_rows s.switches.compact l) (enumerate_from 0 (line_labels s.labels l))

-- and the one with their underlines alone
unfoldable pub shown_rows : Sheet → ℕ → List Row
shown_rows s l = all_label_rows s l ++ lone_rows s l

-- they begin behind the source row
pub block-from : (s : Sheet) (l : ℕ) → AllByRecursion (FromStep 2 l 1) (shown_rows s l)
unfolding shown_rows lone_rows row_key
block-from s l =
    all-append (FromStep 2 l 1) (all_label_rows s l) (lone_rows s l) (labels-from s.switches.compact l 0 1 (line_labels s.labels l) (omega arith))
    (cond_both (is_lone s l) (alternate l (length (line_labels s.labels l)) ∷ []) [] (AllByRecursion (FromStep 2 l 1))
    (λ _. (record { part = refl; line = refl; step = omega arith }, tt)) (λ _. tt))

-- and stand in order
pub block-increasing : (s : Sheet) (l : ℕ) → Increasing IsBefore (shown_rows s l)
unfolding shown_rows lone_rows row_key
block-increasing s l =
    let last : ℕ = 2 * (0 + length (line_labels s.labels l)) in
    increasing-append IsBefore (UpToStep 2 l last) (FromStep 2 l (suc last)) (all_label_rows s l) (lone_rows s l)
    (step-before 2 l last) (labels-up-to s.switches.compact l 0 (line_labels s.labels l))
    (cond_both (is_lone s l) (alternate l (length (line_labels s.labels l)) ∷ []) [] (AllByRecursion (FromStep 2 l (suc last)))
    (λ _. (record { part = refl; line = refl; step = omega arith }, tt)) (λ _. tt))
    (labels-increasing s.switches.compact l 0 (line_labels s.labels l))
    (cond_both (is_lone s l) (alternate l (length (line_labels s.labels l)) ∷ []) [] (Increasing IsBefore) (λ _. (tt, tt)) (λ _. tt))

-- what holds of no rows, of each row in place of hidden lines, and of the rows of a shown line holds of a line's rows
pub line-rows-case : (P : List Row → Type 0) (s : Sheet) (l : ℕ) → P [] → P (gap l ∷ []) → P (bare l ∷ []) → P (source l ∷ shown_rows s l)
    → P (line_rows s l)
unfolding line_rows shown_rows
line-rows-case P s l none broken empty shown =
    cond_both (is_hidden_line s l)
    (if nat_lt (first_line s) l && is_hidden_line s (l - 1) then [] else if is_inside s l then gap l ∷ [] else if s.switches.compact then []
    else bare l ∷ [])
    (source l ∷ joined (label_rows s.switches.compact l) (enumerate_from 0 (line_labels s.labels l)) ++ lone_rows s l) P
    (λ _. cond_both (nat_lt (first_line s) l && is_hidden_line s (l - 1)) []
    (if is_inside s l then gap l ∷ [] else if s.switches.compact then [] else bare l ∷ []) P (λ _. none)
    (λ _. cond_both (is_inside s l) (gap l ∷ []) (if s.switches.compact then [] else bare l ∷ []) P (λ _. broken)
    (λ _. cond_both s.switches.compact [] (bare l ∷ []) P (λ _. none) (λ _. empty))))
    (λ _. shown)

-- the rows of a line stand in order
pub line-increasing : (s : Sheet) (l : ℕ) → Increasing IsBefore (line_rows s l)
unfolding shown_rows
line-increasing s l =
    line-rows-case (Increasing IsBefore) s l tt (tt, tt) (tt, tt) (
      all-weaker (FromStep 2 l 1) (IsBefore (source l)) (shown_rows s l) (source-first l) (block-from s l),
      block-increasing s l,
    )

-- they are of their line
pub line-at : (s : Sheet) (l : ℕ) → AllByRecursion (AtLine 2 l) (line_rows s l)
unfolding shown_rows row_key
line-at s l =
    line-rows-case (AllByRecursion (AtLine 2 l)) s l tt (record { part = refl; line = refl }, tt) (record { part = refl; line = refl }, tt) (
      record { part = refl; line = refl },
      all-weaker (FromStep 2 l 1) (AtLine 2 l) (shown_rows s l) (at-line 2 l 1) (block-from s l),
    )

-- the rows of lines from a on are from a on
pub lines-from : (s : Sheet) (a n : ℕ) → AllByRecursion (FromLine 2 a) (joined (line_rows s) (range_with_len a n))
unfolding joined
lines-from s a zero = tt
lines-from s a (suc n) =
    all-append (FromLine 2 a) (line_rows s a) (joined (line_rows s) (range_with_len (a + 1) n))
    (all-weaker (AtLine 2 a) (FromLine 2 a) (line_rows s a) (from-line 2 a) (line-at s a))
    (all-weaker (FromLine 2 (a + 1)) (FromLine 2 a) (joined (line_rows s) (range_with_len (a + 1) n))
    (λ x h. later-line 2 a x (let line = h.line in record { part = h.part; line = omega arith })) (lines-from s (a + 1) n))

-- and stand in order
pub lines-increasing : (s : Sheet) (a n : ℕ) → Increasing IsBefore (joined (line_rows s) (range_with_len a n))
unfolding joined
lines-increasing s a zero = tt
lines-increasing s a (suc n) =
    increasing-append IsBefore (AtLine 2 a) (FromLine 2 (a + 1)) (line_rows s a) (joined (line_rows s) (range_with_len (a + 1) n))
    (λ x y p q. line-before 2 a x y p (let line = q.line in record { part = q.part; line = omega arith }))
    (line-at s a) (lines-from s (a + 1) n) (line-increasing s a) (lines-increasing s (a + 1) n)

-- ---- helps and notes

-- the pieces from number p on begin there
pub pieces-from : (a : Aside) (k p n : ℕ) → AllByRecursion (FromStep (aside_part a) k (suc p)) (map (piece a k) (range_with_len p n))
unfolding row_key
pieces-from a k p zero = tt
pieces-from a k p (suc n) = (
  record { part = refl; line = refl; step = omega arith },
  all-weaker (FromStep (aside_part a) k (suc (p + 1))) (FromStep (aside_part a) k (suc p)) (map (piece a k) (range_with_len (p + 1) n))
      (λ x h. let step = h.step in record { part = h.part; line = h.line; step = omega arith }) (pieces-from a k (p + 1) n),
)

-- a piece stands before the later ones
pub piece-first : (a : Aside) (k p : ℕ) (x : Row) → FromStep (aside_part a) k (suc (p + 1)) x → IsBefore (piece a k p) x
unfolding row_key
piece-first a k p x h = let step = h.step in by-step (piece a k p) x (sym h.part) (sym h.line) (omega arith)

-- so the pieces stand in order
pub pieces-increasing : (a : Aside) (k p n : ℕ) → Increasing IsBefore (map (piece a k) (range_with_len p n))
pieces-increasing a k p zero = tt
pieces-increasing a k p (suc n) = (
  all-weaker (FromStep (aside_part a) k (suc (p + 1))) (IsBefore (piece a k p)) (map (piece a k) (range_with_len (p + 1) n)) (piece-first a k p)
      (pieces-from a k (p + 1) n),
  pieces-increasing a k (p + 1) n,
)

-- the blank row stands before them
pub blank-first : (a : Aside) (k : ℕ) (x : Row) → FromStep (aside_part a) k 1 x → IsBefore (blank a k) x
unfolding row_key
blank-first a k x h = by-step (blank a k) x (sym h.part) (sym h.line) h.step

-- the rows of one help or note stand in order
pub aside-increasing : (compact : Bool) (a : Aside) (k : ℕ) (t : List ℕ) → Increasing IsBefore (aside_rows compact a (k, t))
unfolding aside_rows
aside-increasing true a k t = pieces-increasing a k 0 (length (lines t))
aside-increasing false a k t = (
  all-weaker (FromStep (aside_part a) k 1) (IsBefore (blank a k)) (map (piece a k) (upto (length (lines t)))) (blank-first a k)
      (pieces-from a k 0 (length (lines t))),
  pieces-increasing a k 0 (length (lines t)),
)

-- the pieces are of its number
pub pieces-at : (a : Aside) (k n : ℕ) → AllByRecursion (AtLine (aside_part a) k) (map (piece a k) (upto n))
pieces-at a k n =
    all-weaker (FromStep (aside_part a) k 1) (AtLine (aside_part a) k) (map (piece a k) (upto n)) (at-line (aside_part a) k 1) (pieces-from a k 0 n)

-- and so are all its rows
pub aside-at : (compact : Bool) (a : Aside) (k : ℕ) (t : List ℕ) → AllByRecursion (AtLine (aside_part a) k) (aside_rows compact a (k, t))
unfolding aside_rows row_key
aside-at true a k t = pieces-at a k (length (lines t))
aside-at false a k t = (record { part = refl; line = refl }, pieces-at a k (length (lines t)))

-- the rows of helps from number k on are from k on
pub asides-from : (compact : Bool) (a : Aside) (k : ℕ) (ts : List (List ℕ))
    → AllByRecursion (FromLine (aside_part a) k) (joined (aside_rows compact a) (enumerate_from k ts))
unfolding joined
asides-from compact a k [] = tt
asides-from compact a k (t ∷ ts) =
    all-append (FromLine (aside_part a) k) (aside_rows compact a (k, t)) (joined (aside_rows compact a) (enumerate_from (k + 1) ts))
    (all-weaker (AtLine (aside_part a) k) (FromLine (aside_part a) k) (aside_rows compact a (k, t)) (from-line (aside_part a) k)
    (aside-at compact a k t))
    (all-weaker (FromLine (aside_part a) (k + 1)) (FromLine (aside_part a) k) (joined (aside_rows compact a) (enumerate_from (k + 1) ts))
    (λ x h. let line = h.line in record { part = h.part; line = omega arith }) (asides-from compact a (k + 1) ts))

-- and stand in order
pub asides-increasing : (compact : Bool) (a : Aside) (k : ℕ) (ts : List (List ℕ))
    → Increasing IsBefore (joined (aside_rows compact a) (enumerate_from k ts))
unfolding joined
asides-increasing compact a k [] = tt
asides-increasing compact a k (t ∷ ts) =
    increasing-append IsBefore (AtLine (aside_part a) k) (FromLine (aside_part a) (k + 1)) (aside_rows compact a (k, t))
    (joined (aside_rows compact a) (enumerate_from (k + 1) ts))
    (λ x y p q. line-before (aside_part a) k x y p (let line = q.line in record { part = q.part; line = omega arith }))
    (aside-at compact a k t) (asides-from compact a (k + 1) ts) (aside-increasing compact a k t) (asides-increasing compact a (k + 1) ts)

-- ---- the group

-- rows in order, of the parts before n
pub record Before (n : ℕ) (xs : List Row) : Type 0 where
  pub order : Increasing IsBefore xs
  pub parts : AllByRecursion (λ x. row_part x < n) xs

-- and of the parts from n on and before m
pub record Behind (n m : ℕ) (xs : List Row) : Type 0 where
  pub order : Increasing IsBefore xs
  pub parts : AllByRecursion (λ x. (n ≤ row_part x) × (row_part x < m)) xs

-- rows of later parts go behind
pub then-rows : (n m : ℕ) (xs ys : List Row) → n ≤ m → Before n xs → Behind n m ys → Before m (xs ++ ys)
then-rows n m xs ys h a b = record {
  order =
      increasing-append IsBefore (λ x. row_part x < n) (λ x. (n ≤ row_part x) × (row_part x < m)) xs ys
      (λ x y p q. let from = q.0 in by-part x y (omega arith)) a.parts b.parts a.order b.order;
  parts =
      all-append (λ x. row_part x < m) xs ys (all-weaker (λ x. row_part x < n) (λ x. row_part x < m) xs (λ x p. omega arith) a.parts)
      (all-weaker (λ x. (n ≤ row_part x) × (row_part x < m)) (λ x. row_part x < m) ys (λ x p. p.1) b.parts);
}

-- no rows are so
pub none-behind : (n m : ℕ) → Behind n m []
none-behind n m = record { order = tt; parts = tt }

-- rows in order of one part are so
pub part-behind : (p l : ℕ) (xs : List Row) → Increasing IsBefore xs → AllByRecursion (FromLine p l) xs → Behind p (suc p) xs
part-behind p l xs i a = record {
  order = i;
  parts = all-weaker (FromLine p l) (λ x. (p ≤ row_part x) × (row_part x < suc p)) xs (λ x h. let part = h.part in (omega arith, omega arith)) a;
}

-- the header and the row below it
pub head-rows : (compact : Bool) → Before 2 (group_header ∷ (if compact then [] else spacer ∷ []))
unfolding row_key
head-rows true = record { order = (tt, tt); parts = (omega arith, tt) }
head-rows false = record { order = ((by-part group_header spacer (omega arith), tt), (tt, tt)); parts = (omega arith, (omega arith, tt)) }

-- the helps, or the notes
pub asides-behind : (compact : Bool) (a : Aside) (ts : List (List ℕ)) → Behind (aside_part a) (suc (aside_part a)) (asides compact a ts)
unfolding asides
asides-behind compact a ts =
    part-behind (aside_part a) 0 (joined (aside_rows compact a) (enumerate_from 0 ts)) (asides-increasing compact a 0 ts) (asides-from compact a 0 ts)

-- the helps
pub helps-behind : (compact : Bool) (ts : List (List ℕ)) → Behind 3 4 (asides compact help ts)
unfolding aside_part
helps-behind compact ts = asides-behind compact help ts

-- the notes
pub notes-behind : (compact : Bool) (ts : List (List ℕ)) → Behind 4 5 (asides compact note ts)
unfolding aside_part
notes-behind compact ts = asides-behind compact note ts

-- rows of two parts, one behind the other
pub two-parts : (n k m : ℕ) (xs ys : List Row) → n ≤ k → k ≤ m → Behind n k xs → Behind k m ys → Behind n m (xs ++ ys)
two-parts n k m xs ys h j a b = record {
  order =
      increasing-append IsBefore (λ x. (n ≤ row_part x) × (row_part x < k)) (λ x. (k ≤ row_part x) × (row_part x < m)) xs ys
      (λ x y p q. let up = p.1 in let from = q.0 in by-part x y (omega arith)) a.parts b.parts a.order b.order;
  parts =
      all-append (λ x. (n ≤ row_part x) × (row_part x < m)) xs ys
      (all-weaker (λ x. (n ≤ row_part x) × (row_part x < k)) (λ x. (n ≤ row_part x) × (row_part x < m)) xs
      (λ x p. let up = p.1 in (p.0, omega arith)) a.parts)
      (all-weaker (λ x. (k ≤ row_part x) × (row_part x < m)) (λ x. (n ≤ row_part x) × (row_part x < m)) ys
      (λ x p. let from = p.0 in (omega arith, p.1)) b.parts);
}

-- helps and notes, in the last group
pub aside-rows-behind : (compact is_last : Bool) (helps notes : List (List ℕ))
    → Behind 3 5 (if is_last then asides compact help helps ++ asides compact note notes else [])
aside-rows-behind compact true helps notes =
    two-parts 3 4 5 (asides compact help helps) (asides compact note notes) (omega arith) (omega arith) (helps-behind compact helps)
    (notes-behind compact notes)
aside-rows-behind compact false helps notes = none-behind 3 5

-- the tail
pub tail-behind : (compact : Bool) → Behind 5 6 (if compact then [] else tail ∷ [])
unfolding row_key
tail-behind true = none-behind 5 6
tail-behind false = record { order = (tt, tt); parts = ((omega arith, omega arith), tt) }

-- the rows of the lines
pub lines-behind : (s : Sheet) → Behind 2 3 (joined (line_rows s) (group_lines s))
unfolding group_lines
lines-behind s =
    let a = first_line s in
    let n : ℕ = suc (last_line s) - first_line s in
    part-behind 2 a (joined (line_rows s) (range_with_len a n)) (lines-increasing s a n) (lines-from s a n)

-- every row of a group stands before each later one
pub rows-increasing : (s : Sheet) (is_last : Bool) (helps notes : List (List ℕ)) → Increasing IsBefore (rows s is_last helps notes)
unfolding rows
rows-increasing s is_last helps notes =
    let compact = s.switches.compact in
    let top = group_header ∷ (if compact then [] else spacer ∷ []) in
    let lines = joined (line_rows s) (group_lines s) in
    let aside = (if is_last then asides compact help helps ++ asides compact note notes else []) in
    let all : Before 6 (top ++ lines ++ aside ++ (if compact then [] else tail ∷ [])) =
    then-rows 5 6 (top ++ lines ++ aside) (if compact then [] else tail ∷ []) (omega arith)
    (then-rows 3 5 (top ++ lines) aside (omega arith)
    (then-rows 2 3 top lines (omega arith) (head-rows compact) (lines-behind s))
    (aside-rows-behind compact is_last helps notes)) (tail-behind compact) in
    all.order

-- the same by places
pub rows-ordered : (s : Sheet) (is_last : Bool) (helps notes : List (List ℕ)) → AllPairs IsBefore (rows s is_last helps notes)
rows-ordered s is_last helps notes = increasing-pairs IsBefore (rows s is_last helps notes) (rows-increasing s is_last helps notes)
