-- The rows strictly between a gutter label's first row and its last are those of the cases in which its bar stands.
use Rattle.std.proofs.Common.{◌≡◌, ℕ, ◌+◌, ◌*◌, ◌<◌, ◌≤◌, ◌↔◌, Bool, true, false, cond, not, ◌&&◌, Option, Some, None, refl, sym, ap, ◌∙◌, subst}
use Rattle.std.proofs.Common.{arith, ◌==◌, ◌⊎◌, inl, inr, length}
use Rattle.std.specs.Prelude.{slice_get, is_some}
use Rattle.std.specs.List.{position_or_len}
use Rattle.std.proofs.lemmas.Bool.{true≢false, eq-eqb, eqb-true, and_from, and_parts, and_right}
use Rattle.std.proofs.lemmas.Bool.{cases_Bool, not-true, false_from_ne_true}
use Rattle.ariadne_picture.specs.declared.label_info.LabelInfo.{LabelInfo}
use Rattle.ariadne_picture.specs.declared.label_info.LineLabel.{LineLabel}
use Rattle.ariadne_picture.specs.declared.label_info.Side.{Side}
use Rattle.ariadne_picture.specs.declared.label_info.Side.TheVariants.{Inline, Starts, Ends}
use Rattle.ariadne_picture.specs.Ranks.{Sheet, is_start, is_end, gutter_labels, margin_label, is_of_gutter_label, line_labels, is_hidden_line, is_unlabelled}
use Rattle.ariadne_picture.specs.Rows.{row_key, Row, group_header, spacer, source, alternate, arrow, gap, bare, blank, piece, tail, help, note, aside_part}
use Rattle.ariadne_picture.specs.Rows.{before}
use Rattle.ariadne_picture.proofs.Rows.NearLines.{hidden-bare}
use Rattle.ariadne_picture.proofs.Rows.RowPlacing.{row_part, row_line, row_step}
use Rattle.ariadne_picture.specs.Strokes.{is_at_margin, rank_at, first_row, last_row, has_tee, bar_at}
use Rattle.ariadne_picture.specs.Bars.{IsGutterLabel, IsOfLine, IsMarginLabel, IsLineLabel, BarBesideLine, BarBesideLabel, BarBesideAlternate}
use Rattle.ariadne_picture.specs.Bars.{BarBesideArrow, passes, leaves_margin, started_above, ends_below}
use Rattle.ariadne_picture.proofs.Lists.Occurrences.{PassesAt, first-passes, only-passes}
use Rattle.ariadne_picture.proofs.Rows.RowOrder.{IsBefore, Precedes, before-decides}
use Rattle.ariadne_picture.proofs.Labels.LineLabels.{IsEndAt, margin-is, same-info, two-lines, starting, ending, labels-once, start-label, end-label}
use Rattle.ariadne_picture.proofs.Parts.{has_bar, is_end_of_gutter_label}

-- ---- a bar stands strictly between

-- a row after the first row of gutter label i and before its last, without a tee
pub record Between (s : Sheet) (x : Row) (i : ℕ) (a : LabelInfo) : Type 0 where
  pub after : IsBefore (first_row s i a) x
  pub until : IsBefore x (last_row s i a)
  pub no_tee : has_tee s a i x ≡ false

-- a bar stands in such a row
pub between-bar : (s : Sheet) (x : Row) (i : ℕ) (a : LabelInfo) → slice_get (gutter_labels s.labels) i ≡ Some a → Between s x i a → bar_at s x i ≡ true
unfolding bar_at
between-bar s x i a e b = rw (e, b.after, b.until, b.no_tee)

-- and in no other
pub bar-between : (s : Sheet) (x : Row) (i : ℕ) (a : LabelInfo) → slice_get (gutter_labels s.labels) i ≡ Some a → bar_at s x i ≡ true → Between s x i a
unfolding bar_at
bar-between s x i a e h =
    let all : (before (first_row s i a) x && before x (last_row s i a) && not (has_tee s a i x)) ≡ true = subst (λ o. has_bar s i x o ≡ true) e h in
    let two = and_parts (before (first_row s i a) x && before x (last_row s i a)) (not (has_tee s a i x)) all in
    let one = and_parts (before (first_row s i a) x) (before x (last_row s i a)) two.0 in
    record { after = one.0; until = one.1; no_tee = not-true (has_tee s a i x) two.1 }

-- ---- the two rows, in numbers

-- a row of line l and step k
pub record IsRow (l k : ℕ) (x : Row) : Type 0 where
  pub part : row_part x ≡ 2
  pub line : row_line x ≡ l
  pub step : row_step x ≡ k

-- a source row has step 0
pub source-row : (l : ℕ) → IsRow l 0 (source l)
unfolding row_key
source-row l = record { part = refl; line = refl; step = refl }

-- and so has a gap row
pub gap-row : (l : ℕ) → IsRow l 0 (gap l)
unfolding row_key
gap-row l = record { part = refl; line = refl; step = refl }

-- an alternate row has an odd step
pub alternate-row : (l r : ℕ) → IsRow l (2 * r + 1) (alternate l r)
unfolding row_key
alternate-row l r = record { part = refl; line = refl; step = refl }

-- and the arrow row of the same number the next one
pub arrow-row : (l r : ℕ) → IsRow l (2 * r + 2) (arrow l r)
unfolding row_key
arrow-row l r = record { part = refl; line = refl; step = refl }

-- a row before another of the same part, by line and step
pub precedes-row : (l m j k : ℕ) (x y : Row) → IsRow l j x → IsRow m k y → IsBefore x y → (l < m) ⊎ ((l ≡ m) × (j < k))
precedes-row l m j k x y a b h =
    let ap = a.part in let al = a.line in let as' = a.step in let bp = b.part in let bl = b.line in let bs = b.step in
    elim ((before-decides x y).0 h) [
      | inl p ↦ absurd (omega arith)
      | inr p ↦ elim p.1 [
        | inl q ↦ inl (omega arith)
        | inr q ↦ inr (sym al ∙ q.0 ∙ bl, let less = q.1 in omega arith)
      ]
    ]

-- and the other way round
pub row-precedes : (l m j k : ℕ) (x y : Row) → IsRow l j x → IsRow m k y → (l < m) ⊎ ((l ≡ m) × (j < k)) → IsBefore x y
row-precedes l m j k x y a b (inl h) = let al = a.line in let bl = b.line in (before-decides x y).1 (inr (a.part ∙ sym b.part, inl (omega arith)))
row-precedes l m j k x y a b (inr h) =
    let as' = a.step in let bs = b.step in let less = h.1 in
    (before-decides x y).1 (inr (a.part ∙ sym b.part, inr (a.line ∙ h.0 ∙ sym b.line, omega arith)))

-- the step of a gutter label's first row
pub first_step : Sheet → ℕ → LabelInfo → ℕ
first_step s i a = cond (is_at_margin s a.start_line i) 0 (2 * rank_at s is_start a.start_line i + 2)

-- the first row is on the start line
pub first-is : (s : Sheet) (i : ℕ) (a : LabelInfo) → IsRow a.start_line (first_step s i a) (first_row s i a)
unfolding first_row first_step
first-is s i a = elim (cases_Bool (is_at_margin s a.start_line i)) [
  | inl t ↦ rw t (source-row a.start_line)
  | inr f ↦ rw f (arrow-row a.start_line (rank_at s is_start a.start_line i))
]

-- its step is 0 where the gutter label is the margin label
pub first-at-margin : (s : Sheet) (i : ℕ) (a : LabelInfo) → is_at_margin s a.start_line i ≡ true → first_step s i a ≡ 0
unfolding first_step
first-at-margin s i a t = rw t

-- and that of its arrow row where it is a line label
pub first-at-label : (s : Sheet) (i : ℕ) (a : LabelInfo) → is_at_margin s a.start_line i ≡ false
    → first_step s i a ≡ 2 * rank_at s is_start a.start_line i + 2
unfolding first_step
first-at-label s i a f = rw f

-- the last row is an arrow row of the end line
pub last-is : (s : Sheet) (i : ℕ) (a : LabelInfo) → IsRow a.end_line (2 * rank_at s is_end a.end_line i + 2) (last_row s i a)
unfolding last_row
last-is s i a = arrow-row a.end_line (rank_at s is_end a.end_line i)

-- ---- numbers of starts and ends

-- only one side is a start
pub start-side : (x : Side) → is_start x ≡ true → x ≡ Starts
unfolding is_start
start-side Inline h = absurd (true≢false (sym h))
start-side Starts h = refl
start-side Ends h = absurd (true≢false (sym h))

-- and only one an end
pub end-side : (x : Side) → is_end x ≡ true → x ≡ Ends
unfolding is_end
end-side Inline h = absurd (true≢false (sym h))
end-side Starts h = absurd (true≢false (sym h))
end-side Ends h = refl

-- a start is one
pub side-starts : (x : Side) → x ≡ Starts → is_start x ≡ true
unfolding is_start
side-starts x e = rw e

-- an end is one
pub side-ends : (x : Side) → x ≡ Ends → is_end x ≡ true
unfolding is_end
side-ends x e = rw e

-- a line label that passes is a start or end of the gutter label, and the other way round
pub label-passes : (is_side : Side → Bool) (side : Side) (s : Sheet) (l i n : ℕ) → ((x : Side) → x ≡ side → is_side x ≡ true)
    → IsLineLabel s l side i n → PassesAt (is_end_of_gutter_label is_side i) (line_labels s.labels l) n
label-passes is_side side s l i n f h = record {
  item = h.label;
  there = h.there;
  passes =
      and_from (is_side h.label.side) (h.label.gutter_column == i) (f h.label.side h.same_side) (eq-eqb h.label.gutter_column i h.same_gutter_column);
}

-- what passes is a line label of that side of the gutter label
pub passes-label : (is_side : Side → Bool) (side : Side) (s : Sheet) (l i n : ℕ) → ((x : Side) → is_side x ≡ true → x ≡ side)
    → PassesAt (is_end_of_gutter_label is_side i) (line_labels s.labels l) n → IsLineLabel s l side i n
passes-label is_side side s l i n f h =
    let parts = and_parts (is_side h.item.side) (h.item.gutter_column == i) h.passes in
    record { label = h.item; there = h.there; same_side = f h.item.side parts.0; same_gutter_column = eqb-true h.item.gutter_column i parts.1 }

-- the number of a start among the line labels is that of its place, and so is that of an end
pub start-number : (s : Sheet) (l i n : ℕ) → IsLineLabel s l Starts i n → rank_at s is_start l i ≡ n
unfolding rank_at
start-number s l i n h =
    only-passes (is_end_of_gutter_label is_start i) (line_labels s.labels l) n (label-passes is_start Starts s l i n side-starts h)
    (labels-once is_start starting s l i)

-- the number of an end is that of its place
pub end-number : (s : Sheet) (l i n : ℕ) → IsLineLabel s l Ends i n → rank_at s is_end l i ≡ n
unfolding rank_at
end-number s l i n h =
    only-passes (is_end_of_gutter_label is_end i) (line_labels s.labels l) n (label-passes is_end Ends s l i n side-ends h) (labels-once is_end ending s l i)

-- a gutter label that starts at a line, not as its margin label, is the line label of its number there
pub numbered-start : (s : Sheet) (i : ℕ) (a : LabelInfo) → slice_get (gutter_labels s.labels) i ≡ Some a → is_at_margin s a.start_line i ≡ false
    → IsLineLabel s a.start_line Starts i (rank_at s is_start a.start_line i)
unfolding rank_at
numbered-start s i a e off =
    passes-label is_start Starts s a.start_line i (position_or_len (is_end_of_gutter_label is_start i) (line_labels s.labels a.start_line)) start-side
    (first-passes (is_end_of_gutter_label is_start i) (line_labels s.labels a.start_line) (start-label s i a e off))

-- a gutter label that ends at a line is the line label of its number there
pub numbered-end : (s : Sheet) (i : ℕ) (a : LabelInfo) → slice_get (gutter_labels s.labels) i ≡ Some a
    → IsLineLabel s a.end_line Ends i (rank_at s is_end a.end_line i)
unfolding rank_at
numbered-end s i a e =
    passes-label is_end Ends s a.end_line i (position_or_len (is_end_of_gutter_label is_end i) (line_labels s.labels a.end_line)) end-side
    (first-passes (is_end_of_gutter_label is_end i) (line_labels s.labels a.end_line) (end-label s i a e))

-- ---- the margin label

-- where the margin label is of gutter label i, it is its start or its end
pub record AtMargin (s : Sheet) (l i : ℕ) (a : LabelInfo) : Type 0 where
  pub label : LineLabel
  pub there : margin_label s.labels l ≡ Some label
  pub owner : label.gutter_column ≡ i
  pub info : label.info ≡ a
  pub is : (label.side ≡ Starts) × (a.start_line ≡ l) ⊎ (label.side ≡ Ends) × (a.end_line ≡ l)

-- a margin label that is of gutter label i is of a, where a is gutter label i
pub at-margin-label : (s : Sheet) (l i : ℕ) (a : LabelInfo) → slice_get (gutter_labels s.labels) i ≡ Some a → (o : Option LineLabel) → margin_label s.labels l ≡ o
    → is_of_gutter_label o i ≡ true → AtMargin s l i a
unfolding is_of_gutter_label
at-margin-label s l i a e None m t = absurd (true≢false (sym t))
at-margin-label s l i a e (Some x) m t =
    let edge : IsEndAt s l x = margin-is s l x m in
    let owner : x.gutter_column ≡ i = eqb-true x.gutter_column i t in
    let info : x.info ≡ a = same-info s l i a x e edge owner in
    record {
      label = x;
      there = m;
      owner = owner;
      info = info;
      is = elim edge.there [
        | inl h ↦ inl (h.0, ap (λ b. b.start_line) (sym info) ∙ h.1)
        | inr h ↦ inr (h.0, ap (λ b. b.end_line) (sym info) ∙ h.1)
      ];
    }

-- the same by the test
pub at-margin : (s : Sheet) (l i : ℕ) (a : LabelInfo) → slice_get (gutter_labels s.labels) i ≡ Some a → is_at_margin s l i ≡ true → AtMargin s l i a
at-margin s l i a e t = at-margin-label s l i a e (margin_label s.labels l) refl t

-- where an end of gutter label i is the margin label, the test says so
pub margin-at : (s : Sheet) (l i : ℕ) (side : Side) → IsMarginLabel s l side i → is_at_margin s l i ≡ true
unfolding is_of_gutter_label
margin-at s l i side h = ap (λ o. is_of_gutter_label o i) h.there ∙ eq-eqb h.label.gutter_column i h.same_gutter_column

-- ---- rows beside a line label

-- what a row beside line label number r stands above, in steps
pub record IsBeside (r k : ℕ) (IsAbove : ℕ → Type 0) : Type 0 where
  pub low : 2 * r + 1 ≤ k
  pub high : k ≤ 2 * r + 2
  pub to : (e : ℕ) → k < 2 * e + 2 → IsAbove e
  pub from : (e : ℕ) → IsAbove e → k < 2 * e + 2

module _ (s : Sheet) (i : ℕ) (a : LabelInfo) (m : IsGutterLabel s i a) where
  -- a gutter label ends on a later line than it starts
  pub rises : a.start_line < a.end_line
  rises =
      let apart = two-lines s i a m.owned in
      let up = m.rises in
      omega arith

  -- a gutter label that ends at a line comes in from above
  pub ends-in : (l : ℕ) → a.end_line ≡ l → a.start_line < l
  ends-in l e = let up = rises in omega arith

  -- a gutter label that starts at a line goes on below it
  pub goes-on : (l : ℕ) → a.start_line ≡ l → l < a.end_line
  goes-on l e = let up = rises in omega arith

  -- the margin label of a line where the gutter label starts is its start
  pub starts-margin : (l : ℕ) → a.start_line ≡ l → is_at_margin s l i ≡ true → IsMarginLabel s l Starts i
  starts-margin l e t =
      let at : AtMargin s l i a = at-margin s l i a m.owned t in
      elim at.is [
        | inl h ↦ record { label = at.label; there = at.there; same_side = h.0; same_gutter_column = at.owner }
        | inr h ↦ let end = h.1 in let up = rises in absurd (omega arith)
      ]

  -- the end where the bar comes from above
  pub case-end : (l r k : ℕ) (IsAbove : ℕ → Type 0) → IsBeside r k IsAbove → a.end_line ≡ l → k < 2 * rank_at s is_end a.end_line i + 2
      → BarBesideLabel s i a l r IsAbove
  case-end l r k IsAbove b e h =
      ends_below (rank_at s is_end a.end_line i) e
      (subst (λ n. IsLineLabel s n Ends i (rank_at s is_end a.end_line i)) e (numbered-end s i a m.owned))
      (b.to (rank_at s is_end a.end_line i) h)

  -- the start where the bar goes on below
  pub case-start : (l r k : ℕ) (IsAbove : ℕ → Type 0) → IsBeside r k IsAbove → a.start_line ≡ l → first_step s i a < k
      → BarBesideLabel s i a l r IsAbove
  case-start l r k IsAbove b e h = elim (cases_Bool (is_at_margin s a.start_line i)) [
    | inl t ↦ leaves_margin e (starts-margin l e (subst (λ n. is_at_margin s n i ≡ true) e t))
    | inr f ↦
        let n : ℕ = rank_at s is_start a.start_line i in
        let step : first_step s i a ≡ 2 * n + 2 = first-at-label s i a f in
        let high = b.high in
        started_above n e (subst (λ q. IsLineLabel s q Starts i n) e (numbered-start s i a m.owned f)) (omega arith)
  ]

  -- a bar beside a line label stands in one of the cases
  pub bar-case : (l r k : ℕ) (x : Row) (IsAbove : ℕ → Type 0) → IsRow l k x → IsBeside r k IsAbove → bar_at s x i ≡ true
      → BarBesideLabel s i a l r IsAbove
  bar-case l r k x IsAbove row b h =
      let bar : Between s x i a = bar-between s x i a m.owned h in
      let last = precedes-row l a.end_line k (2 * rank_at s is_end a.end_line i + 2) x (last_row s i a) row (last-is s i a) bar.until in
      elim (precedes-row a.start_line l (first_step s i a) k (first_row s i a) x (first-is s i a) row bar.after) [
        | inr p ↦ case-start l r k IsAbove b p.0 p.1
        | inl p ↦ elim last [
          | inl q ↦ passes p q
          | inr q ↦ case-end l r k IsAbove b (sym q.0) q.1
        ]
      ]

  -- the arrow row of an earlier start is above
  pub started-step : (l r n k : ℕ) → a.start_line ≡ l → IsLineLabel s l Starts i n → n < r → 2 * r + 1 ≤ k → first_step s i a < k
  started-step l r n k e h less low = elim (cases_Bool (is_at_margin s a.start_line i)) [
    | inl t ↦ let step = first-at-margin s i a t in omega arith
    | inr f ↦
        let step = first-at-label s i a f in
        let number : rank_at s is_start a.start_line i ≡ n = ap (λ q. rank_at s is_start q i) e ∙ start-number s l i n h in
        omega arith
  ]

  -- in each of the cases the bar stands
  pub case-between : (l r k : ℕ) (x : Row) (IsAbove : ℕ → Type 0) → IsRow l k x → IsBeside r k IsAbove → has_tee s a i x ≡ false
      → (a.start_line < l) ⊎ ((a.start_line ≡ l) × (first_step s i a < k)) → (l < a.end_line)
      ⊎ ((l ≡ a.end_line) × (k < 2 * rank_at s is_end a.end_line i + 2)) → Between s x i a
  case-between l r k x IsAbove row b tee h j = record {
    after = row-precedes a.start_line l (first_step s i a) k (first_row s i a) x (first-is s i a) row h;
    until = row-precedes l a.end_line k (2 * rank_at s is_end a.end_line i + 2) x (last_row s i a) row (last-is s i a) j;
    no_tee = tee;
  }

  -- so a bar stands there
  pub case-bar : (l r k : ℕ) (x : Row) (IsAbove : ℕ → Type 0) → IsRow l k x → IsBeside r k IsAbove → has_tee s a i x ≡ false
      → BarBesideLabel s i a l r IsAbove → bar_at s x i ≡ true
  case-bar l r k x IsAbove row b tee (passes h j) = between-bar s x i a m.owned (case-between l r k x IsAbove row b tee (inl h) (inl j))
  case-bar l r k x IsAbove row b tee (leaves_margin e h) =
      let t : is_at_margin s a.start_line i ≡ true = subst (λ q. is_at_margin s q i ≡ true) (sym e) (margin-at s l i Starts h) in
      let step = first-at-margin s i a t in
      let low = b.low in
      between-bar s x i a m.owned (case-between l r k x IsAbove row b tee (inr (e, omega arith)) (inl (goes-on l e)))
  case-bar l r k x IsAbove row b tee (started_above n e h less) =
      between-bar s x i a m.owned (case-between l r k x IsAbove row b tee (inr (e, started-step l r n k e h less b.low)) (inl (goes-on l e)))
  case-bar l r k x IsAbove row b tee (ends_below n e h above) =
      let number : rank_at s is_end a.end_line i ≡ n = ap (λ q. rank_at s is_end q i) e ∙ end-number s l i n h in
      let up = b.from n above in
      between-bar s x i a m.owned (case-between l r k x IsAbove row b tee (inl (ends-in l e)) (inr (sym e, omega arith)))

  -- an alternate row is above its own arrow row
  pub beside-alternate : (r : ℕ) → IsBeside r (2 * r + 1) (λ e. r ≤ e)
  beside-alternate r = record { low = omega arith; high = omega arith; to = λ e h. omega arith; from = λ e h. omega arith }

  -- an arrow row is above those of higher numbers
  pub beside-arrow : (r : ℕ) → IsBeside r (2 * r + 2) (λ e. r < e)
  beside-arrow r = record { low = omega arith; high = omega arith; to = λ e h. omega arith; from = λ e h. omega arith }

  -- no tee stands on an alternate row
  pub no-tee-alternate : (l r : ℕ) → has_tee s a i (alternate l r) ≡ false
  unfolding has_tee
  no-tee-alternate l r = refl

  -- nor on an arrow row
  pub no-tee-arrow : (l r : ℕ) → has_tee s a i (arrow l r) ≡ false
  unfolding has_tee
  no-tee-arrow l r = refl

  -- beside an alternate row, and beside an arrow row
  pub bars-alternate : (l r : ℕ) → (bar_at s (alternate l r) i ≡ true) ↔ BarBesideAlternate s i a l r
  bars-alternate l r = (
    bar-case l r (2 * r + 1) (alternate l r) (λ e. r ≤ e) (alternate-row l r) (beside-alternate r),
    case-bar l r (2 * r + 1) (alternate l r) (λ e. r ≤ e) (alternate-row l r) (beside-alternate r) (no-tee-alternate l r),
  )

  -- beside an arrow row
  pub bars-arrow : (l r : ℕ) → (bar_at s (arrow l r) i ≡ true) ↔ BarBesideArrow s i a l r
  bars-arrow l r = (
    bar-case l r (2 * r + 2) (arrow l r) (λ e. r < e) (arrow-row l r) (beside-arrow r),
    case-bar l r (2 * r + 2) (arrow l r) (λ e. r < e) (arrow-row l r) (beside-arrow r) (no-tee-arrow l r),
  )

  -- the first row stands before the last
  pub first-before-last : IsBefore (first_row s i a) (last_row s i a)
  first-before-last =
      row-precedes a.start_line a.end_line (first_step s i a) (2 * rank_at s is_end a.end_line i + 2) (first_row s i a) (last_row s i a)
      (first-is s i a) (last-is s i a) (inl rises)

  -- ---- source and gap rows

  -- a row of step 0 has a bar of each gutter label that covers its line and doesn't start there
  pub between-lines : (l : ℕ) (x : Row) → IsRow l 0 x → Between s x i a → (a.start_line < l) × (l ≤ a.end_line)
  between-lines l x row b =
      let first = precedes-row a.start_line l (first_step s i a) 0 (first_row s i a) x (first-is s i a) row b.after in
      let last = precedes-row l a.end_line 0 (2 * rank_at s is_end a.end_line i + 2) x (last_row s i a) row (last-is s i a) b.until in (
        elim first [ inl h ↦ h | inr h ↦ let none = h.1 in absurd (omega arith) ],
        elim last [ inl h ↦ omega arith | inr h ↦ let same = h.0 in omega arith ],
      )

  -- and each such row without a tee has it
  pub lines-between : (l : ℕ) (x : Row) → IsRow l 0 x → has_tee s a i x ≡ false → a.start_line < l → l ≤ a.end_line → Between s x i a
  lines-between l x row tee h j = record {
    after = row-precedes a.start_line l (first_step s i a) 0 (first_row s i a) x (first-is s i a) row (inl h);
    until =
        row-precedes l a.end_line 0 (2 * rank_at s is_end a.end_line i + 2) x (last_row s i a) row (last-is s i a)
        (elim (Rattle.std.proofs.lemmas.Bool.cases_eq l a.end_line) [ inl e ↦ inr (e, omega arith) | inr n ↦ inl (omega arith) ]);
    no_tee = tee;
  }

  -- a tee stands on the source row where the gutter label ends as the margin label
  pub tee-source : (l : ℕ) → has_tee s a i (source l) ≡ ((a.end_line == l) && is_at_margin s l i)
  unfolding has_tee
  tee-source l = refl

  -- none stands on a gap row
  pub no-tee-gap : (l : ℕ) → has_tee s a i (gap l) ≡ false
  unfolding has_tee
  no-tee-gap l = refl

  -- a gutter label that comes in from above, without a tee, isn't the margin label
  pub off-margin : (l : ℕ) → a.start_line < l → has_tee s a i (source l) ≡ false → is_at_margin s l i ≡ false
  off-margin l h tee = false_from_ne_true (is_at_margin s l i) (λ t.
      let at : AtMargin s l i a = at-margin s l i a m.owned t in
      elim at.is [
        | inl k ↦ let start = k.1 in omega arith
        | inr k ↦ true≢false (sym (and_from (a.end_line == l) (is_at_margin s l i) (eq-eqb a.end_line l k.1) t) ∙ sym (tee-source l) ∙ tee)
      ])

  -- beside a source row
  pub bars-source : (l : ℕ) → (bar_at s (source l) i ≡ true) ↔ BarBesideLine s i a l
  bars-source l = (to, back)
    where
      to : bar_at s (source l) i ≡ true → BarBesideLine s i a l
      to h =
          let b : Between s (source l) i a = bar-between s (source l) i a m.owned h in
          let lines = between-lines l (source l) (source-row l) b in
          let below = lines.0 in
          record { from = omega arith; to = lines.1; not_at_margin = off-margin l lines.0 b.no_tee; not_its_start = λ e. omega arith }

      back : BarBesideLine s i a l → bar_at s (source l) i ≡ true
      back h =
          let from = h.from in
          let apart = h.not_its_start in
          let tee = tee-source l ∙ and_right (a.end_line == l) (is_at_margin s l i) h.not_at_margin in
          between-bar s (source l) i a m.owned (lines-between l (source l) (source-row l) tee (omega arith) h.to)

  -- a hidden line has no margin label
  pub bars-gap : (l : ℕ) → is_at_margin s l i ≡ false → (bar_at s (gap l) i ≡ true) ↔ BarBesideLine s i a l
  bars-gap l off = (to, back)
    where
      to : bar_at s (gap l) i ≡ true → BarBesideLine s i a l
      to h =
          let b : Between s (gap l) i a = bar-between s (gap l) i a m.owned h in
          let lines = between-lines l (gap l) (gap-row l) b in
          let below = lines.0 in
          record { from = omega arith; to = lines.1; not_at_margin = off; not_its_start = λ e. omega arith }

      back : BarBesideLine s i a l → bar_at s (gap l) i ≡ true
      back h =
          let from = h.from in
          let apart = h.not_its_start in
          between-bar s (gap l) i a m.owned (lines-between l (gap l) (gap-row l) (no-tee-gap l) (omega arith) h.to)

-- a line without labels has no margin label
unlabelled-margin : (s : Sheet) (l : ℕ) → is_unlabelled s.labels l ≡ true → is_some (margin_label s.labels l) ≡ false
unfolding is_unlabelled
unlabelled-margin s l h =
    not-true (is_some (margin_label s.labels l)) (and_parts (length (line_labels s.labels l) == 0) (not (is_some (margin_label s.labels l))) h).1

-- so a hidden line has none
pub hidden-margin : (s : Sheet) (l : ℕ) → is_hidden_line s l ≡ true → is_some (margin_label s.labels l) ≡ false
hidden-margin s l h = unlabelled-margin s l (hidden-bare s l h)

-- nothing is of no gutter label
pub none-of-gutter-label : (o : Option LineLabel) (i : ℕ) → is_some o ≡ false → is_of_gutter_label o i ≡ false
unfolding is_of_gutter_label
none-of-gutter-label None i h = refl
none-of-gutter-label (Some x) i h = absurd (true≢false h)

-- so the margin label of a line without labels is of no gutter label
pub unlabelled-off-margin : (s : Sheet) (l i : ℕ) → is_unlabelled s.labels l ≡ true → is_at_margin s l i ≡ false
unlabelled-off-margin s l i h = none-of-gutter-label (margin_label s.labels l) i (unlabelled-margin s l h)

-- and that of a hidden line
pub hidden-off-margin : (s : Sheet) (l i : ℕ) → is_hidden_line s l ≡ true → is_at_margin s l i ≡ false
hidden-off-margin s l i h = unlabelled-off-margin s l i (hidden-bare s l h)

-- ---- rows of other parts

-- the rows of part 2 are those of a line
pub of-line : (x : Row) → row_part x ≡ 2 → IsOfLine x
unfolding row_key aside_part
of-line group_header e = absurd (omega arith)
of-line spacer e = absurd (omega arith)
of-line (source l) e = tt
of-line (alternate l r) e = tt
of-line (arrow l r) e = tt
of-line (gap l) e = tt
of-line (bare l) e = tt
of-line (blank help k) e = absurd (omega arith)
of-line (blank note k) e = absurd (omega arith)
of-line (piece help k p) e = absurd (omega arith)
of-line (piece note k p) e = absurd (omega arith)
of-line tail e = absurd (omega arith)

-- a row with a bar is between two of part 2
pub part-between : (p x q : Row) → row_part p ≡ 2 → row_part q ≡ 2 → Precedes p x → Precedes x q → row_part x ≡ 2
part-between p x q first last (inl h) (inl k) = omega arith
part-between p x q first last (inl h) (inr k) = k.0 ∙ last
part-between p x q first last (inr h) k = sym h.0 ∙ first

-- a row with a bar is a row of a line
pub bars-of-lines : (s : Sheet) (x : Row) (i : ℕ) → bar_at s x i ≡ true → IsOfLine x
unfolding bar_at
bars-of-lines s x i t = found (slice_get (gutter_labels s.labels) i) refl
  where
    found : (o : Option LabelInfo) → slice_get (gutter_labels s.labels) i ≡ o → IsOfLine x
    found None e = absurd (true≢false (sym t ∙ ap (has_bar s i x) e))
    found (Some a) e =
        let b : Between s x i a = bar-between s x i a e t in
        of-line x (part-between (first_row s i a) x (last_row s i a) (first-is s i a).part (last-is s i a).part
        ((before-decides (first_row s i a) x).0 b.after) ((before-decides x (last_row s i a)).0 b.until))
