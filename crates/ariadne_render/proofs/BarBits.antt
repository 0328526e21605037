-- Whether the bar of one gutter label stands, as `is_beside` and `is_below` tell it. The rows of a line show the bar so, and from one row to the next it
-- changes where the gutter label starts or ends, and nowhere else.
use Rattle.std.proofs.Common.{◌≡◌, ◌≢◌, ℕ, ◌+◌, ◌*◌, ◌<◌, true, false, not, ◌==◌, Some, is_some, length, refl, sym, ap, ◌∙◌, subst, arith}
use Rattle.std.proofs.Common.{Decides, ◌⊎◌, inl, inr}
use Rattle.std.specs.Prelude.{slice_get}
use Rattle.std.proofs.lemmas.Bool.{true≢false, eq-eqb, eqb-true, and_right, and_parts}
use Rattle.std.proofs.lemmas.Bool.Decides.{nat_tests}
use Rattle.std.proofs.lemmas.Option.{slice_get_within}
use Rattle.ariadne_picture.specs.declared.label_info.LabelInfo.{LabelInfo}
use Rattle.ariadne_picture.specs.declared.label_info.LineLabel.{LineLabel}
use Rattle.ariadne_picture.specs.declared.label_info.Side.{Side}
use Rattle.ariadne_picture.specs.declared.label_info.Side.TheVariants.{Inline, Starts, Ends}
use Rattle.ariadne_picture.specs.Ranks.{Sheet, gutter_labels, is_start, is_end, is_inline, line_labels, margin_label, is_unlabelled}
use Rattle.ariadne_picture.specs.Rows.{Row, source, alternate, arrow, gap}
use Rattle.ariadne_picture.specs.Strokes.{is_at_margin, rank_at, first_row, last_row, has_tee, bar_at}
use Rattle.ariadne_picture.specs.Bars.{IsGutterLabel, IsMarginLabel, IsLineLabel}
use Rattle.ariadne_picture.proofs.Labels.LineLabels.{IsEndAt, margin-is, same-info, line-labels-are}
use Rattle.ariadne_picture.proofs.Lists.ListFacts.{all-at}
use Rattle.ariadne_picture.proofs.Rows.BarCases.{between-bar, bar-between, IsRow, source-row, gap-row, alternate-row, arrow-row, precedes-row, row-precedes}
use Rattle.ariadne_picture.proofs.Rows.BarCases.{first_step, first-is, last-is, first-at-margin, first-at-label, start-number, end-number}
use Rattle.ariadne_picture.proofs.Rows.BarCases.{numbered-start, numbered-end, margin-at, rises, no-tee-gap, no-tee-alternate, no-tee-arrow}
use Rattle.ariadne_picture.proofs.Rows.BarCases.{tee-source, unlabelled-off-margin}
use Rattle.ariadne_render.specs.Gutters.{is_beside, is_below}
use Rattle.ariadne_render.proofs.RowBars.{is_own_column, owns_column}

-- ---- where a gutter label starts and ends

-- a start of gutter label i at line l is on a's first line, where a is gutter label i
starts-there : (s : Sheet) (l i : ℕ) (a : LabelInfo) (x : LineLabel) → slice_get (gutter_labels s.labels) i ≡ Some a → IsEndAt s l x → x.gutter_column ≡ i
    → x.side ≡ Starts → a.start_line ≡ l
starts-there s l i a x e h own side = elim h.there [
  | inl is ↦ ap (λ b. b.start_line) (sym (same-info s l i a x e h own)) ∙ is.1
  | inr is ↦ let other = is.0 in absurd (cc)
]

-- and an end on its last one
ends-there : (s : Sheet) (l i : ℕ) (a : LabelInfo) (x : LineLabel) → slice_get (gutter_labels s.labels) i ≡ Some a → IsEndAt s l x → x.gutter_column ≡ i
    → x.side ≡ Ends → a.end_line ≡ l
ends-there s l i a x e h own side = elim h.there [
  | inl is ↦ let other = is.0 in absurd (cc)
  | inr is ↦ ap (λ b. b.end_line) (sym (same-info s l i a x e h own)) ∙ is.1
]

-- a line label that is a start or an end is one of a gutter label
pub label-end : (s : Sheet) (l r : ℕ) (x : LineLabel) → slice_get (line_labels s.labels l) r ≡ Some x → is_inline x.side ≡ false → IsEndAt s l x
unfolding is_inline
label-end s l r x e out = elim (all-at (λ x. IsEndAt s l x ⊎ (x.side ≡ Inline)) (line_labels s.labels l) r x e (line-labels-are s l)) [
  | inl is ↦ is
  | inr side ↦ absurd (true≢false (sym (ap is_inline side) ∙ out))
]

-- the arrow row of a start or an end has its gutter label's column
owns : (s : Sheet) (l i r : ℕ) (side : Side) → IsLineLabel s l side i r → is_inline side ≡ false → owns_column s (arrow l r) i ≡ true
unfolding owns_column is_own_column
owns s l i r side h out =
    let off : is_inline h.label.side ≡ false = ap is_inline h.same_side ∙ out in
    let at = eq-eqb h.label.gutter_column i h.same_gutter_column in
    rw (h.there, off, at) refl

module _ (s : Sheet) (l i : ℕ) (a : LabelInfo) (m : IsGutterLabel s i a) where
  -- a start that is a line label stands on a's first line
  start-line : (r : ℕ) → IsLineLabel s l Starts i r → a.start_line ≡ l
  unfolding is_inline
  start-line r h =
      starts-there s l i a h.label m.owned (label-end s l r h.label h.there (ap is_inline h.same_side)) h.same_gutter_column h.same_side

  -- and an end on its last one
  end-line : (r : ℕ) → IsLineLabel s l Ends i r → a.end_line ≡ l
  unfolding is_inline
  end-line r h = ends-there s l i a h.label m.owned (label-end s l r h.label h.there (ap is_inline h.same_side)) h.same_gutter_column h.same_side

  -- a start that is the margin label stands on a's first line too
  margin-line : IsMarginLabel s l Starts i → a.start_line ≡ l
  margin-line h = starts-there s l i a h.label m.owned (margin-is s l h.label h.there) h.same_gutter_column h.same_side

  -- where a starts, and not as the margin label, its start is a line label
  start-there : a.start_line ≡ l → is_at_margin s l i ≡ false → IsLineLabel s l Starts i (rank_at s is_start l i)
  start-there e off =
      subst (λ k. is_at_margin s k i ≡ false → IsLineLabel s k Starts i (rank_at s is_start k i)) e (numbered-start s i a m.owned) off

  -- and where a ends, its end is one
  end-there : a.end_line ≡ l → IsLineLabel s l Ends i (rank_at s is_end l i)
  end-there e = subst (λ k. IsLineLabel s k Ends i (rank_at s is_end k i)) e (numbered-end s i a m.owned)

  -- so the rank of its start is that of a line label
  start-rank : a.start_line ≡ l → is_at_margin s l i ≡ false → rank_at s is_start l i < length (line_labels s.labels l)
  start-rank e off = let h = start-there e off in slice_get_within (line_labels s.labels l) (rank_at s is_start l i) h.label h.there

  -- and so is that of its end
  end-rank : a.end_line ≡ l → rank_at s is_end l i < length (line_labels s.labels l)
  end-rank e = let h = end-there e in slice_get_within (line_labels s.labels l) (rank_at s is_end l i) h.label h.there

  -- but not that of a line label with another column or with none
  start-off : (r : ℕ) → owns_column s (arrow l r) i ≡ false → a.start_line ≡ l → is_at_margin s l i ≡ false → rank_at s is_start l i ≢ r
  unfolding is_inline
  start-off r other e off same =
      true≢false (sym (owns s l i r Starts (subst (λ k. IsLineLabel s l Starts i k) same (start-there e off)) refl) ∙ other)

  -- nor is that of its end
  end-off : (r : ℕ) → owns_column s (arrow l r) i ≡ false → a.end_line ≡ l → rank_at s is_end l i ≢ r
  unfolding is_inline
  end-off r other e same = true≢false (sym (owns s l i r Ends (subst (λ k. IsLineLabel s l Ends i k) same (end-there e)) refl) ∙ other)

  -- ---- the bar in the rows of the line

  -- in a row without a tee it stands where the row is below a's first row and above its last one
  row-bar : (k : ℕ) (x : Row) → IsRow l k x → has_tee s a i x ≡ false
      → Decides (bar_at s x i)
      (((a.start_line < l) ⊎ ((a.start_line ≡ l) × (first_step s i a < k)))
      × ((l < a.end_line) ⊎ ((l ≡ a.end_line) × (k < 2 * rank_at s is_end a.end_line i + 2))))
  row-bar k x row tee =
      let first = first-is s i a in
      let last = last-is s i a in (
        λ h.
            let b = bar-between s x i a m.owned h in (
              precedes-row a.start_line l (first_step s i a) k (first_row s i a) x first row b.after,
              precedes-row l a.end_line k (2 * rank_at s is_end a.end_line i + 2) x (last_row s i a) row last b.until,
            ),
        λ h. between-bar s x i a m.owned (record {
          after = row-precedes a.start_line l (first_step s i a) k (first_row s i a) x first row h.0;
          until = row-precedes l a.end_line k (2 * rank_at s is_end a.end_line i + 2) x (last_row s i a) row last h.1;
          no_tee = tee;
        }),
      )

  -- in the source row it stands as beside the line, unless a is the margin label, which has a head or a tee there
  pub source-bar : is_at_margin s l i ≡ false → is_beside l a ≡ bar_at s (source l) i
  unfolding is_beside
  source-bar off =
      let bar = row-bar 0 (source l) (source-row l) (tee-source s i a m l ∙ and_right (a.end_line == l) (is_at_margin s l i) off) in
      let to = bar.0 in
      let back = bar.1 in
      grind (arith, nat_tests)

  -- in the gap row it stands as beside the line
  pub gap-bar : is_beside l a ≡ bar_at s (gap l) i
  unfolding is_beside
  gap-bar =
      let bar = row-bar 0 (gap l) (gap-row l) (no-tee-gap s i a m l) in
      let to = bar.0 in
      let back = bar.1 in
      grind (arith, nat_tests)

  -- in the alternate row of rank r it stands as `is_below` tells
  pub alternate-bar : (r : ℕ) → is_below s l r i a ≡ bar_at s (alternate l r) i
  unfolding is_below
  alternate-bar r =
      let bar = row-bar (2 * r + 1) (alternate l r) (alternate-row l r) (no-tee-alternate s i a m l r) in
      let to = bar.0 in
      let back = bar.1 in
      let at = first-at-margin s i a in
      let off = first-at-label s i a in
      let up = rises s i a m in
      grind (arith, nat_tests)

  -- and so it does in the arrow row, unless that is the row of a's own start or end
  pub arrow-bar : (r : ℕ) → owns_column s (arrow l r) i ≡ false → is_below s l r i a ≡ bar_at s (arrow l r) i
  unfolding is_below
  arrow-bar r other =
      let bar = row-bar (2 * r + 2) (arrow l r) (arrow-row l r) (no-tee-arrow s i a m l r) in
      let to = bar.0 in
      let back = bar.1 in
      let at = first-at-margin s i a in
      let off = first-at-label s i a in
      let end = end-off r other in
      let up = rises s i a m in
      grind (arith, nat_tests)

  -- ---- from one row to the next

  -- below the source row it stands as beside the line, unless a starts there as the margin label
  pub first-rank-bar : (a.start_line ≡ l → is_at_margin s l i ≡ false) → is_below s l 0 i a ≡ is_beside l a
  unfolding is_below is_beside
  first-rank-bar off =
      let up = rises s i a m in
      grind (arith, nat_tests)

  -- and where a does, it begins
  pub margin-bar : IsMarginLabel s l Starts i → is_below s l 0 i a ≡ true
  unfolding is_below
  margin-bar h =
      let at = margin-at s l i Starts h in
      let here = margin-line h in
      grind (arith, nat_tests)

  -- below a line label of another column, or of none, it stands as above
  pub next-rank-bar : (r : ℕ) → owns_column s (arrow l r) i ≡ false → is_below s l (r + 1) i a ≡ is_below s l r i a
  unfolding is_below
  next-rank-bar r other =
      let start = start-off r other in
      let end = end-off r other in
      grind (arith, nat_tests)

  -- below a's start it has begun
  started-bar : (r : ℕ) → IsLineLabel s l Starts i r → is_below s l (r + 1) i a ≡ true
  unfolding is_below
  started-bar r h =
      let here = start-line r h in
      let rank = start-number s l i r h in
      grind (arith, nat_tests)

  -- below a's end it has ended
  ended-bar : (r : ℕ) → IsLineLabel s l Ends i r → is_below s l (r + 1) i a ≡ false
  unfolding is_below
  ended-bar r h =
      let up = rises s i a m in
      let here = end-line r h in
      let rank = end-number s l i r h in
      grind (arith, nat_tests)

  -- so below a line label of its own it stands where that is its start
  pub own-bar : (r : ℕ) (side : Side) → IsLineLabel s l side i r → is_inline side ≡ false → is_start side ≡ is_below s l (r + 1) i a
  unfolding is_inline is_start
  own-bar r Inline h out = absurd (true≢false out)
  own-bar r Starts h out = sym (started-bar r h)
  own-bar r Ends h out = sym (ended-bar r h)

  -- below the last line label it stands as beside the next line
  pub next-line-bar : is_below s l (length (line_labels s.labels l)) i a ≡ is_beside (l + 1) a
  unfolding is_below is_beside
  next-line-bar =
      let up = rises s i a m in
      let start = start-rank in
      let end = end-rank in
      grind (arith, nat_tests)

  -- beside a line without labels too, since that has no line label and no margin label
  pub unlabelled-bar : is_unlabelled s.labels l ≡ true → is_beside l a ≡ is_beside (l + 1) a
  unfolding is_beside is_unlabelled
  unlabelled-bar bare =
      let off = unlabelled-off-margin s l i bare in
      let none = eqb-true (length (line_labels s.labels l)) 0 (and_parts (length (line_labels s.labels l) == 0) (not (is_some (margin_label s.labels l))) bare).0 in
      let start = start-rank in
      let end = end-rank in
      grind (arith, nat_tests)
