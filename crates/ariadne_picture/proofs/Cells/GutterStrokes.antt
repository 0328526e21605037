-- What the column of a gutter label shows in each row: its head, its bar and its corner, and blanks or horizontals outside them.
-- The column of arrow heads behind them has no bar.
use Rattle.std.proofs.Common.{◌≡◌, ℕ, ◌+◌, ◌*◌, ◌<◌, true, false, Option, Some, None, refl, sym, ap, ◌∙◌, subst, arith, ◌==◌, ◌⊎◌}
use Rattle.std.proofs.Common.{inl, inr, length}
use Rattle.std.specs.Prelude.{slice_get}
use Rattle.std.proofs.lemmas.Bool.{true≢false, eq-eqb, eqb-true, and_parts, cases_Bool, cases_lt, false_from_ne_true}
use Rattle.std.proofs.lemmas.Option.{slice_get_within}
use Rattle.ariadne_picture.specs.declared.label_info.LabelInfo.{LabelInfo}
use Rattle.ariadne_picture.specs.declared.label_info.LineLabel.{LineLabel}
use Rattle.ariadne_picture.specs.declared.cell.Glyph.TheVariants.{Blank, Hbar, Vbar, Xbar, VbarGap, Rarrow, Ltop, Lbot, Lcross}
use Rattle.ariadne_picture.specs.Ranks.{Sheet, is_inline, is_end, gutter_labels, margin_label, is_of_gutter_label, line_labels}
use Rattle.ariadne_picture.specs.Rows.{row_key, Row, source, alternate, arrow, gap, before}
use Rattle.ariadne_picture.specs.Strokes.{is_at_margin, rank_at, first_row, last_row, has_tee, bar_at}
use Rattle.ariadne_picture.specs.Bars.{IsGutterLabel, Shows, IsInside, IsOutside}
use Rattle.ariadne_picture.specs.Cells.{margin_glyph, turn_glyph, beside_ink, below_ink, turn_ink, column_ink}
use Rattle.ariadne_picture.proofs.Lists.ListFacts.{all-at}
use Rattle.ariadne_picture.proofs.Labels.LabelsAtLine.{IsHere, labels-here}
use Rattle.ariadne_picture.proofs.Rows.RowOrder.{IsBefore, before-irreflexive, before-chain}
use Rattle.ariadne_picture.proofs.Rows.BarCases.{at-margin, between-bar, bar-between, source-row, precedes-row, first-is, first_step}
use Rattle.ariadne_picture.proofs.Rows.BarCases.{first-at-margin, last-is, rises, first-before-last, no-tee-alternate, no-tee-arrow, no-tee-gap}
use Rattle.ariadne_picture.proofs.Rows.GutterLabelRows.{starts-somewhere, ends-somewhere, first-at-source, first-at-arrow, last-at-arrow}
use Rattle.ariadne_picture.proofs.Cells.GutterInks.{IsFree, no-bar-last, bar-beside, leave-beside, free-beside, last-beside, bar-gap}
use Rattle.ariadne_picture.proofs.Cells.GutterInks.{bar-alternate, free-alternate, own-arrow, behind-arrow, bar-arrow, free-arrow}
use Rattle.ariadne_picture.proofs.Cells.InkCells.{IsLevel}

-- no two rows stand before each other, as none stands before itself
not-both : (x y : Row) → IsBefore x y → IsBefore y x → ⊥
not-both x y h k = true≢false (sym (before-chain x y x h k) ∙ before-irreflexive x)

-- a line label that is not within its line is a start or an end, and these are of the gutter label of their number
pub turn-owned : (s : Sheet) (l : ℕ) (x : LineLabel) → IsHere s l x → is_inline x.side ≡ false
    → slice_get (gutter_labels s.labels) x.gutter_column ≡ Some x.info
unfolding is_inline
turn-owned s l x (inl h) out = h.owned
turn-owned s l x (inr (inl h)) out = h.owned
turn-owned s l x (inr (inr h)) out = absurd (true≢false (ap is_inline (sym h.side) ∙ out))

-- without bars a row in place of hidden lines shows what the source row does: both show the margin label's stroke
gap-beside : (s : Sheet) (l i : ℕ) → bar_at s (gap l) i ≡ false → bar_at s (source l) i ≡ false → column_ink s (gap l) i ≡ column_ink s (source l) i
unfolding column_ink beside_ink
gap-beside s l i broken whole = rw (broken, whole) refl

-- without bar an arrow row without line label is blank, as only a line label's stroke could cross it
none-arrow : (s : Sheet) (l r i : ℕ) → slice_get (line_labels s.labels l) r ≡ None → bar_at s (arrow l r) i ≡ false → Shows s (arrow l r) i Blank
unfolding column_ink turn_ink below_ink
none-arrow s l r i none no_bar = rw none (rw no_bar refl)

-- and with a bar it shows that bar
bar-none : (s : Sheet) (l r i : ℕ) → slice_get (line_labels s.labels l) r ≡ None → bar_at s (arrow l r) i ≡ true → Shows s (arrow l r) i Vbar
unfolding column_ink turn_ink below_ink
bar-none s l r i none bar = rw none (rw bar refl)

module _ (s : Sheet) (i : ℕ) (a : LabelInfo) (m : IsGutterLabel s i a) where
  -- its column is not that of arrow heads, as it is the number of one of the gutter labels
  few : i < length (gutter_labels s.labels)
  few = slice_get_within (gutter_labels s.labels) i a m.owned

  -- no bar stands on its first row, as that row does not stand before itself
  first-no-bar : bar_at s (first_row s i a) i ≡ false
  first-no-bar = false_from_ne_true _ (λ on.
      true≢false (sym (bar-between s (first_row s i a) i a m.owned on).after ∙ before-irreflexive (first_row s i a)))

  -- where the margin label is of its number and no bar stands, it turns there as its side does
  margin-turns : (l : ℕ) (x : LineLabel) → bar_at s (source l) i ≡ false → margin_label s.labels l ≡ Some x → x.gutter_column ≡ i
      → Shows s (source l) i (margin_glyph x.side)
  margin-turns l x no_bar there same = leave-beside s l i x no_bar there few same

  -- ---- the two ends

  -- its first row has its head: there the margin label leaves the column, or the arrow of its start does
  pub shows-head : Shows s (first_row s i a) i Ltop
  unfolding is_inline margin_glyph turn_glyph
  shows-head = elim (starts-somewhere s i a m) [
    | inl h ↦
        let row = first-at-source s i a h in
        let no_bar = subst (λ x. bar_at s x i ≡ false) row first-no-bar in
        rw row (margin-turns a.start_line h.label no_bar h.there h.same_gutter_column ∙ ap margin_glyph h.same_side)
    | inr h ↦
        let x = h.1 in
        rw (first-at-arrow s i h.0 a x)
        (ap (λ ink. ink.first) (own-arrow s a.start_line h.0 i x.label x.there (ap is_inline x.same_side) x.same_gutter_column)
        ∙ ap turn_glyph x.same_side)
  ]

  -- its last row has its corner: there the arrow of its end enters the column
  pub shows-corner : Shows s (last_row s i a) i Lbot
  unfolding is_inline turn_glyph
  shows-corner =
      let h = ends-somewhere s i a m in
      let x = h.1 in
      rw (last-at-arrow s i h.0 a x)
      (ap (λ ink. ink.first) (own-arrow s a.end_line h.0 i x.label x.there (ap is_inline x.same_side) x.same_gutter_column)
      ∙ ap turn_glyph x.same_side)

  -- the arrow row of its start is its first row, and that of its end its last one
  own-row : (l r : ℕ) (x : LineLabel) → slice_get (line_labels s.labels l) r ≡ Some x → is_inline x.side ≡ false → x.gutter_column ≡ i
      → (first_row s i a ≡ arrow l r) ⊎ (last_row s i a ≡ arrow l r)
  unfolding is_inline
  own-row l r x e out same = go (all-at (IsHere s l) (line_labels s.labels l) r x e (labels-here s l))
    where
      info : slice_get (gutter_labels s.labels) x.gutter_column ≡ Some x.info → x.info ≡ a
      info owned = let mine = m.owned in cc

      there : {n : ℕ} → n ≡ l → slice_get (line_labels s.labels n) r ≡ Some x
      there line = cc

      go : IsHere s l x → (first_row s i a ≡ arrow l r) ⊎ (last_row s i a ≡ arrow l r)
      go (inl b) =
          let line : a.start_line ≡ l = ap (λ b. b.start_line) (sym (info b.owned)) ∙ b.line in
          inl (first-at-arrow s i r a (record { label = x; there = there line; same_side = b.side; same_gutter_column = same })
          ∙ ap (λ l. arrow l r) line)
      go (inr (inl b)) =
          let line : a.end_line ≡ l = ap (λ b. b.end_line) (sym (info b.owned)) ∙ b.line in
          inr (last-at-arrow s i r a (record { label = x; there = there line; same_side = b.side; same_gutter_column = same })
          ∙ ap (λ l. arrow l r) line)
      go (inr (inr b)) = absurd (true≢false (ap is_inline (sym b.side) ∙ out))

  -- ---- between them

  -- a row between them has its bar, but for its tee
  inside-bar : (x : Row) → IsInside s i a x → has_tee s a i x ≡ false → bar_at s x i ≡ true
  inside-bar x within tee = between-bar s x i a m.owned (record { after = within.below; until = within.above; no_tee = tee })

  -- neither of the two rows is between them, as neither stands before itself
  not-own-row : (x : Row) → IsInside s i a x → (first_row s i a ≡ x) ⊎ (last_row s i a ≡ x) → ⊥
  not-own-row x within (inl e) = true≢false (sym within.below ∙ ap (λ y. before y x) e ∙ before-irreflexive x)
  not-own-row x within (inr e) = true≢false (sym within.above ∙ ap (before x) e ∙ before-irreflexive x)

  -- no bar stands where its tee does
  tee-no-bar : (x : Row) → has_tee s a i x ≡ true → bar_at s x i ≡ false
  tee-no-bar x tee = false_from_ne_true _ (λ on. true≢false (sym tee ∙ (bar-between s x i a m.owned on).no_tee))

  -- beside a line it has its bar, or its tee where it ends as the margin label
  pub shows-beside-line : (l : ℕ) → IsInside s i a (source l) → Shows s (source l) i Vbar ⊎ Shows s (source l) i Lcross
  unfolding has_tee margin_glyph
  shows-beside-line l within = elim (cases_Bool (has_tee s a i (source l))) [
    | inl tee ↦
        let at = at-margin s l i a m.owned (and_parts (a.end_line == l) (is_at_margin s l i) tee).1 in
        let end : a.end_line ≡ l = eqb-true a.end_line l (and_parts (a.end_line == l) (is_at_margin s l i) tee).0 in
        let no_bar = tee-no-bar (source l) tee in
        let up = rises s i a m in
        elim at.is [
          | inl b ↦ let start = b.1 in absurd (omega arith)
          | inr b ↦ inr (margin-turns l at.label no_bar at.there at.owner ∙ ap margin_glyph b.0)
        ]
    | inr free ↦ inl (bar-beside s l i (inside-bar (source l) within free))
  ]

  -- in place of hidden lines it has its bar, broken, as no tee stands there
  pub shows-beside-hidden : (l : ℕ) → IsInside s i a (gap l) → Shows s (gap l) i VbarGap
  shows-beside-hidden l within = bar-gap s l i (inside-bar (gap l) within (no-tee-gap s i a m l))

  -- in an alternate row it has its bar, as no tee stands there
  pub shows-alternate : (l r : ℕ) → IsInside s i a (alternate l r) → Shows s (alternate l r) i Vbar
  shows-alternate l r within = bar-alternate s l r i (inside-bar (alternate l r) within (no-tee-alternate s i a m l r))

  -- in an arrow row it has its bar too, but the arrows of columns before its own cross it
  arrow-shows : (l r : ℕ) (o : Option LineLabel) → slice_get (line_labels s.labels l) r ≡ o → IsInside s i a (arrow l r)
      → Shows s (arrow l r) i Vbar ⊎ IsLevel (column_ink s (arrow l r) i).first
  arrow-shows l r None e within = inl (bar-none s l r i e (inside-bar (arrow l r) within (no-tee-arrow s i a m l r)))
  arrow-shows l r (Some x) e within = elim (cases_Bool (is_inline x.side)) [
    | inl inline ↦ inl (bar-arrow s l r i x e bar (inl inline))
    | inr out ↦ elim (cases_lt i x.gutter_column) [
      | inl more ↦ inl (bar-arrow s l r i x e bar (inr more))
      | inr least ↦ elim (cases_lt x.gutter_column i) [
        | inl less ↦ inr (behind-arrow s l r i x e out less).0
        | inr most ↦ absurd (not-own-row (arrow l r) within (own-row l r x e out (omega arith)))
      ]
    ]
  ]
    where
      bar : bar_at s (arrow l r) i ≡ true
      bar = inside-bar (arrow l r) within (no-tee-arrow s i a m l r)

  -- so whatever its line label is
  pub shows-arrow : (l r : ℕ) → IsInside s i a (arrow l r) → Shows s (arrow l r) i Vbar ⊎ Shows s (arrow l r) i Hbar ⊎ Shows s (arrow l r) i Xbar
  shows-arrow l r within = arrow-shows l r (slice_get (line_labels s.labels l) r) refl within

  -- ---- outside them

  -- a row outside has no bar, as bars stand between the two rows alone
  outside-no-bar : (x : Row) → IsOutside s i a x → bar_at s x i ≡ false
  outside-no-bar x out = false_from_ne_true _ (λ on.
      let b = bar-between s x i a m.owned on in
      elim out [ inl h ↦ not-both _ _ h b.after | inr h ↦ not-both _ _ h b.until ])

  -- the two rows are not outside, as the first stands before the last
  own-not-outside : (x : Row) → IsOutside s i a x → (first_row s i a ≡ x) ⊎ (last_row s i a ≡ x) → ⊥
  own-not-outside x (inl h) (inl e) = true≢false (sym h ∙ ap (before x) e ∙ before-irreflexive x)
  own-not-outside x (inr h) (inl e) = not-both _ _ (first-before-last s i a m) (rw e h)
  own-not-outside x (inl h) (inr e) = not-both _ _ (first-before-last s i a m) (rw e h)
  own-not-outside x (inr h) (inr e) = true≢false (sym h ∙ ap (λ y. before y x) e ∙ before-irreflexive x)

  -- the source row whose margin label it is stands from its first row to its last, so it is not outside
  margin-not-outside : (l : ℕ) (x : LineLabel) → IsOutside s i a (source l) → margin_label s.labels l ≡ Some x → x.gutter_column ≡ i → ⊥
  unfolding is_of_gutter_label
  margin-not-outside l x out there same =
      let at = at-margin s l i a m.owned (ap (λ o. is_of_gutter_label o i) there ∙ eq-eqb x.gutter_column i same) in
      let up = rises s i a m in
      let step = 2 * rank_at s is_end a.end_line i + 2 in
      elim out [
        | inl h ↦ elim (precedes-row l a.start_line 0 (first_step s i a) (source l) _ (source-row l) (first-is s i a) h) [
          | inl less ↦ elim at.is [ inl b ↦ let start = b.1 in omega arith | inr b ↦ let end = b.1 in omega arith ]
          | inr more ↦ elim at.is [
            | inl b ↦
                let later = more.1 in
                let none = first-at-margin s i a (rw b.1 (ap (λ o. is_of_gutter_label o i) there ∙ eq-eqb x.gutter_column i same)) in
                omega arith
            | inr b ↦ let end = b.1 in let line = more.0 in omega arith
          ]
        ]
        | inr h ↦ elim (precedes-row a.end_line l step 0 _ (source l) (last-is s i a) (source-row l) h) [
          | inl less ↦ elim at.is [ inl b ↦ let start = b.1 in omega arith | inr b ↦ let end = b.1 in omega arith ]
          | inr more ↦ let later = more.1 in omega arith
        ]
      ]

  -- so the source row outside is free
  outside-source : (l : ℕ) → IsOutside s i a (source l) → IsFree (column_ink s (source l) i)
  outside-source l out =
      free-beside s l i (margin_label s.labels l) refl (outside-no-bar (source l) out) few (λ x there same. margin-not-outside l x out there same)

  -- and so is the row in place of hidden lines, which stands where the source row would
  outside-gap : (l : ℕ) → IsOutside s i a (gap l) → IsFree (column_ink s (gap l) i)
  unfolding before row_key
  outside-gap l out =
      rw (gap-beside s l i (outside-no-bar (gap l) out) (outside-no-bar (source l) out)) (outside-source l out)

  -- the arrow row outside is none of its own, and so free
  outside-arrow : (l r : ℕ) (o : Option LineLabel) → slice_get (line_labels s.labels l) r ≡ o → IsOutside s i a (arrow l r)
      → IsFree (column_ink s (arrow l r) i)
  outside-arrow l r None e out = inl (none-arrow s l r i e (outside-no-bar (arrow l r) out))
  outside-arrow l r (Some x) e out =
      free-arrow s l r i x e (outside-no-bar (arrow l r) out) (λ off same. own-not-outside (arrow l r) out (own-row l r x e off same))

  -- so each row outside is blank or crossed; rows of no line have no strokes in the gutter
  pub shows-outside : (x : Row) → IsOutside s i a x → IsFree (column_ink s x i)
  unfolding column_ink
  shows-outside (source l) out = outside-source l out
  shows-outside (gap l) out = outside-gap l out
  shows-outside (alternate l r) out = inl (free-alternate s l r i (outside-no-bar (alternate l r) out))
  shows-outside (arrow l r) out = outside-arrow l r (slice_get (line_labels s.labels l) r) refl out
  shows-outside x out = inl refl

-- ---- the column of arrow heads

module _ (s : Sheet) where
  -- how many gutter labels there are, whose columns stand before it
  abbrev last : ℕ
  last = length (gutter_labels s.labels)

  -- its number is no gutter label's
  past : (l : ℕ) (x : LineLabel) → IsHere s l x → is_inline x.side ≡ false → x.gutter_column ≡ last → ⊥
  past l x h out same = let less = slice_get_within (gutter_labels s.labels) x.gutter_column x.info (turn-owned s l x h out) in omega arith

  -- so in an arrow row it is free
  last-arrow : (l r : ℕ) (o : Option LineLabel) → slice_get (line_labels s.labels l) r ≡ o → IsFree (column_ink s (arrow l r) last)
  last-arrow l r None e = inl (none-arrow s l r last e (no-bar-last s (arrow l r)))
  last-arrow l r (Some x) e =
      free-arrow s l r last x e (no-bar-last s (arrow l r)) (past l x (all-at (IsHere s l) (line_labels s.labels l) r x e (labels-here s l)))

  -- it has no bar: beside a line the arrow head may stand there, and elsewhere it is blank or level
  last-free : (x : Row) → IsFree (column_ink s x last) ⊎ Shows s x last Rarrow
  unfolding column_ink
  last-free (source l) = last-beside s l (margin_label s.labels l) refl
  last-free (gap l) = rw (gap-beside s l last (no-bar-last s (gap l)) (no-bar-last s (source l))) (last-beside s l (margin_label s.labels l) refl)
  last-free (alternate l r) = inl (inl (free-alternate s l r last (no-bar-last s (alternate l r))))
  last-free (arrow l r) = inl (last-arrow l r (slice_get (line_labels s.labels l) r) refl)
  last-free x = inl (inl refl)

  -- the same, case by case
  pub shows-last : (x : Row) → Shows s x last Blank ⊎ Shows s x last Hbar ⊎ Shows s x last Rarrow
  shows-last x = elim (last-free x) [
    | inl (inl blank) ↦ inl blank
    | inl (inr level) ↦ inr (inl level)
    | inr head ↦ inr (inr head)
  ]
