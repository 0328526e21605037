-- Outside its bar a gutter label's column is blank or crossed, and the column of arrow heads has nothing else but these;
-- so all gutter bars are there.
use Rattle.std.proofs.Common.{◌≡◌, ℕ, ◌+◌, ◌*◌, ◌<◌, ◌≤◌, Bool, true, false, ◌&&◌, ◌||◌, Some, refl, sym, ap, ◌∙◌, arith, ◌==◌, inl, inr, ◌⊎◌}
use Rattle.std.specs.Prelude.{slice_get, nat_le}
use Rattle.std.specs.Cmp.Derive.{both_true}
use Rattle.std.proofs.lemmas.Bool.{cases_Bool, cases_lt, eq-eqb, le-leb, true≢false}
use Rattle.std.proofs.lemmas.Option.{slice_get_within}
use Rattle.ariadne_picture.specs.declared.label_info.LabelInfo.{LabelInfo}
use Rattle.ariadne_picture.specs.declared.label_info.LineLabel.{LineLabel}
use Rattle.ariadne_picture.specs.declared.cell.Glyph.TheVariants.{Hbar, Rarrow}
use Rattle.ariadne_picture.specs.declared.cell.Ink.{Ink}
use Rattle.ariadne_picture.specs.Bars.{IsGutterLabel}
use Rattle.ariadne_picture.specs.Ranks.{is_inline, gutter_labels, margin_label, is_of_gutter_label, is_end}
use Rattle.ariadne_picture.specs.Rows.{Row, source, alternate, arrow, gap}
use Rattle.ariadne_picture.specs.Strokes.{bar_at, rank_at}
use Rattle.ariadne_picture.specs.Cells.{column_ink}
use Rattle.ariadne_picture.specs.Pieces.{Section, gutter_len}
use Rattle.ariadne_picture.specs.Placing.Cells.{is_blank, is_glyph}
use Rattle.ariadne_picture.specs.Placing.Group.{set_of, arrow_column}
use Rattle.ariadne_picture.specs.Placing.Rows.{gutter_cell}
use Rattle.ariadne_picture.specs.Placing.GutterBars.{is_column_traced, is_last_column_free, has_gutter_bars}
use Rattle.ariadne_picture.proofs.Labels.LabelsAtLine.{IsHere}
use Rattle.ariadne_picture.proofs.Lists.Elements.{all-numbered, list_all-true, left-true, right-true}
use Rattle.ariadne_picture.proofs.Rows.BarCases.{at-margin, source-row, first-is, first_step, last-is, row-precedes, hidden-margin, first-before-last}
use Rattle.ariadne_picture.proofs.Rows.BarCases.{rises}
use Rattle.ariadne_picture.proofs.Rows.GutterLabelRows.{first-at-source}
use Rattle.ariadne_picture.proofs.Reading.GutterBars.{stroke-passes}
use Rattle.ariadne_picture.proofs.Reading.GutterRows.{has_gutter, text-row, every-gutter-row}
use Rattle.ariadne_picture.proofs.Reading.GutterSpans.{IsSpan, span, bar-outside, own-place}
use Rattle.ariadne_picture.proofs.Reading.MessagePlaces.{label-here}
use Rattle.ariadne_picture.proofs.Reading.Pictures.{rows_of, Picture, RowAt, read, number, every-group, message_row, head_row, number-at}
use Rattle.ariadne_picture.proofs.Reading.GutterCells.{gutter-cell, few, column-few}
use Rattle.ariadne_picture.proofs.Cells.GutterInks.{IsFree, no-bar-last, free-beside, last-beside, free-gap, free-alternate, free-arrow}
use Rattle.ariadne_picture.proofs.Reading.HeadPlaces.{IsGutterLabelOf, gutter-label-lines}
use Rattle.ariadne_picture.proofs.Cells.InkCells.{ink_cell, shows-blank, shows-glyph}
use Rattle.ariadne_picture.proofs.Reading.InOrder.{by-order, same-place}
use Rattle.ariadne_picture.proofs.Reading.PlaceCounts.{ArePlaced}
use Rattle.ariadne_picture.proofs.Reading.RowNames.{IsName, named-arrow}

module _ (v : Picture) where
  -- a free ink is a blank or a horizontal
  free-shown : (s : Section) (b : Bool) (ink : Ink) → IsFree ink
      → (b || is_blank (ink_cell v s ink) || is_glyph (set_of s) Hbar (ink_cell v s ink)) ≡ true
  free-shown s b ink (inl e) = left-true _ _ (right-true b _ (shows-blank v s _ ink.first_paint e))
  free-shown s b ink (inr e) = right-true _ _ (shows-glyph v s _ _ e)

  -- ---- a gutter label's column outside its bar

  module _ {g : ℕ} {s : Section} {i : ℕ} {a : LabelInfo} (o : IsGutterLabelOf v g s i a) (h : IsSpan v g s i a) where
    -- as a gutter label of its sheet it ends no earlier than it starts
    label : IsGutterLabel s.sheet i a
    label = record { owned = o.owned; rises = (gutter-label-lines v o).1 }

    -- its head stands above its corner
    head-above : h.from < h.to
    head-above = by-order v h.top h.foot (first-before-last s.sheet i a label)

    -- a source row whose margin label it is stands from its head to its corner
    pub margin-place : (k l : ℕ) (m : LineLabel) → RowAt v g s k (source l) → margin_label s.sheet.labels l ≡ Some m → m.gutter_column ≡ i
        → (h.from ≤ k) × (k ≤ h.to)
    unfolding is_of_gutter_label
    margin-place k l m is there same =
        let q = at-margin s.sheet l i a o.owned (ap (λ o. is_of_gutter_label o i) there ∙ eq-eqb m.gutter_column i same) in
        let less = rises s.sheet i a label in
        let above = head-above in
        elim q.is [
          | inl b ↦
              let row = first-at-source s.sheet i a
              (record { label = q.label; there = ap (margin_label s.sheet.labels) b.1 ∙ q.there; same_side = b.0; same_gutter_column = q.owner })
              ∙ ap source b.1 in
              let z = same-place v is (rw row at h.top) in
              (omega arith, omega arith)
          | inr b ↦
              let line = b.1 in
              let step = 2 * rank_at s.sheet is_end a.end_line i + 2 in
              let below = row-precedes a.start_line l (first_step s.sheet i a) 0 _ _ (first-is s.sheet i a) (source-row l) (inl (omega arith)) in
              let low = by-order v h.top is below in
              let above = row-precedes l a.end_line 0 step _ _ (source-row l) (last-is s.sheet i a) (inr (sym line, omega arith)) in
              let high = by-order v is h.foot above in
              (omega arith, omega arith)
        ]

    module _ (k : ℕ) (out : (k < h.from) ⊎ (h.to < k)) where
      -- its bar stands between the two alone
      no-bar : (x : Row) → RowAt v g s k x → bar_at s.sheet x i ≡ false
      no-bar x is = bar-outside v o h x is (elim out [ inl z ↦ inl (omega arith) | inr z ↦ inr (omega arith) ])

      -- the two and the rows between are not outside
      outer : (h.from ≤ k) × (k ≤ h.to) → ⊥
      outer b = let low = b.0 in let high = b.1 in elim out [ inl z ↦ omega arith | inr z ↦ omega arith ]

      -- outside it has no bar and no stroke of its own
      outside-free : (x : Row) → RowAt v g s k x → IsName s.sheet x → IsFree (column_ink s.sheet x i)
      unfolding column_ink
      outside-free (source l) is name =
          free-beside s.sheet l i (margin_label s.sheet.labels l) refl (no-bar (source l) is) (few o)
          (λ m there same. outer (margin-place k l m is there same))
      outside-free (gap l) is name = inl (free-gap s.sheet l i (margin_label s.sheet.labels l) refl (hidden-margin s.sheet l name) (no-bar (gap l) is))
      outside-free (alternate l r) is name = inl (free-alternate s.sheet l r i (no-bar (alternate l r) is))
      outside-free (arrow l r) is name =
          free-arrow s.sheet l r i name.label name.there (no-bar (arrow l r) is) (λ off same.
          let above = head-above in
          elim (own-place v o h (named-arrow v is name) is off same) [
            | inl z ↦ outer (omega arith, omega arith)
            | inr z ↦ outer (omega arith, omega arith)
          ])
      outside-free x is name = inl refl

    -- what is asked of row n
    abbrev free_test : ℕ → Bool
    free_test n =
        let c = gutter_cell (rows_of v) s n i in
        (nat_le (head_row v g i) n && nat_le n (message_row v a.position)) || is_blank c || is_glyph (set_of s) Hbar c

    -- so each row with gutter cells is one of its bar, or free
    column-passes : (k : ℕ) (x : Row) → RowAt v g s k x → IsName s.sheet x → has_gutter v s (number v g s x) ≡ true
        → free_test (number v g s x) ≡ true
    column-passes k x is name on = elim (cases_lt k h.from) [
      | inl below ↦ free (inl below)
      | inr low ↦ elim (cases_lt h.to k) [
        | inl above ↦ free (inr above)
        | inr high ↦
            let at = number-at v is in
            let head = h.head in
            let message = h.message in
            left-true _ _ (left-true _ _ (both_true (le-leb (head_row v g i) _ (omega (arith, at)))
            (le-leb _ (message_row v a.position) (omega (arith, at)))))
      ]
    ]
      where
        free : (k < h.from) ⊎ (h.to < k) → free_test (number v g s x) ≡ true
        free out =
            let columns = column-few o in
            let text = text-row v x is (omega arith) on in
            rw (gutter-cell v text.1 i columns) (free-shown s _ (column_ink s.sheet x i) (outside-free k out x is name))

  -- ---- the column of arrow heads

  -- it has no bar and is no gutter label's own, so that it is free but for arrow heads
  last-ink : {g : ℕ} {s : Section} {k : ℕ} (x : Row) → RowAt v g s k x → IsName s.sheet x
      → IsFree (column_ink s.sheet x (arrow_column s)) ⊎ ((column_ink s.sheet x (arrow_column s)).first ≡ Rarrow)
  unfolding column_ink is_inline
  last-ink {s = s} (source l) is name = last-beside s.sheet l (margin_label s.sheet.labels l) refl
  last-ink {s = s} (gap l) is name =
      inl (inl (free-gap s.sheet l _ (margin_label s.sheet.labels l) refl (hidden-margin s.sheet l name) (no-bar-last s.sheet (gap l))))
  last-ink {s = s} (alternate l r) is name = inl (inl (free-alternate s.sheet l r _ (no-bar-last s.sheet (alternate l r))))
  last-ink {s = s} (arrow l r) is name =
      inl (free-arrow s.sheet l r _ name.label name.there (no-bar-last s.sheet (arrow l r)) (owner (label-here s.sheet l r name.label name.there)))
    where
      past : (b : LabelInfo) → slice_get (gutter_labels s.sheet.labels) name.label.gutter_column ≡ Some b → name.label.gutter_column ≡ arrow_column s → ⊥
      past b owned same = let less = slice_get_within (gutter_labels s.sheet.labels) name.label.gutter_column b owned in omega arith

      owner : IsHere s.sheet l name.label → is_inline name.label.side ≡ false → name.label.gutter_column ≡ arrow_column s → ⊥
      owner (inl h) off same = past _ h.owned same
      owner (inr (inl h)) off same = past _ h.owned same
      owner (inr (inr h)) off same = true≢false (ap is_inline (sym h.side) ∙ off)
  last-ink x is name = inl (inl refl)

  -- so each row with gutter cells has a blank, a horizontal or an arrow head there
  last-free : (g : ℕ) (s : Section) → slice_get v.sections g ≡ Some s → read v is_last_column_free g s ≡ true
  unfolding is_last_column_free gutter_len
  last-free g s e = elim (cases_Bool (arrow_column s == 0)) [
    | inl none ↦ left-true _ _ none
    | inr some ↦
        let wide : arrow_column s < gutter_len s.sheet = rw some (omega arith) in
        right-true _ _ (list_all-true _ _ (every-gutter-row v g s _ e (λ k x is name on.
        let text = text-row v x is (omega arith) on in
        rw (gutter-cell v text.1 (arrow_column s) wide) (shows (column_ink s.sheet x (arrow_column s)) (last-ink x is name)))))
  ]
    where
      shows : (ink : Ink) → IsFree ink ⊎ (ink.first ≡ Rarrow)
          → (is_blank (ink_cell v s ink) || is_glyph (set_of s) Hbar (ink_cell v s ink) || is_glyph (set_of s) Rarrow (ink_cell v s ink)) ≡ true
      shows ink (inl (inl z)) = left-true _ _ (left-true _ _ (shows-blank v s _ ink.first_paint z))
      shows ink (inl (inr z)) = left-true _ _ (right-true _ _ (shows-glyph v s _ _ z))
      shows ink (inr z) = right-true _ _ (shows-glyph v s _ _ z)

-- every report's picture has its gutter bars
pub gutter-bars : (v : Picture) → ArePlaced v → read v has_gutter_bars ≡ true
unfolding has_gutter_bars is_column_traced
gutter-bars v placed =
    every-group v _ (λ g s e. both_true
    (list_all-true _ _ (all-numbered _ _ (λ i a owned.
    let o : IsGutterLabelOf v g s i a = record { group = e; owned = owned } in
    let h = span v o in
    both_true (stroke-passes v o placed h) (list_all-true _ _ (every-gutter-row v g s _ e (column-passes v o h))))))
    (last-free v g s e))
