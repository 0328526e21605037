-- In the gutter no stroke stands that no gutter label has there: each ink of a gutter column is blank, a stroke of the column's own
-- label, or a horizontal or an arrow head of one in front of it.
use Rattle.std.proofs.Common.{◌≡◌, ℕ, List, ◌+◌, ◌<◌, ◌≤◌, Bool, true, false, not, ◌&&◌, ◌||◌, Option, Some, None, refl, sym, ap, ◌∙◌, subst}
use Rattle.std.proofs.Common.{arith, ◌==◌, nat_lt, inl, inr, ◌⊎◌, is_some}
use Rattle.std.specs.Prelude.{slice_get}
use Rattle.std.specs.List.{enumerate_from}
use Rattle.std.specs.Cmp.Derive.{both_true}
use Rattle.std.proofs.lemmas.Bool.{cases_Bool, cond_both, eq-eqb, eqb-true, le-leb, ltb-true, and_parts, true≢false, false≢true, false_from_ne_true}
use Rattle.std.proofs.Math.Bool.{and-false}
use Rattle.ariadne_picture.specs.declared.switches.CharSet.{CharSet}
use Rattle.ariadne_picture.specs.declared.switches.CharSet.TheVariants.{Unicode, Ascii}
use Rattle.ariadne_picture.specs.declared.label_info.LabelInfo.{LabelInfo}
use Rattle.ariadne_picture.specs.declared.label_info.LineLabel.{LineLabel}
use Rattle.ariadne_picture.specs.declared.cell.Glyph.{Glyph}
use Rattle.ariadne_picture.specs.declared.cell.Glyph.TheVariants.{Blank, Hbar, Vbar, Xbar, VbarGap, Rarrow, Ltop, Lbot, Lcross}
use Rattle.ariadne_picture.specs.declared.cell.Paint.{Paint}
use Rattle.ariadne_picture.specs.declared.cell.Paint.TheVariants.{Plain}
use Rattle.ariadne_picture.specs.declared.cell.Ink.{Ink}
use Rattle.ariadne_picture.specs.Bars.{IsGutterLabel}
use Rattle.ariadne_picture.specs.Ranks.{is_inline, gutter_labels, margin_label, is_of_gutter_label}
use Rattle.ariadne_picture.specs.Rows.{Row, source, alternate, arrow, gap}
use Rattle.ariadne_picture.specs.Strokes.{bar_at, is_at_margin}
use Rattle.ariadne_picture.specs.Cells.{glyph_code, ink, blanks, ink_of, margin_glyph, turn_glyph, margin_ink, beside_ink, below_ink, turn_ink, column_ink, gutter_label_paint}
use Rattle.ariadne_picture.specs.Pieces.{Piece, Section, column_size, gutter_len, glyph_text}
use Rattle.ariadne_picture.specs.Canvas.{Cell}
use Rattle.ariadne_picture.specs.Placing.Cells.{is_text, is_glyph}
use Rattle.ariadne_picture.specs.Placing.Group.{set_of, arrow_column}
use Rattle.ariadne_picture.specs.GutterCauses.{is_beside, has_gutter_level, has_gutter_arrow, is_own_gutter_stroke, is_gutter_stroke_of, has_gutter_cause}
use Rattle.ariadne_picture.specs.GutterCauses.{is_gutter_column_caused, has_no_other_gutter_strokes}
use Rattle.ariadne_picture.proofs.Labels.LineLabels.{margin-is}
use Rattle.ariadne_picture.proofs.Lists.Elements.{all-range, list_all-true, list_any-true, left-true, right-true}
use Rattle.ariadne_picture.proofs.Rows.BarCases.{bar-between, first-before-last, hidden-margin}
use Rattle.ariadne_picture.proofs.Rows.GutterLabelRows.{first-at-source}
use Rattle.ariadne_picture.proofs.Cells.RowCells.{ink-tail, column-at}
use Rattle.ariadne_picture.proofs.Cells.GutterStrokes.{turn-owned}
use Rattle.ariadne_picture.proofs.Cells.InkCells.{IsLevel, glyph_cell, ink_cell, shows-blank, shows-glyph, shows-level}
use Rattle.ariadne_picture.proofs.Reading.EndTraces.{its-message}
use Rattle.ariadne_picture.proofs.Reading.GutterCells.{gutter-cell}
use Rattle.ariadne_picture.proofs.Reading.GutterRows.{text-row, every-gutter-row}
use Rattle.ariadne_picture.proofs.Reading.GutterSpans.{IsSpan, span, own-place}
use Rattle.ariadne_picture.proofs.Reading.GutterFree.{margin-place}
use Rattle.ariadne_picture.proofs.Reading.HeadPlaces.{IsGutterLabelOf, gutter-label-lines, margin-line}
use Rattle.ariadne_picture.proofs.Reading.InOrder.{by-order, same-place}
use Rattle.ariadne_picture.proofs.Reading.MessagePlaces.{label-here}
use Rattle.ariadne_picture.proofs.Reading.Pictures.{Picture, RowAt, read, number, every-group, message_row, head_row, source_row, number-at}
use Rattle.ariadne_picture.proofs.Reading.RowNames.{IsName, named-arrow}
use Rattle.ariadne_picture.proofs.Reading.ShownLine.{numbered-at, IsShownLine, source-is, source-row-is}
use Rattle.ariadne_picture.proofs.Reading.TextRows.{IsTextRow, front-at}
use Rattle.ariadne_picture.proofs.Parts.{has_bar}

-- a broken bar, a head and a corner are no tee, in each character set
not-tee : (set : CharSet) (glyph : Glyph) → (glyph ≡ VbarGap) ⊎ (glyph ≡ Ltop) ⊎ (glyph ≡ Lbot)
    → is_text (glyph_text set glyph) (glyph_text set Lcross) ≡ false
unfolding glyph_text glyph_code lib.Utf8.encode
not-tee Unicode glyph (inl e) = rw e refl
not-tee Unicode glyph (inr (inl e)) = rw e refl
not-tee Unicode glyph (inr (inr e)) = rw e refl
not-tee Ascii glyph (inl e) = rw e refl
not-tee Ascii glyph (inr (inl e)) = rw e refl
not-tee Ascii glyph (inr (inr e)) = rw e refl

module _ (v : Picture) {g : ℕ} {s : Section} (e : slice_get v.sections g ≡ Some s) {k : ℕ} {x : Row} (is : RowAt v g s k x) where
  -- the number of the row
  abbrev n : ℕ
  n = number v g s x

  -- a cell of column j of the row is blank, or shows a gutter label's stroke
  abbrev caused : ℕ → Bool → Cell → Bool
  caused = read v has_gutter_cause g s n

  -- both cells of an ink are
  record IsCaused (j : ℕ) (it : Ink) : Type 0 where
    pub first : caused j true (ink_cell v s it) ≡ true
    pub rest : caused j false (glyph_cell v s it.rest it.rest_paint) ≡ true

  -- a blank is
  blank-caused : (j : ℕ) (is_first : Bool) (paint : Paint) → caused j is_first (glyph_cell v s Blank paint) ≡ true
  unfolding has_gutter_cause
  blank-caused j is_first paint = left-true _ _ (shows-blank v s Blank paint refl)

  blanks-caused : (j : ℕ) → IsCaused j blanks
  blanks-caused j = record { first = blank-caused j true Plain; rest = blank-caused j false Plain }

  module _ {i : ℕ} {a : LabelInfo} (o : IsGutterLabelOf v g s i a) where
    -- a stroke of a gutter label is a cause
    by-label : (j : ℕ) (is_first : Bool) (c : Cell) → read v is_gutter_stroke_of g s n j is_first c i a ≡ true → caused j is_first c ≡ true
    unfolding has_gutter_cause
    by-label j is_first c passes =
        right-true _ _ (list_any-true _ (enumerate_from 0 (gutter_labels s.sheet.labels)) i (i, a) (numbered-at _ i a o.owned) passes)

    -- a stroke of its own is
    own-caused : (c : Cell) → read v is_own_gutter_stroke g s i a n c ≡ true → caused i true c ≡ true
    unfolding is_gutter_stroke_of
    own-caused c own = by-label i true c (left-true _ _ (left-true _ _ (both_true (both_true refl (eq-eqb i i refl)) own)))

    -- in a row from its head to its message: no tee, a bar, or beside its end
    in-span : (h : IsSpan v g s i a) → h.from ≤ k → k ≤ h.to → (glyph : Glyph) (paint : Paint)
        → (not (is_glyph (set_of s) Lcross (glyph_cell v s glyph paint)) || is_glyph (set_of s) Vbar (glyph_cell v s glyph paint)
        || read v is_beside g s i a.end_line n) ≡ true → caused i true (glyph_cell v s glyph paint) ≡ true
    unfolding is_own_gutter_stroke
    in-span h low high glyph paint shown =
        let at = number-at v is in
        let head = h.head in
        let message = h.message in
        own-caused _ (both_true (both_true (le-leb (head_row v g i) n (omega (arith, low, at, head)))
        (le-leb n (message_row v a.position) (omega (arith, high, at, message)))) shown)

    -- so what is no tee is
    other-caused : (h : IsSpan v g s i a) → h.from ≤ k → k ≤ h.to → (glyph : Glyph) (paint : Paint)
        → (glyph ≡ VbarGap) ⊎ (glyph ≡ Ltop) ⊎ (glyph ≡ Lbot) → caused i true (glyph_cell v s glyph paint) ≡ true
    unfolding is_glyph
    other-caused h low high glyph paint shown =
        in-span h low high glyph paint (left-true _ _ (left-true _ _ (ap not (not-tee (set_of s) glyph shown))))

    -- its bar stands between the two rows
    bar-caused : bar_at s.sheet x i ≡ true → (glyph : Glyph) (paint : Paint) → (glyph ≡ Vbar) ⊎ (glyph ≡ VbarGap)
        → caused i true (glyph_cell v s glyph paint) ≡ true
    bar-caused bar glyph paint shown =
        let h = span v o in
        let b = bar-between s.sheet x i a o.owned bar in
        let low = by-order v h.top is b.after in
        let high = by-order v is h.foot b.until in
        elim shown [
          | inl z ↦ in-span h (omega arith) (omega arith) glyph paint (left-true _ _ (right-true _ _ (shows-glyph v s glyph paint z)))
          | inr z ↦ other-caused h (omega arith) (omega arith) glyph paint (inl z)
        ]

    -- where the row is one of its horizontals, each level cell from its column on is, up to its arrow head
    module _ (level : read v has_gutter_level g s i a n ≡ true) where
      at-level : (j : ℕ) (is_first : Bool) (glyph : Glyph) (paint : Paint) → i ≤ j → IsLevel glyph
          → ((j == arrow_column s) && read v has_gutter_arrow g s i a n) ≡ false → caused j is_first (glyph_cell v s glyph paint) ≡ true
      unfolding is_gutter_stroke_of
      at-level j is_first glyph paint more shown off =
          by-label j is_first _ (right-true _ _ (both_true (both_true (both_true (le-leb i j more) level) (shows-level v s glyph paint shown)) (ap not off)))

      -- so a level ink behind its column is
      level-caused : (j : ℕ) (glyph : Glyph) (b : LabelInfo) → i < j → IsLevel glyph
          → ((j == arrow_column s) && read v has_gutter_arrow g s i a n) ≡ false → IsCaused j (ink_of glyph Hbar b)
      level-caused j glyph b more shown off =
          record { first = at-level j true glyph _ (omega arith) shown off; rest = at-level j false Hbar _ (omega arith) (inl refl) off }

    -- its arrow head is, in the last column
    arrow-caused : read v has_gutter_arrow g s i a n ≡ true → (j : ℕ) → (j == arrow_column s) ≡ true → (paint : Paint)
        → caused j true (glyph_cell v s Rarrow paint) ≡ true
    unfolding is_gutter_stroke_of
    arrow-caused points j last paint =
        by-label j true _ (left-true _ _ (right-true _ _ (both_true refl (both_true last points))))

    -- as a gutter label of its sheet it ends no earlier than it starts
    label : IsGutterLabel s.sheet i a
    label = record { owned = o.owned; rises = (gutter-label-lines v o).1 }

    -- so its head stands above its corner
    head-above : (h : IsSpan v g s i a) → h.from < h.to
    head-above h = by-order v h.top h.foot (first-before-last s.sheet i a label)

    -- both have a horizontal
    head-level : (h : IsSpan v g s i a) → k ≡ h.from → read v has_gutter_level g s i a n ≡ true
    unfolding has_gutter_level
    head-level h same =
        let at = number-at v is in
        let head = h.head in
        left-true _ _ (left-true _ _ (eq-eqb n (head_row v g i) (omega (arith, at, head, same))))

    message-level : (h : IsSpan v g s i a) → k ≡ h.to → read v has_gutter_level g s i a n ≡ true
    unfolding has_gutter_level
    message-level h same =
        let at = number-at v is in
        let message = h.message in
        left-true _ _ (right-true _ _ (eq-eqb n (message_row v a.position) (omega (arith, at, message, same))))

  -- ---- a bar, or nothing

  -- a bar is that of a gutter label
  bar-owner : (j : ℕ) (found : Option LabelInfo) → slice_get (gutter_labels s.sheet.labels) j ≡ found → bar_at s.sheet x j ≡ true
      → (a : LabelInfo) × IsGutterLabelOf v g s j a
  unfolding bar_at
  bar-owner j None none bar = absurd (false≢true (ap (has_bar s.sheet j x) (sym none) ∙ bar))
  bar-owner j (Some a) there bar = (a, record { group = e; owned = there })

  bar-ink : (j : ℕ) (glyph : Glyph) → (glyph ≡ Vbar) ⊎ (glyph ≡ VbarGap) → bar_at s.sheet x j ≡ true
      → IsCaused j (ink glyph (gutter_label_paint s.sheet j) Blank Plain)
  bar-ink j glyph shown bar =
      let it = bar-owner j _ refl bar in
      record { first = bar-caused it.1 bar glyph _ shown; rest = blank-caused j false Plain }

  below-caused : (j : ℕ) → IsCaused j (below_ink s.sheet x j)
  unfolding below_ink
  below-caused j = elim (cases_Bool (bar_at s.sheet x j)) [
    | inl bar ↦ rw bar (bar-ink j Vbar (inl refl) bar)
    | inr none ↦ rw none (blanks-caused j)
  ]

module _ (v : Picture) {g : ℕ} {s : Section} (e : slice_get v.sections g ≡ Some s) {k : ℕ} where
  -- ---- beside a line

  module _ (l : ℕ) (is : RowAt v g s k (source l)) (name : IsName s.sheet (source l)) where
    -- a line that is shown stands beside itself
    beside : (i m : ℕ) → m ≡ l → is_at_margin s.sheet l i ≡ true → read v is_beside g s i m (number v g s (source l)) ≡ true
    beside i m same at =
        let shown : IsShownLine v g s l = record { group = e; low = name.0; high = name.1; seen = name.2 } in
        subst (λ m. read v is_beside g s i m (number v g s (source l)) ≡ true) (sym same)
        (both_true (eq-eqb (number v g s (source l)) (source_row v g l) (sym (source-is v shown))) at)

    -- the margin label has its head there or its tee, and both a horizontal and an arrow head
    record IsMargin (m : LineLabel) : Type 0 where
      pub owner : IsGutterLabelOf v g s m.gutter_column m.info
      pub level : read v has_gutter_level g s m.gutter_column m.info (number v g s (source l)) ≡ true
      pub points : read v has_gutter_arrow g s m.gutter_column m.info (number v g s (source l)) ≡ true
      pub own : (paint : Paint) → caused v e is m.gutter_column true (glyph_cell v s (margin_glyph m.side) paint) ≡ true

    margin-facts : (m : LineLabel) → margin_label s.sheet.labels l ≡ Some m → IsMargin m
    unfolding is_of_gutter_label has_gutter_level has_gutter_arrow margin_glyph
    margin-facts m there =
        let edge = margin-is s.sheet l m there in
        let o : IsGutterLabelOf v g s m.gutter_column m.info = record { group = e; owned = edge.owned } in
        let h = span v o in
        let at : is_at_margin s.sheet l m.gutter_column ≡ true =
        ap (λ o. is_of_gutter_label o m.gutter_column) there ∙ eq-eqb m.gutter_column m.gutter_column refl in
        elim edge.there [
          | inl b ↦
              let row =
              first-at-source s.sheet m.gutter_column m.info
              (record { label = m; there = ap (margin_label s.sheet.labels) b.1 ∙ there; same_side = b.0; same_gutter_column = refl }) ∙ ap source b.1 in
              let same : k ≡ h.from = same-place v is (rw row at h.top) in
              record {
                owner = o;
                level = head-level v e is o h same;
                points = left-true _ _ (beside m.gutter_column m.info.start_line b.1 at);
                own = λ paint.
                    let glyph : margin_glyph m.side ≡ Ltop = ap margin_glyph b.0 in
                    let above = head-above v e is o h in
                    other-caused v e is o h (omega arith) (omega arith) (margin_glyph m.side) paint (inr (inl glyph));
              }
          | inr b ↦
              let end = beside m.gutter_column m.info.end_line b.1 at in
              record {
                owner = o;
                level = right-true _ _ end;
                points = right-true _ _ end;
                own = λ paint.
                    let glyph : margin_glyph m.side ≡ Lcross = ap margin_glyph b.0 in
                    let low = margin-place v o h k l m is there refl in
                    in-span v e is o h low.0 low.1 (margin_glyph m.side) paint (right-true _ _ end);
              }
        ]

    -- so each column without a bar has what the margin label draws there
    margin-caused : (o : Option LineLabel) → margin_label s.sheet.labels l ≡ o → (j : ℕ) → IsCaused v e is j (margin_ink (arrow_column s) j o)
    unfolding margin_ink
    margin-caused None there j = blanks-caused v e is j
    margin-caused (Some m) there j =
        let facts = margin-facts m there in
        elim (cases_Bool (j == arrow_column s)) [
          | inl last ↦
              rw last (record { first = arrow-caused v e is facts.owner facts.points j last _; rest = blank-caused v e is j false _ })
          | inr inner ↦ elim (cases_Bool (m.gutter_column == j)) [
            | inl same ↦
                rw (inner, same) (subst (λ j. IsCaused v e is j (ink_of (margin_glyph m.side) Hbar m.info)) (eqb-true m.gutter_column j same)
                (record {
                  first = facts.own _;
                  rest =
                      at-level v e is facts.owner facts.level m.gutter_column false Hbar _ (omega arith) (inl refl)
                      (rw (eqb-true m.gutter_column j same, inner) refl);
                }))
            | inr other ↦ elim (cases_Bool (nat_lt m.gutter_column j)) [
              | inl less ↦
                  rw (inner, other, less)
                  (level-caused v e is facts.owner facts.level j Hbar m.info (ltb-true m.gutter_column j less) (inl refl) (rw inner refl))
              | inr least ↦ rw (inner, other, least) (blanks-caused v e is j)
            ]
          ]
        ]

    source-caused : (j : ℕ) → IsCaused v e is j (column_ink s.sheet (source l) j)
    unfolding column_ink beside_ink
    source-caused j = elim (cases_Bool (bar_at s.sheet (source l) j)) [
      | inl bar ↦ rw bar (bar-ink v e is j Vbar (inl refl) bar)
      | inr none ↦ rw none (margin-caused (margin_label s.sheet.labels l) refl j)
    ]

  -- in place of hidden lines no margin label is
  gap-caused : (l : ℕ) (is : RowAt v g s k (gap l)) → is_some (margin_label s.sheet.labels l) ≡ false → (j : ℕ)
      → IsCaused v e is j (column_ink s.sheet (gap l) j)
  unfolding column_ink beside_ink margin_ink
  gap-caused l is hidden j = elim (cases_Bool (bar_at s.sheet (gap l) j)) [
    | inl bar ↦ rw bar (bar-ink v e is j VbarGap (inr refl) bar)
    | inr none ↦ rw none (nothing (margin_label s.sheet.labels l) hidden)
  ]
    where
      nothing : (o : Option LineLabel) → is_some o ≡ false → IsCaused v e is j (margin_ink (arrow_column s) j o)
      nothing None none = blanks-caused v e is j
      nothing (Some m) none = absurd (true≢false none)

  -- ---- the arrow row of a line label

  module _ (l r : ℕ) (is : RowAt v g s k (arrow l r)) (name : IsName s.sheet (arrow l r)) where
    -- of a start or an end: its head's row or its message's
    module _ (out : is_inline name.label.side ≡ false) where
      i : ℕ
      i = name.label.gutter_column

      owner : IsGutterLabelOf v g s name.label.gutter_column name.label.info
      owner =
          record { group = e; owned = turn-owned s.sheet l name.label (label-here s.sheet l r name.label name.there) out }

      place : (k ≡ (span v owner).from) ⊎ (k ≡ (span v owner).to)
      place = own-place v owner (span v owner) (named-arrow v is name) is out refl

      level : read v has_gutter_level g s name.label.gutter_column name.label.info (number v g s (arrow l r)) ≡ true
      level = elim place [
        | inl at ↦ head-level v e is owner (span v owner) at
        | inr at ↦ message-level v e is owner (span v owner) at
      ]

      -- a row has one name
      same-row : {y z : Row} → RowAt v g s k y → RowAt v g s k z → y ≡ z
      same-row b c = let first = b.name in let second = c.name in cc

      -- it is no row beside a line
      not-beside : (m : ℕ) → (is_at_margin s.sheet m name.label.gutter_column ≡ true → IsShownLine v g s m)
          → read v is_beside g s name.label.gutter_column m (number v g s (arrow l r)) ≡ false
      not-beside m shown = false_from_ne_true _ (λ on.
          let both = and_parts (number v g s (arrow l r) == source_row v g m) (is_at_margin s.sheet m name.label.gutter_column) on in
          let line = shown both.1 in
          let same = eqb-true (number v g s (arrow l r)) (source_row v g m) both.0 in
          apart (source-row-is v line) (same ∙ source-is v line))
        where
          apart : {j : ℕ} → RowAt v g s j (source m) → number v g s (arrow l r) ≡ number v g s (source m) → ⊥
          apart {j} there same =
              let here = number-at v is in
              let source_at = number-at v there in
              let row : j ≡ k = omega arith in
              let clash : arrow l r ≡ source m = same-row is (subst (λ j. RowAt v g s j (source m)) row there) in
              cc

      -- so no arrow head of its label is in it
      no-arrow : read v has_gutter_arrow g s name.label.gutter_column name.label.info (number v g s (arrow l r)) ≡ false
      unfolding has_gutter_arrow
      no-arrow =
          rw (
            not-beside name.label.info.start_line (margin-line v owner),
            not-beside name.label.info.end_line (λ _. (its-message v owner).arrow_row.line),
          ) refl

      off-arrow : (j : ℕ) → ((j == arrow_column s)
          && read v has_gutter_arrow g s name.label.gutter_column name.label.info (number v g s (arrow l r))) ≡ false
      off-arrow j = rw no-arrow (and-false (j == arrow_column s))

      -- what its own column shows there: its head or its corner
      own : (paint : Paint) → caused v e is name.label.gutter_column true (glyph_cell v s (turn_glyph name.label.side) paint) ≡ true
      unfolding turn_glyph is_inline
      own paint =
          let h = span v owner in
          let above = head-above v e is owner h in
          let low : (h.from ≤ k) × (k ≤ h.to) = elim place [ inl at ↦ (omega arith, omega arith) | inr at ↦ (omega arith, omega arith) ] in
          elim (label-here s.sheet l r name.label name.there) [
            | inl b ↦ other-caused v e is owner h low.0 low.1 (turn_glyph name.label.side) paint (inr (inl (ap turn_glyph b.side)))
            | inr b ↦ elim b [
              | inl b ↦ other-caused v e is owner h low.0 low.1 (turn_glyph name.label.side) paint (inr (inr (ap turn_glyph b.side)))
              | inr b ↦ absurd (true≢false (ap is_inline (sym b.side) ∙ out))
            ]
          ]

    arrow-row-caused : (j : ℕ) → IsCaused v e is j (column_ink s.sheet (arrow l r) j)
    unfolding column_ink turn_ink
    arrow-row-caused j = elim (cases_Bool (is_inline name.label.side)) [
      | inl within ↦ rw name.there (rw within (below-caused v e is j))
      | inr out ↦ elim (cases_Bool (name.label.gutter_column == j)) [
        | inl same ↦
            rw name.there (rw (out, same)
            (subst (λ j. IsCaused v e is j (ink_of (turn_glyph name.label.side) Hbar name.label.info)) (eqb-true name.label.gutter_column j same)
            (record {
              first = own out _;
              rest = at-level v e is (owner out) (level out) name.label.gutter_column false Hbar _ (omega arith) (inl refl) (off-arrow out _);
            })))
        | inr other ↦ elim (cases_Bool (nat_lt name.label.gutter_column j)) [
          | inl less ↦
              let more = ltb-true name.label.gutter_column j less in
              rw name.there (rw (out, other, less)
              (cond_both (bar_at s.sheet (arrow l r) j && not s.sheet.switches.cross_gap) (ink_of Xbar Hbar name.label.info)
              (ink_of Hbar Hbar name.label.info) (IsCaused v e is j)
              (λ _. level-caused v e is (owner out) (level out) j Xbar name.label.info more (inr refl) (off-arrow out j))
              (λ _. level-caused v e is (owner out) (level out) j Hbar name.label.info more (inl refl) (off-arrow out j))))
          | inr least ↦ rw name.there (rw (out, other, least) (below-caused v e is j))
        ]
      ]
    ]

  -- ---- each row

  row-caused : (x : Row) (is : RowAt v g s k x) → IsName s.sheet x → (j : ℕ) → IsCaused v e is j (column_ink s.sheet x j)
  unfolding column_ink
  row-caused (source l) is name j = source-caused l is name j
  row-caused (gap l) is name j = gap-caused l is (hidden-margin s.sheet l name) j
  row-caused (alternate l r) is name j = below-caused v e is j
  row-caused (arrow l r) is name j = arrow-row-caused l r is name j
  row-caused x is name j = blanks-caused v e is j

  -- so are both cells of each column
  column-passes : (x : Row) {text : List Piece} (is : RowAt v g s k x) → IsName s.sheet x → IsTextRow v g s x text → (j : ℕ)
      → j < gutter_len s.sheet → read v is_gutter_column_caused g s (number v g s x) j ≡ true
  unfolding is_gutter_column_caused column_size
  column-passes x is name text j few =
      let c = row-caused x is name j in
      both_true (ap (caused v e is j true) (gutter-cell v text j few) ∙ c.first)
      (elim (cases_Bool s.sheet.switches.compact) [
        | inl tight ↦ left-true _ _ tight
        | inr loose ↦
            let small : 1 < column_size s.sheet.switches = rw loose (omega arith) in
            let second = ink-tail (set_of s) (column_ink s.sheet x j) (column_size s.sheet.switches) 0 small in
            right-true _ _ (ap (caused v e is j false) (front-at v text _ _ (read v column-at v.width s x j 1 _ few second)) ∙ c.rest)
      ])

-- every report's picture has no other strokes in the gutter
pub no-other-gutter-strokes : (v : Picture) → read v has_no_other_gutter_strokes ≡ true
unfolding has_no_other_gutter_strokes
no-other-gutter-strokes v =
    every-group v _ (λ g s e. list_all-true _ _ (every-gutter-row v g s _ e (λ k x is name on.
    list_all-true _ _ (all-range _ 0 (gutter_len s.sheet) (λ j less.
    let text = text-row v x is (omega arith) on in
    column-passes v e x is name text.1 (0 + j) (omega arith))))))
