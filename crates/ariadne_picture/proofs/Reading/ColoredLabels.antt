-- The strokes of each label have its colour: those of its own rows, its bars, and its verticals where no other is seen.
use Rattle.std.proofs.Common.{◌≡◌, ℕ, ◌+◌, ◌<◌, ◌≤◌, Bool, true, false, not, ◌&&◌, ◌||◌, length}
use Rattle.std.proofs.Common.{Option, Some, None, refl, ap, ◌∙◌, subst, arith, ◌==◌, inl, inr, ◌⊎◌}
use Rattle.std.specs.Prelude.{slice_get, unwrap_or, option_map}
use Rattle.std.specs.List.{AllByRecursion}
use Rattle.std.specs.Cmp.Derive.{both_true}
use Rattle.std.proofs.lemmas.Bool.{cases_Bool, cases_lt, eq-eqb, eqb-true, ne_eqb, lt-ltb, le-ltb, le-leb}
use Rattle.ariadne_picture.specs.declared.switches.CharSet.{CharSet}
use Rattle.ariadne_picture.specs.declared.switches.CharSet.TheVariants.{Unicode, Ascii}
use Rattle.ariadne_picture.specs.declared.label_info.LabelInfo.{LabelInfo}
use Rattle.ariadne_picture.specs.declared.label_info.LineLabel.{LineLabel}
use Rattle.ariadne_picture.specs.declared.cell.Glyph.{Glyph}
use Rattle.ariadne_picture.specs.declared.cell.Glyph.TheVariants.{Blank, Hbar, Vbar, Xbar, VbarGap, Rarrow}
use Rattle.ariadne_picture.specs.declared.cell.Ink.{Ink}
use Rattle.ariadne_picture.specs.declared.cell.Paint.{Paint}
use Rattle.ariadne_picture.specs.declared.cell.Paint.TheVariants.{Plain}
use Rattle.ariadne_picture.specs.Ranks.{Sheet, is_inline, is_on_one_line, is_margin, margin_label, gutter_labels, line_labels}
use Rattle.ariadne_picture.specs.Rows.{Row, source, alternate, arrow, gap}
use Rattle.ariadne_picture.specs.Columns.{layout_of}
use Rattle.ariadne_picture.specs.Strokes.{is_crossed, is_at_margin, bar_at}
use Rattle.ariadne_picture.specs.Cells.{glyph_code, ink, paint_of, gutter_label_paint, margin_ink, beside_ink, below_ink, turn_ink, column_ink}
use Rattle.ariadne_picture.specs.Pieces.{Section, glyph_text}
use Rattle.ariadne_picture.specs.Placing.Cells.{is_text, is_blank, is_glyph, is_level}
use Rattle.ariadne_picture.specs.Placing.Group.{set_of, column_cell}
use Rattle.ariadne_picture.specs.Placing.Rows.{cell_at, gutter_cell}
use Rattle.ariadne_picture.specs.Placing.GutterBars.{gutter_rows}
use Rattle.ariadne_picture.specs.LabelColors.{is_steep, is_pointer, all_gutter_cells, all_place_cells, has_color, is_vertical_colored, is_inline_colored}
use Rattle.ariadne_picture.specs.LabelColors.{is_end_colored, is_start_colored, is_pointer_colored, is_bar_colored, is_gutter_label_colored, has_label_colors}
use Rattle.ariadne_picture.proofs.Lists.ListFacts.{all-at}
use Rattle.ariadne_picture.proofs.Lists.Elements.{all-numbered, list_all-true, left-true, right-true}
use Rattle.ariadne_picture.proofs.Labels.LabelsAtLine.{IsHere, labels-here}
use Rattle.ariadne_picture.proofs.Rows.BarCases.{at-margin, at-margin-label}
use Rattle.ariadne_picture.proofs.Cells.GutterStrokes.{turn-owned}
use Rattle.ariadne_picture.proofs.Cells.GutterInks.{no-bar-beside, own-arrow, behind-arrow}
use Rattle.ariadne_picture.proofs.Cells.InkCells.{IsLevel, glyph_cell, ink_cell, shows-blank, shows-level}
use Rattle.ariadne_picture.proofs.Reading.ColoredStrokes.{IsInkOf, color_at, colored-cell, places-colored, gutter-cells, columns-colored}
use Rattle.ariadne_picture.proofs.Reading.ColoredStrokes.{arrow-own, turn-own, vertical-colored}
use Rattle.ariadne_picture.proofs.Reading.EndTraces.{its-message, its-end, its-margin}
use Rattle.ariadne_picture.proofs.Reading.GutterCells.{gutter-cell, few, column-few}
use Rattle.ariadne_picture.proofs.Reading.GutterRows.{text-row, every-gutter-row}
use Rattle.ariadne_picture.proofs.Reading.HeadPlaces.{IsGutterLabelOf, head-place}
use Rattle.ariadne_picture.proofs.Reading.InlineTraces.{inline-off, shows-inline}
use Rattle.ariadne_picture.proofs.Reading.MessagePlaces.{IsMessage, message-place, every-message}
use Rattle.ariadne_picture.proofs.Reading.PlaceCounts.{ArePlaced, column-place}
use Rattle.ariadne_picture.proofs.Reading.Pictures.{rows_of, Picture, placing_of, read, number, head_row, every-group}
use Rattle.ariadne_picture.proofs.Reading.RowNames.{IsName}
use Rattle.ariadne_picture.proofs.Reading.ShownLine.{IsShownLine, arrow-at, source-is, source-row-is, places_of, places-are, every-line}
use Rattle.ariadne_picture.proofs.Reading.TextRows.{arrow_inks, arrow-text, source-text}

-- ---- what the gutter shows

-- neither a bar nor a blank is a horizontal or an arrow head
no-pointer : (set : CharSet) (glyph : Glyph) → (glyph ≡ Vbar) ⊎ (glyph ≡ Blank)
    → ((is_text (glyph_text set glyph) (glyph_text set Hbar) || is_text (glyph_text set glyph) (glyph_text set Xbar))
    || is_text (glyph_text set glyph) (glyph_text set Rarrow)) ≡ false
unfolding glyph_text glyph_code lib.Utf8.encode
no-pointer Unicode glyph (inl e) = rw e refl
no-pointer Ascii glyph (inl e) = rw e refl
no-pointer Unicode glyph (inr e) = rw e refl
no-pointer Ascii glyph (inr e) = rw e refl

-- the stroke of a margin label is its own, from its column on
margin-own : (n j : ℕ) (m : LineLabel) → m.gutter_column ≤ j → IsInkOf m.info (margin_ink n j (Some m))
unfolding margin_ink
margin-own n j m more = elim (cases_Bool (j == n)) [
  | inl last ↦ rw last (refl, refl)
  | inr off ↦ elim (cases_lt m.gutter_column j) [
    | inl less ↦ rw (off, ne_eqb m.gutter_column j (λ z. omega arith), lt-ltb m.gutter_column j less) (refl, refl)
    | inr least ↦ rw (off, eq-eqb m.gutter_column j (omega arith)) (refl, refl)
  ]
]

-- an ink that shows a bar alone, or one of label a
abbrev IsBarOrOf : LabelInfo → Ink → Type 0
IsBarOrOf a ink = ((ink.first ≡ Vbar) × (ink.rest ≡ Blank)) ⊎ IsInkOf a ink

-- a blank, a level, or a stroke of label a
abbrev IsSteepOf : LabelInfo → Ink → Type 0
IsSteepOf a ink = (ink.first ≡ Blank) ⊎ (IsLevel ink.first ⊎ (ink.first_paint ≡ paint_of a))

module _ (s : Sheet) (i : ℕ) (a : LabelInfo) (owned : slice_get (gutter_labels s.labels) i ≡ Some a) (few : i < length (gutter_labels s.labels)) where
  -- beside a line whose margin label it is
  margin-beside : (l j : ℕ) → is_at_margin s l i ≡ true → i ≤ j → IsBarOrOf a (column_ink s (source l) j)
  unfolding column_ink beside_ink
  margin-beside l j at more =
      let m = at-margin s l i a owned at in
      let owner = m.owner in
      elim (cases_Bool (bar_at s (source l) j)) [
        | inl bar ↦ inl (rw bar (refl, refl))
        | inr no_bar ↦
            inr (rw (no-bar-beside s l j m.label no_bar m.there)
            (subst (λ b. IsInkOf b (margin_ink (length (gutter_labels s.labels)) j (Some m.label))) m.info (margin-own _ j m.label (omega arith))))
      ]

  -- its bars have its paint
  own-paint : gutter_label_paint s i ≡ paint_of a
  unfolding gutter_label_paint
  own-paint = ap (λ o. unwrap_or (option_map paint_of o) Plain) owned

  below-steep : (x : Row) → IsSteepOf a (below_ink s x i)
  unfolding below_ink
  below-steep x = elim (cases_Bool (bar_at s x i)) [ inl bar ↦ inr (inr (rw bar own-paint)) | inr none ↦ inl (rw none refl) ]

  margin-steep : (l : ℕ) (m : Option LineLabel) → margin_label s.labels l ≡ m → IsSteepOf a (margin_ink (length (gutter_labels s.labels)) i m)
  unfolding margin_ink Rattle.ariadne_picture.specs.Ranks.is_of_gutter_label
  margin-steep l None e = inl refl
  margin-steep l (Some m) e =
      let off = ne_eqb i (length (gutter_labels s.labels)) (λ z. omega arith) in
      elim (cases_lt m.gutter_column i) [
        | inl less ↦ rw (off, ne_eqb m.gutter_column i (λ z. omega arith), lt-ltb m.gutter_column i less) (inr (inl (inl refl)))
        | inr least ↦ elim (cases_lt i m.gutter_column) [
          | inl more ↦ rw (off, ne_eqb m.gutter_column i (λ z. omega arith), le-ltb m.gutter_column i (omega arith)) (inl refl)
          | inr most ↦
              let same = eq-eqb m.gutter_column i (omega arith) in
              let t = at-margin-label s l i a owned (Some m) e same in
              let there = t.there in
              let info = t.info in
              let mine : m.info ≡ a = cc in
              rw (off, same) (inr (inr (ap paint_of mine)))
        ]
      ]

  beside-steep : (x : Row) (l : ℕ) (bar : Glyph) → IsSteepOf a (beside_ink s x l i bar)
  unfolding beside_ink
  beside-steep x l bar = elim (cases_Bool (bar_at s x i)) [
    | inl on ↦ rw on (inr (inr own-paint))
    | inr none ↦ rw none (margin-steep l (margin_label s.labels l) refl)
  ]

  arrow-steep : (l r : ℕ) (q : LineLabel) → slice_get (line_labels s.labels l) r ≡ Some q → IsSteepOf a (column_ink s (arrow l r) i)
  unfolding column_ink turn_ink
  arrow-steep l r q e = elim (cases_Bool (is_inline q.side)) [
    | inl within ↦ rw (e, within) (below-steep (arrow l r))
    | inr out ↦ elim (cases_lt q.gutter_column i) [
      | inl less ↦ inr (inl (behind-arrow s l r i q e out less).0)
      | inr least ↦ elim (cases_lt i q.gutter_column) [
        | inl more ↦
            rw e (rw (out, ne_eqb q.gutter_column i (λ z. omega arith), le-ltb q.gutter_column i (omega arith)) (below-steep (arrow l r)))
        | inr most ↦
            let same : q.gutter_column ≡ i = omega arith in
            let its = turn-owned s l q (all-at (IsHere s l) (line_labels s.labels l) r q e (labels-here s l)) out in
            let mine : q.info ≡ a = cc in
            rw (own-arrow s l r i q e out same) (inr (inr (ap paint_of mine)))
      ]
    ]
  ]

  row-steep : (x : Row) → IsName s x → IsSteepOf a (column_ink s x i)
  unfolding column_ink
  row-steep (source l) name = beside-steep (source l) l Vbar
  row-steep (gap l) name = beside-steep (gap l) l VbarGap
  row-steep (alternate l r) name = below-steep (alternate l r)
  row-steep (arrow l r) name = arrow-steep l r name.label name.there
  row-steep x name = inl refl

module _ (v : Picture) (placed : ArePlaced v) where
  -- ---- a label within one line

  -- what is asked of its vertical at place k and of row n, below line l
  abbrev inline_test : ℕ → Section → LabelInfo → ℕ → ℕ → ℕ → Bool
  inline_test g s a l k n =
      read v is_vertical_colored (color_at v) g s l a k n
      && all_place_cells s l k ((placing_of v).places g l) (read v has_color (color_at v) a n)

  inline-colored : (g : ℕ) (s : Section) (a : LabelInfo) → IsMessage v g s a → is_on_one_line a ≡ true
      → read v is_inline_colored (color_at v) g s a ≡ true
  unfolding is_inline_colored is_on_one_line is_crossed
  inline-colored g s a m one =
      let h = message-place v m in
      let l = a.end_line in
      let x = h.label in
      let q = h.arrow_row in
      let k = shows-inline v placed one h in
      let off = inline-off (layout_of s.sheet l).margin x k.side in
      let line : a.start_line ≡ l = eqb-true a.start_line l one in
      let column : a.attach ≡ x.place = cc in
      let few : x.place < places_of s l = column-place s.sheet (placed g s m.group) l h.rank x q.there (inr (inr k)) in
      let places = places-are v q.line in
      (λ i. inline_test g s a (line i) (column i) (h.row i)) ∙ both_true
      (subst (λ b. read v is_vertical_colored (color_at v) g s l b x.place (number v g s (arrow l h.rank)) ≡ true) h.shows.info (vertical-colored v q off few))
      (places-colored v l (arrow_inks s l h.rank) _ (arrow-text v (arrow-at v q)) a x.place ((placing_of v).places g l) (omega (arith, places))
      (λ c low high. subst (λ b. IsInkOf b (arrow_inks s l h.rank c)) h.shows.info (arrow-own v q c (elim (cases_lt x.place c) [
        | inl less ↦ inr (ap (λ side. is_crossed side x.place c) k.side ∙ lt-ltb x.place c less)
        | inr least ↦ inl (both_true (eq-eqb x.place c (omega arith)) (ap not off))
      ]))))

  -- ---- a gutter label

  module _ {g : ℕ} {s : Section} {i : ℕ} {a : LabelInfo} (o : IsGutterLabelOf v g s i a) where
    -- what is asked of the vertical at place k, if there is one, and of row n
    abbrev end_test : ℕ → ℕ → Bool
    end_test k n =
        all_gutter_cells s i (read v has_color (color_at v) a n)
        && all_place_cells s a.end_line 0 ((placing_of v).places g a.end_line) (read v has_color (color_at v) a n)
        && (is_at_margin s.sheet a.end_line i || read v is_vertical_colored (color_at v) g s a.end_line a k n)

    end-colored : read v is_end_colored (color_at v) g s i a ≡ true
    unfolding is_end_colored is_inline is_crossed layout_of
    end-colored =
        let h = its-message v o in
        let k = its-end v o h in
        let own = k.1 in
        let l = a.end_line in
        let x = h.label in
        let q = h.arrow_row in
        let out : is_inline x.side ≡ false = ap is_inline k.0.side in
        let column : a.end_place ≡ x.place = cc in
        let in_range : x.place < places_of s l = column-place s.sheet (placed g s o.group) l h.rank x q.there (inr (inl k.0)) in
        let places = places-are v q.line in
        let margin : is_margin (margin_label s.sheet.labels l) x ≡ is_at_margin s.sheet l i = its-margin v o l x out k.1 in
        let text = arrow-text v (arrow-at v q) in
        (λ j. end_test (column j) (h.row j)) ∙ both_true (both_true
        (columns-colored v text i a (λ j low. subst (λ b. IsInkOf b (column_ink s.sheet (arrow l h.rank) j)) h.shows.info (turn-own v q out j (omega arith))))
        (places-colored v l (arrow_inks s l h.rank) _ text a 0 ((placing_of v).places g l) (omega (arith, places))
        (λ c low high. subst (λ b. IsInkOf b (arrow_inks s l h.rank c)) h.shows.info
        (arrow-own v q c (inr (ap (λ side. is_crossed side x.place c) k.0.side))))))
        (elim (cases_Bool (is_at_margin s.sheet l i)) [
          | inl at ↦ left-true _ _ at
          | inr off ↦
              right-true _ _ (subst (λ b. read v is_vertical_colored (color_at v) g s l b x.place (number v g s (arrow l h.rank)) ≡ true) h.shows.info
              (vertical-colored v q (margin ∙ off) in_range))
        ])

    abbrev start_test : ℕ → ℕ → Bool
    start_test k n =
        all_gutter_cells s i (read v has_color (color_at v) a n)
        && all_place_cells s a.start_line 0 (k + 1) (read v has_color (color_at v) a n)
        && read v is_vertical_colored (color_at v) g s a.start_line a k n

    start-colored : read v is_start_colored (color_at v) g s i a ≡ true
    unfolding is_start_colored is_inline is_crossed layout_of
    start-colored = elim (cases_Bool (is_at_margin s.sheet a.start_line i)) [
      | inl at ↦ left-true _ _ at
      | inr off ↦
          let h = head-place v o off in
          let own = h.gutter_column in
          let l = a.start_line in
          let x = h.label in
          let q = h.arrow_row in
          let out : is_inline x.side ≡ false = ap is_inline h.start.side in
          let column : a.start_place ≡ x.place = cc in
          let in_range : x.place < places_of s l = column-place s.sheet (placed g s o.group) l h.rank x q.there (inl h.start) in
          let margin : is_margin (margin_label s.sheet.labels l) x ≡ is_at_margin s.sheet l i = its-margin v o l x out h.gutter_column in
          let text = arrow-text v (arrow-at v q) in
          right-true (is_at_margin s.sheet a.start_line i) (start_test a.start_place (head_row v g i)) ((λ j. start_test (column j) (h.row j)) ∙ both_true (both_true
          (columns-colored v text i a (λ j low. subst (λ b. IsInkOf b (column_ink s.sheet (arrow l h.rank) j)) h.info (turn-own v q out j (omega arith))))
          (places-colored v l (arrow_inks s l h.rank) _ text a 0 (x.place + 1) (omega arith)
          (λ c low high. subst (λ b. IsInkOf b (arrow_inks s l h.rank c)) h.info
          (arrow-own v q c (inr (ap (λ side. is_crossed side x.place c) h.start.side ∙ le-leb c x.place (omega arith)))))))
          (subst (λ b. read v is_vertical_colored (color_at v) g s l b x.place (number v g s (arrow l h.rank)) ≡ true) h.info
          (vertical-colored v q (margin ∙ off) in_range)))
    ]

    -- a cell of a bar alone passes, and so does one of its own
    pointer-passes : (n c : ℕ) (glyph : Glyph) (paint : Paint) → cell_at (rows_of v) n c ≡ glyph_cell v s glyph paint
        → ((glyph ≡ Vbar) ⊎ (glyph ≡ Blank)) ⊎ (paint ≡ paint_of a)
        → (not (is_pointer (set_of s) (cell_at (rows_of v) n c)) || read v has_color (color_at v) a n c) ≡ true
    unfolding is_level is_glyph
    pointer-passes n c glyph paint e (inl bar) = left-true _ _ (ap (λ cell. not (is_pointer (set_of s) cell)) e ∙ ap not (no-pointer (set_of s) glyph bar))
    pointer-passes n c glyph paint e (inr own) = right-true _ _ (colored-cell v a n c _ e own)

    abbrev pointer_test : ℕ → Bool
    pointer_test n =
        all_gutter_cells s i (λ c. not (is_pointer (set_of s) (cell_at (rows_of v) n c)) || read v has_color (color_at v) a n c)

    pointer-colored : (l : ℕ) → IsShownLine v g s l → read v is_pointer_colored (color_at v) g s i a l ≡ true
    unfolding is_pointer_colored
    pointer-colored l h = elim (cases_Bool (is_at_margin s.sheet l i)) [
      | inr off ↦ left-true _ _ (ap not off)
      | inl at ↦
          let n : ℕ = number v g s (source l) in
          right-true (not (is_at_margin s.sheet l i)) (pointer_test ((placing_of v).source_row g l)) (ap pointer_test (source-is v h) ∙ gutter-cells v (source-text v (source-row-is v h)) i _ (λ j low size c e.
          let column = column_ink s.sheet (source l) j in
          let kind = margin-beside s.sheet i a o.owned (few o) l j at low in
          elim e [
            | inl first ↦ pointer-passes n c column.first column.first_paint first (elim kind [ inl bar ↦ inl (inl bar.0) | inr own ↦ inr own.0 ])
            | inr other ↦ pointer-passes n c column.rest column.rest_paint other (elim kind [ inl bar ↦ inl (inr bar.1) | inr own ↦ inr own.1 ])
          ]))
    ]

    -- a blank and a level are no stroke that leads up
    bar-passes : (n : ℕ) (column : Ink) → gutter_cell (rows_of v) s n i ≡ ink_cell v s column → IsSteepOf a column
        → read v is_bar_colored (color_at v) s i a n ≡ true
    unfolding is_bar_colored
    bar-passes n column e (inl blank) =
        left-true _ _ (ap (λ cell. not (is_steep (set_of s) cell)) e
        ∙ ap (λ b. not (not b)) (left-true _ _ (shows-blank v s column.first column.first_paint blank)))
    bar-passes n column e (inr (inl level)) =
        left-true _ _ (ap (λ cell. not (is_steep (set_of s) cell)) e
        ∙ ap (λ b. not (not b)) (right-true (is_blank (ink_cell v s column)) _ (shows-level v s column.first column.first_paint level)))
    bar-passes n column e (inr (inr own)) = right-true _ _ (colored-cell v a n (column_cell s i) _ e own)

    bar-colored : AllByRecursion (λ n. read v is_bar_colored (color_at v) s i a n ≡ true) (read v gutter_rows g s)
    bar-colored =
        let size = column-few o in
        every-gutter-row v g s _ o.group (λ k x is name on.
        let text = text-row v x is (omega arith) on in
        bar-passes (number v g s x) (column_ink s.sheet x i) (gutter-cell v text.1 i size) (row-steep s.sheet i a o.owned (few o) x name))

    gutter-label-colored : read v is_gutter_label_colored (color_at v) g s i a ≡ true
    unfolding is_gutter_label_colored
    gutter-label-colored =
        both_true (both_true (both_true end-colored start-colored) (list_all-true _ _ (every-line v g s _ o.group pointer-colored)))
        (list_all-true _ _ bar-colored)

  -- every report's picture has its colours
  pub label-colors : read v has_label_colors (color_at v) ≡ true
  unfolding has_label_colors
  label-colors =
      every-group v _ (λ g s e. both_true
      (list_all-true _ _ (every-message v g s _ e (λ a m. elim (cases_Bool (is_on_one_line a)) [
        | inl one ↦ right-true _ _ (inline-colored g s a m one)
        | inr several ↦ left-true _ _ (ap not several)
      ])))
      (list_all-true _ _ (all-numbered _ _ (λ i a owned.
      let o : IsGutterLabelOf v g s i a = record { group = e; owned = owned } in gutter-label-colored o))))
