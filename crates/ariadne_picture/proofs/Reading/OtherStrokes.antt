-- In the rows below a line no stroke stands in the text that is not some label's. Each cell of a place is blank, or its ink is
-- of a vertical, a corner, a horizontal or an underline that a label of the line has there.
use Rattle.std.proofs.Common.{◌≡◌, ℕ, suc, ◌+◌, ◌*◌, ◌<◌, ◌≤◌, Bool, true, false, not, ◌&&◌}
use Rattle.std.proofs.Common.{Option, Some, None, refl, sym, ap, ◌∙◌, subst, arith, ◌==◌, inl, inr, ◌⊎◌}
use Rattle.std.specs.Prelude.{slice_get, slice_index_or}
use Rattle.std.specs.List.{list_all, list_any}
use Rattle.std.specs.Cmp.Derive.{both_true}
use Rattle.std.proofs.lemmas.Bool.{cond_both, cases_Bool, cases_lt, eq-eqb, eqb-true, not-true}
use Rattle.std.proofs.lemmas.Option.{slice_get-get_or}
use Rattle.ariadne_base.specs.Locations.{upto}
use Rattle.std.proofs.Common.{◌||◌, length}
use Rattle.ariadne_picture.specs.Rows.{is_lone}
use Rattle.ariadne_picture.proofs.Rows.LoneRows.{speaks, lone}
use Rattle.ariadne_picture.specs.declared.label_info.LineLabel.{LineLabel}
use Rattle.ariadne_picture.specs.declared.cell.Glyph.{Glyph}
use Rattle.ariadne_picture.specs.declared.cell.Glyph.TheVariants.{Blank, Hbar, Vbar, Xbar, Uarrow, Underbar, Underline}
use Rattle.ariadne_picture.specs.declared.cell.Paint.{Paint}
use Rattle.ariadne_picture.specs.declared.cell.Paint.TheVariants.{Plain}
use Rattle.ariadne_picture.specs.Lists.{best}
use Rattle.ariadne_picture.specs.Ranks.{is_inline, is_margin, line_labels}
use Rattle.ariadne_picture.specs.Rows.{row_key, Row, source, alternate, arrow}
use Rattle.ariadne_picture.proofs.Rows.RowPlacing.{row_part, row_line, row_step}
use Rattle.ariadne_picture.specs.Columns.{layout_of}
use Rattle.ariadne_picture.specs.Strokes.{is_crossed, holds, is_preferred, underlines_at, underline_at}
use Rattle.ariadne_picture.specs.Strokes.{underline_row, vertical_at, spot_of}
use Rattle.ariadne_picture.specs.Cells.{ink_of, paint_of, arrow_ink, arrow_place, alternate_ink, alternate_place}
use Rattle.ariadne_picture.specs.Pieces.{Section}
use Rattle.ariadne_picture.specs.Canvas.{Cell}
use Rattle.ariadne_picture.specs.Placing.Cells.{is_glyph}
use Rattle.ariadne_picture.specs.Placing.Group.{set_of}
use Rattle.ariadne_picture.specs.Placing.Rows.{block_rows}
use Rattle.ariadne_picture.proofs.Lists.ListFacts.{none≢some, all-at, all-best, all-filtered}
use Rattle.ariadne_picture.proofs.Lists.Elements.{all-from, all-range, list_all-true, list_any-true}
use Rattle.ariadne_picture.proofs.Lists.Elements.{left-true, right-true}
use Rattle.ariadne_picture.proofs.Rows.LineBlock.{IsBlockRow, IsLoneRow, block-kinds}
use Rattle.ariadne_picture.proofs.Rows.RowOrder.{shown_rows}
use Rattle.ariadne_picture.proofs.Cells.InkCells.{glyph_cell, shows-glyph, shows-level, shows-blank}
use Rattle.ariadne_picture.proofs.Reading.InOrder.{in-order}
use Rattle.ariadne_picture.proofs.Reading.MessagePlaces.{two-true}
use Rattle.ariadne_picture.proofs.Reading.Pictures.{Picture, RowAt, placing_of, read, number, source_row, number-at}
use Rattle.ariadne_picture.proofs.Reading.ShownLine.{IsShownLine, IsArrowRow, arrow-row, arrow-at, block-row-is, source-at, block-at}
use Rattle.ariadne_picture.proofs.Reading.ShownLine.{every-shown-line}
use Rattle.ariadne_picture.proofs.Reading.TextRows.{arrow_inks, alternate_inks, arrow-text, alternate-text}
use Rattle.ariadne_picture.specs.Causes.{is_upright}
use Rattle.ariadne_picture.specs.Causes.{is_underline_of, has_cause, is_place_caused, is_line_caused, has_no_other_strokes}
use Rattle.ariadne_picture.proofs.Reading.LabelTraces.{IsCaused, row-caused, vertical-is, IsVertical, cause-none, cause-underline}
use Rattle.ariadne_picture.proofs.Reading.LabelTraces.{cause-vertical, cause-corner, cause-level}
use Rattle.ariadne_picture.proofs.Reading.InlineTraces.{block-first}
use Rattle.ariadne_picture.proofs.Reading.PlaceCells.{step-rises}
use Rattle.ariadne_picture.proofs.Parts.{has_corner, arrow_ink_by}

-- ---- the inks of a row

-- a vertical, with an arrow head or under an underline or without
abbrev IsUpright : Glyph → Type 0
IsUpright glyph = (glyph ≡ Vbar) ⊎ ((glyph ≡ Uarrow) ⊎ (glyph ≡ Underbar))

shows-upright : (v : Picture) (s : Section) (glyph : Glyph) (paint : Paint) → IsUpright glyph → is_upright (set_of s) (glyph_cell v s glyph paint) ≡ true
unfolding is_upright
shows-upright v s glyph paint (inl e) = left-true _ _ (left-true _ _ (shows-glyph v s glyph paint e))
shows-upright v s glyph paint (inr (inl e)) = left-true _ _ (right-true _ _ (shows-glyph v s glyph paint e))
shows-upright v s glyph paint (inr (inr e)) = right-true _ _ (shows-glyph v s glyph paint e)

-- a row of the line stands no further down than the arrow row of a label that has no lower rank
pub not-below : (v : Picture) {g : ℕ} {s : Section} {l : ℕ} (r : ℕ) (x : LineLabel) (q : IsArrowRow v g s l r x) (j : ℕ) (y : Row) → RowAt v g s j y
    → row_part y ≡ 2 → row_line y ≡ l → row_step y ≤ 2 * r + 2 → number v g s y ≤ number v g s (arrow l r)
unfolding row_key
not-below v {l = l} r x q j y is part line step =
    let own = arrow-at v q in
    let here = number-at v is in
    let there = number-at v own in
    elim (cases_lt (Rattle.ariadne_picture.proofs.Reading.ShownLine.rows_above v q.line + suc q.index) j) [
      | inl less ↦
          let rise : 2 * r + 2 < row_step y = step-rises (arrow l r) y (sym part) (sym line) (in-order v own is less) in
          absurd (omega arith)
      | inr least ↦ omega (arith, here, there)
    ]

module _ (v : Picture) {g : ℕ} {s : Section} {l : ℕ} (h : IsShownLine v g s l) where
  -- a label whose vertical is seen has an arrow row
  vertical-row : (r k : ℕ) (x : LineLabel) (u : IsVertical (layout_of s.sheet l) r k x) → IsArrowRow v g s l u.rank x
  unfolding layout_of
  vertical-row r k x u = arrow-row v u.rank x h u.there u.message

  -- ---- arrow rows

  module _ (r : ℕ) (x : LineLabel) (q : IsArrowRow v g s l r x) (k : ℕ) where
    n : ℕ
    n = number v g s (arrow l r)

    arrow-go : (corner horizontal : Bool) (up : Option LineLabel) → has_corner (layout_of s.sheet l).margin x k ≡ corner
        → is_crossed x.side x.place k ≡ horizontal → vertical_at (layout_of s.sheet l) r k ≡ up
        → IsCaused v h (number v g s (arrow l r)) k (arrow_ink_by s.sheet.switches r x corner horizontal up)
    unfolding arrow_ink row_key
    arrow-go true horizontal up e f u =
        let two = two-true (x.place == k) (not (is_margin (layout_of s.sheet l).margin x)) e in
        let same = eqb-true x.place k two.0 in (
          cause-corner v q _ k _ (not-true _ two.1) same refl (shows-glyph v s _ _ refl),
          cause-level v q _ k _ false (inr same) refl (shows-level v s _ _ (inl refl)),
        )
    arrow-go false true None e f u = (
      cause-level v q _ k _ true (inl f) refl (shows-level v s _ _ (inl refl)),
      cause-level v q _ k _ false (inl f) refl (shows-level v s _ _ (inl refl)),
    )
    arrow-go false true (Some w) e f u =
        cond_both s.sheet.switches.cross_gap (ink_of Hbar Hbar x.info) (ink_of Xbar Blank x.info) (IsCaused v h (number v g s (arrow l r)) k)
        (λ _. (
          cause-level v q _ k _ true (inl f) refl (shows-level v s Hbar (paint_of x.info) (inl refl)),
          cause-level v q _ k _ false (inl f) refl (shows-level v s Hbar (paint_of x.info) (inl refl)),
        ))
        (λ _. (
          cause-level v q _ k _ true (inl f) refl (shows-level v s Xbar (paint_of x.info) (inr refl)),
          cause-none v g s l _ k false _ (shows-blank v s Blank (paint_of x.info) refl),
        ))
    arrow-go false false None e f u = (
      cause-none v g s l _ k true _ (shows-blank v s Blank Plain refl),
      cause-none v g s l _ k false _ (shows-blank v s Blank Plain refl),
    )
    arrow-go false false (Some w) e f u =
        let is = vertical-is (layout_of s.sheet l) r k w u in
        let later = is.later in
        let own = vertical-row r k w is in
        let up = not-below v is.rank w own _ (arrow l r) (arrow-at v q) refl refl (omega arith) in (
          cause-vertical v own _ k _ is.off is.place up (shows-upright v s _ _
              (cond_both (not (is_inline w.side) && (r == 0) && s.sheet.switches.compact) Uarrow Vbar IsUpright (λ _. inr (inl refl)) (λ _. inl refl))),
          cause-none v g s l _ k false _ (shows-blank v s Blank (paint_of x.info) refl),
        )

    arrow-caused : IsCaused v h (number v g s (arrow l r)) k (arrow_inks s l r k)
    unfolding arrow_place spot_of layout_of
    arrow-caused =
        let y = layout_of s.sheet l in
        rw q.there (arrow-go (has_corner y.margin x k) (is_crossed x.side x.place k) (vertical_at y r k) refl refl refl)

  -- ---- alternate rows

  module _ (r : ℕ) (drawn : (list_any speaks (line_labels s.sheet.labels l) || is_lone s.sheet l) ≡ true)
      (open_form : s.sheet.switches.compact ≡ false) (j : ℕ) (is : RowAt v g s j (alternate l r)) (k : ℕ) where
    -- the row of the underlines is the first of the block
    first-below : r ≡ underline_row (layout_of s.sheet l) → number v g s (alternate l r) ≡ source_row v g l + 1
    unfolding layout_of
    first-below same =
        let row : slice_get (shown_rows s.sheet l) 0 ≡ Some (alternate l r) =
        block-first s.sheet l open_form drawn ∙ ap (λ n. Some (alternate l n)) (sym same) in
        let m = number-at v (block-row-is v h 0 (alternate l r) row) in
        let src = source-at v h in
        omega (arith, m, src)

    underlined : (is_first : Bool) (u : LineLabel) (c : Cell) → underline_at s.sheet.switches (layout_of s.sheet l) r k ≡ Some u
        → is_glyph (set_of s) Underline c ≡ true → read v has_cause g s l (number v g s (alternate l r)) k is_first c ≡ true
    unfolding underline_at underlines_at is_underline_of layout_of holds
    underlined is_first u c e shows =
        let y = layout_of s.sheet l in
        let beats : LineLabel → LineLabel → Bool = λ a b. is_preferred a.info b.info in
        let held : LineLabel → Bool = λ x. is_inline x.side && holds x.info (y.offset + k) in
        elim (cases_Bool (s.sheet.switches.underlines && (r == underline_row y))) [
          | inl on ↦
              let two = two-true s.sheet.switches.underlines (r == underline_row y) on in
              let here = first-below (eqb-true r (underline_row y) two.1) in
              let chosen : best beats (underlines_at y k) ≡ Some u = rw on at e in
              let some : list_any held y.labels ≡ true =
              all-best (λ x. list_any held y.labels ≡ true) beats (underlines_at y k) u chosen
              (all-filtered (λ x. list_any held y.labels ≡ true) held y.labels
              (all-from _ y.labels (λ i x at t. list_any-true held y.labels i x at t))) in
              cause-underline v g s l _ k is_first c
              (both_true (both_true (both_true (both_true (both_true two.0 (ap not open_form)) drawn) (eq-eqb _ _ here)) shows) some)
          | inr off ↦
              let none : None ≡ Some u = rw off at e in absurd (none≢some u none)
        ]

    alternate-go : (up under : Option LineLabel) → vertical_at (layout_of s.sheet l) r k ≡ up → underline_at s.sheet.switches (layout_of s.sheet l) r k ≡ under
        → IsCaused v h (number v g s (alternate l r)) k (alternate_ink v.texts.multiline_arrows r up under)
    unfolding alternate_ink row_key
    alternate-go None None e f = (
      cause-none v g s l _ k true _ (shows-blank v s Blank Plain refl),
      cause-none v g s l _ k false _ (shows-blank v s Blank Plain refl),
    )
    alternate-go None (Some u) e f = (underlined true u _ f (shows-glyph v s _ _ refl), underlined false u _ f (shows-glyph v s _ _ refl))
    alternate-go (Some w) None e f =
        let own = vertical-is (layout_of s.sheet l) r k w e in
        let later = own.later in
        let q = vertical-row r k w own in
        let up = not-below v own.rank w q j (alternate l r) is refl refl (omega arith) in
        cond_both (not (is_inline w.side) && (r == 0) && v.texts.multiline_arrows)
        (ink_of Uarrow Blank w.info) (ink_of Vbar Blank w.info)
        (IsCaused v h (number v g s (alternate l r)) k)
        (λ _. (cause-vertical v q _ k _ own.off own.place up (shows-upright v s _ _ (inr (inl refl))), cause-none v g s l _ k false _ (shows-blank v s Blank (paint_of w.info) refl)))
        (λ _. (cause-vertical v q _ k _ own.off own.place up (shows-upright v s _ _ (inl refl)), cause-none v g s l _ k false _ (shows-blank v s Blank (paint_of w.info) refl)))
    alternate-go (Some w) (Some u) e f =
        let own = vertical-is (layout_of s.sheet l) r k w e in
        let later = own.later in
        let q = vertical-row r k w own in
        let up = not-below v own.rank w q j (alternate l r) is refl refl (omega arith) in
        (cause-vertical v q _ k _ own.off own.place up (shows-upright v s _ _ (inr (inr refl))), underlined false u _ f (shows-glyph v s _ _ refl))

    alternate-caused : IsCaused v h (number v g s (alternate l r)) k (alternate_inks v s l r k)
    unfolding alternate_place
    alternate-caused = alternate-go _ _ refl refl

  -- ---- all rows of the line

  line-caused : read v is_line_caused g s l ≡ true
  unfolding is_line_caused block_rows
  line-caused =
      list_all-true _ _ (all-range _ _ ((placing_of v).block_len g l) (λ j less.
      let y : Row = slice_index_or (shown_rows s.sheet l) j (source l) in
      let here = source-at v h in
      let long = block-at v h in
      let there : slice_get (shown_rows s.sheet l) j ≡ Some y = slice_get-get_or (shown_rows s.sheet l) j (source l) (omega arith) in
      let is = block-row-is v h j y there in
      let n = number-at v is in
      let same : number v g s y ≡ source_row v g l + 1 + j = omega (arith, n, here) in
      rw (← same) (by-kind j y is (all-at (λ y. IsBlockRow s.sheet l y ⊎ IsLoneRow s.sheet l y) _ j y there (block-kinds s.sheet l)))))
    where
      by-kind : (j : ℕ) (y : Row) → RowAt v g s (Rattle.ariadne_picture.proofs.Reading.ShownLine.rows_above v h + suc j) y → IsBlockRow s.sheet l y ⊎ IsLoneRow s.sheet l y
          → list_all (read v is_place_caused g s l (number v g s y)) (upto ((placing_of v).places g l)) ≡ true
      by-kind j y is (inr b) =
          let at = subst (RowAt v g s (Rattle.ariadne_picture.proofs.Reading.ShownLine.rows_above v h + suc j)) b.1 is in
          let n : ℕ = length (line_labels s.sheet.labels l) in
          rw b.1 (row-caused v h (alternate_inks v s l n) _ (alternate-text v at)
          (λ k few. alternate-caused n (right-true (list_any speaks (line_labels s.sheet.labels l)) (is_lone s.sheet l) b.0) (lone s.sheet l b.0).loose _ at k))
      by-kind j y is (inl b) = elim b.kind [
        | inl e ↦
            let q = arrow-row v b.rank b.label h b.there b.message in
            rw e (row-caused v h (arrow_inks s l b.rank) _ (arrow-text v (arrow-at v q)) (λ k few. arrow-caused b.rank b.label q k))
        | inr e ↦
            let at = subst (RowAt v g s (Rattle.ariadne_picture.proofs.Reading.ShownLine.rows_above v h + suc j)) e.0 is in
            rw e.0 (row-caused v h (alternate_inks v s l b.rank) _ (alternate-text v at)
            (λ k few. alternate-caused b.rank (left-true _ _ (list_any-true speaks (line_labels s.sheet.labels l) b.rank b.label b.there b.message)) e.1 _ at k))
      ]

-- no picture has another stroke
pub no-other-strokes : (v : Picture) → read v has_no_other_strokes ≡ true
unfolding has_no_other_strokes
no-other-strokes v = every-shown-line v (read v is_line_caused) (λ g s l h. line-caused v h)
