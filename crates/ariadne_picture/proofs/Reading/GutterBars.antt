-- Each gutter label's stroke is in its column from its head to its corner: each row between the two shows a vertical, a
-- tee, a broken bar or the horizontal that crosses it.
use Rattle.std.proofs.Common.{◌≡◌, ℕ, ◌+◌, ◌-◌, ◌*◌, ◌<◌, ◌≤◌, Bool, true, false, not, ◌&&◌, ◌||◌, List, [], ◌∷◌, Some, refl, sym, ap, ◌∙◌, subst}
use Rattle.std.proofs.Common.{arith, ◌==◌, inl, inr, ◌⊎◌}
use Rattle.std.specs.Prelude.{slice_get}
use Rattle.std.specs.List.{AllByRecursion, list_all, list_any, enumerate_from}
use Rattle.std.specs.Cmp.Derive.{both_true}
use Rattle.std.proofs.lemmas.Bool.{cond-true, cond-false, cases_Bool, cases_lt, eq-eqb, eqb-true, ne_eqb, lt-ltb, le-leb, true≢false, and_right}
use Rattle.std.proofs.lemmas.Option.{slice_get_within}
use Rattle.ariadne_picture.specs.declared.label_info.LabelInfo.{LabelInfo}
use Rattle.ariadne_picture.specs.declared.label_info.LineLabel.{LineLabel}
use Rattle.ariadne_picture.specs.declared.label_info.Side.TheVariants.{Starts, Ends}
use Rattle.ariadne_picture.specs.declared.cell.Glyph.TheVariants.{Vbar, VbarGap, Ltop, Lbot, Lcross}
use Rattle.ariadne_picture.specs.Bars.{IsLineLabel}
use Rattle.ariadne_picture.specs.Ranks.{is_inline, is_on_one_line, gutter_labels, line_labels, is_hidden_line, is_end, is_start}
use Rattle.ariadne_picture.specs.Rows.{row_key, Row, source, alternate, arrow, gap, bare, is_inside}
use Rattle.ariadne_picture.specs.Strokes.{is_at_margin, has_tee, rank_at}
use Rattle.ariadne_picture.specs.Cells.{margin_glyph}
use Rattle.ariadne_picture.specs.Pieces.{Piece, Section, glyph_text, margin_text, blank_piece}
use Rattle.ariadne_picture.specs.Placing.Cells.{is_level, is_blank}
use Rattle.ariadne_picture.specs.Placing.Group.{set_of, shown_lines, text_cell}
use Rattle.ariadne_picture.specs.Placing.Rows.{between, gutter_cell}
use Rattle.ariadne_picture.specs.Placing.GutterBars.{is_gap_row, is_bar, ends_in, has_gutter}
use Rattle.ariadne_picture.proofs.Cells.MarginTexts.{margin-blank}
use Rattle.ariadne_picture.proofs.Labels.LabelsAtLine.{IsHere, gutter-labels-owned}
use Rattle.ariadne_picture.proofs.Labels.LabelPlaces.{IsPlaced, covers}
use Rattle.ariadne_picture.proofs.Labels.LineLabels.{multi-line}
use Rattle.ariadne_picture.proofs.Lists.Elements.{Has, all-range, list_all-true, list_any-true, left-true, right-true, has-filter}
use Rattle.ariadne_picture.proofs.Lists.ListFacts.{all-at}
use Rattle.ariadne_picture.proofs.Rows.BarCases.{bars-of-lines, start-number, precedes-row, first-is, last-is, first_step}
use Rattle.ariadne_picture.proofs.Rows.BarCases.{IsRow as BarRow}
use Rattle.ariadne_picture.proofs.Rows.GutterLabelRows.{label-off-margin}
use Rattle.ariadne_picture.proofs.Rows.RowNumbers.{start-next}
use Rattle.ariadne_picture.proofs.Reading.EndTraces.{its-message, head-corner, end-corner, margin-leaves, tee-no-bar, end-side}
use Rattle.ariadne_picture.proofs.Reading.GapMargins.{alternate-no-gap, arrow-no-gap, gap-margin}
use Rattle.ariadne_picture.proofs.Reading.GutterCells.{own-glyph, column_shows, gutter-cell, column-few}
use Rattle.ariadne_picture.proofs.Cells.GutterInks.{bar-beside, bar-gap, bar-alternate, bar-arrow, behind-arrow}
use Rattle.ariadne_picture.proofs.Reading.HeadPlaces.{IsGutterLabelOf, margin-line, head-at-margin, head-place}
use Rattle.ariadne_picture.proofs.Cells.InkCells.{shows-level}
use Rattle.ariadne_picture.proofs.Reading.InOrder.{in-order}
use Rattle.ariadne_picture.proofs.Reading.PlaceCounts.{ArePlaced}
use Rattle.ariadne_picture.proofs.Reading.GutterSpans.{IsSpan, bar-inside, own-place}
use Rattle.ariadne_picture.proofs.Reading.MessagePlaces.{label-here, arrow-shows, two-true}
use Rattle.ariadne_picture.proofs.Reading.Pictures.{rows_of, Picture, row-there, RowAt, read, number, source_row, message_row, head_row, number-at}
use Rattle.ariadne_picture.proofs.Reading.ShownLine.{rows_above, IsArrowRow, arrow-at, numbered-at, IsShownLine, source-is, source-at, every-line}
use Rattle.ariadne_picture.proofs.Reading.ShownLine.{group-line-at, source-row-is}
use Rattle.ariadne_picture.proofs.Reading.TextRows.{IsTextRow, source-text, arrow-text, alternate-text, front-at, gap-text, row-length}
use Rattle.ariadne_picture.proofs.Reading.Placed.{margin-shows}
use Rattle.ariadne_picture.proofs.Reading.RowNames.{IsName, name-of, named-arrow}
use Rattle.ariadne_picture.proofs.Rows.RowPlacing.{row_list}
use Rattle.ariadne_picture.proofs.Parts.{is_crossed_in}

-- where each element fails a test, none passes
list_any-false : {X : Type 0} (test : X → Bool) (xs : List X) → AllByRecursion (λ x. test x ≡ false) xs → list_any test xs ≡ false
list_any-false test [] a = refl
list_any-false test (x ∷ xs) a = rw a.0 (list_any-false test xs a.1)

module _ (v : Picture) {g : ℕ} {s : Section} {i : ℕ} {a : LabelInfo} (o : IsGutterLabelOf v g s i a) where
  -- a row with a text has gutter cells before it
  gutter-there : {x : Row} {text : List Piece} → IsTextRow v g s x text → read v has_gutter s (number v g s x) ≡ true
  gutter-there {x} r = let long = row-length v r in le-leb (text_cell s) _ (omega (arith, long))

  -- a row that is no source row is none of a shown line
  no-source : {k : ℕ} (x : Row) → RowAt v g s k x → ((l : ℕ) → x ≡ source l → ⊥)
      → list_any (λ l. source_row v g l == number v g s x) (shown_lines s) ≡ false
  no-source {k} x is other =
      list_any-false _ _ (every-line v g s _ o.group (λ l line. ne_eqb _ _ (λ z.
      let src = source-at v line in
      let at = number-at v is in
      let there = source-row-is v line in
      let place : rows_above v line ≡ k = omega (arith, src, at, z) in
      other l cc)))

  -- the source row of a shown line is
  is-source : {l : ℕ} → IsShownLine v g s l
      → list_any (λ m. source_row v g m == number v g s (source l)) (shown_lines s) ≡ true
  unfolding shown_lines
  is-source {l} line =
      let here = has-filter (λ l. not (is_hidden_line s.sheet l)) _ _ l (group-line-at s.sheet l line.low line.high) (ap not line.seen) in
      list_any-true _ (shown_lines s) here.place l here.there (eq-eqb _ _ (source-is v line))

  -- a row whose margin ends in no broken bar is no gap row
  no-gap : {x : Row} {text : List Piece} → IsTextRow v g s x text
      → ends_in (margin_text (set_of s) v.width s.display_offset x) (glyph_text (set_of s) VbarGap) ≡ false
      → read v is_gap_row (set_of s) (number v g s x) ≡ false
  unfolding is_gap_row
  no-gap r bar = rw (margin-shows v r) (and_right _ _ bar)

  -- the arrow row of another's start or end is the row of its head or of its message
  crossed-there : {l r : ℕ} {x : LineLabel} → IsArrowRow v g s l r x → is_inline x.side ≡ false → x.gutter_column < i
      → read v is_crossed_in g s i (number v g s (arrow l r)) ≡ true
  unfolding is_inline is_start
  crossed-there {l} {r} {x} q out less = go (label-here s.sheet l r x q.there)
    where
      n : ℕ
      n = number v g s (arrow l r)

      crossed : (b : LabelInfo) → slice_get (gutter_labels s.sheet.labels) x.gutter_column ≡ Some b
          → ((head_row v g x.gutter_column == n) || (message_row v b.position == n)) ≡ true
          → read v is_crossed_in g s i n ≡ true
      crossed b owned c =
          list_any-true _ (enumerate_from 0 (gutter_labels s.sheet.labels)) x.gutter_column (x.gutter_column, b)
          (numbered-at _ x.gutter_column b owned) (both_true (lt-ltb x.gutter_column i less) c)

      go : IsHere s.sheet l x → read v is_crossed_in g s i n ≡ true
      go (inl b) =
          let m : ℕ = x.info.start_line in
          let there : slice_get (line_labels s.sheet.labels m) r ≡ Some x = cc in
          let label : IsLineLabel s.sheet m Starts x.gutter_column r =
          record { label = x; there = there; same_side = b.side; same_gutter_column = refl } in
          let other : IsGutterLabelOf v g s x.gutter_column x.info = record { group = o.group; owned = b.owned } in
          let place = head-place v other (label-off-margin s.sheet m x.gutter_column r label) in
          let mine : IsLineLabel s.sheet m Starts x.gutter_column place.rank =
          record { label = place.label; there = place.arrow_row.there; same_side = place.start.side; same_gutter_column = place.gutter_column } in
          let head : head_row v g x.gutter_column ≡ number v g s (arrow l r) =
          cc (start-number s.sheet m x.gutter_column place.rank mine, start-number s.sheet m x.gutter_column r label) in
          crossed x.info b.owned (left-true _ _ (eq-eqb _ _ head))
      go (inr (inl b)) = crossed x.info b.owned (right-true _ _ (eq-eqb _ _ (arrow-shows v q (ap is_start b.side))))
      go (inr (inr b)) = absurd (true≢false (ap is_inline (sym b.side) ∙ out))

  module _ (placed : ArePlaced v) (h : IsSpan v g s i a) where
    -- what the clause asks of row n
    abbrev bar_test : ℕ → Bool
    bar_test = read v is_bar g s i a

    -- a row strictly between the two is neither the head's nor the corner's
    not-first : {k : ℕ} {x : Row} → RowAt v g s k x → h.from < k → (number v g s x == head_row v g i) ≡ false
    not-first is low = let at = number-at v is in let head = h.head in ne_eqb _ _ (λ z. omega (arith, at, z))

    not-last : {k : ℕ} {x : Row} → RowAt v g s k x → k < h.to → (number v g s x == message_row v a.position) ≡ false
    not-last is high = let at = number-at v is in let message = h.message in ne_eqb _ _ (λ z. omega (arith, at, z))

    -- it is no bare row: a hidden line between the start and the end of a label is inside
    no-bare : {k l : ℕ} → RowAt v g s k (bare l) → h.from < k → k < h.to → is_hidden_line s.sheet l ≡ true → is_inside s.sheet l ≡ false → ⊥
    unfolding row_key is_inside is_on_one_line
    no-bare {l = l} is low high hidden out =
        let here : BarRow l 0 (bare l) = record { part = refl; line = refl; step = refl } in
        let top = precedes-row a.start_line l (first_step s.sheet i a) 0 _ (bare l) (first-is s.sheet i a) here (in-order v h.top is low) in
        let last = 2 * rank_at s.sheet is_end a.end_line i + 2 in
        let end = precedes-row l a.end_line 0 last (bare l) _ here (last-is s.sheet i a) (in-order v is h.foot high) in
        let q = its-message v o in
        let label = all-at (Has s.sheet.labels) (gutter_labels s.sheet.labels) i a o.owned (gutter-labels-owned s.sheet) in
        let is_placed = all-at (IsPlaced s.sheet.lines) s.sheet.labels label.place a label.there (placed g s o.group) in
        elim top [
          | inr z ↦ absurd (omega arith)
          | inl less ↦ elim end [
            | inr z ↦ true≢false (sym hidden ∙ ap (is_hidden_line s.sheet) z.0 ∙ q.arrow_row.line.seen)
            | inl more ↦
                let two = covers s.sheet.lines a l is_placed less more in
                let several = ap not (multi-line s.sheet i a o.owned) in
                let passes = both_true (both_true several (le-leb a.start _ two.0)) (lt-ltb _ a.end two.1) in
                true≢false (sym (list_any-true _ s.sheet.labels label.place a label.there passes) ∙ out)
          ]
        ]

    -- an arrow row has the bar before its own column and a horizontal behind it; its own is that of the head or the corner
    arrow-passes : {k l r : ℕ} {x : LineLabel} → IsArrowRow v g s l r x → RowAt v g s k (arrow l r) → h.from < k → k < h.to
        → let n = number v g s (arrow l r) in
        (column_shows v s n i Vbar || (read v is_crossed_in g s i n && is_level (set_of s) (gutter_cell (rows_of v) s n i))) ≡ true
    unfolding has_tee
    arrow-passes {l = l} {r} {x} q is low high = elim (cases_Bool (is_inline x.side)) [
      | inl within ↦ bar (inl within)
      | inr out ↦ elim (cases_lt i x.gutter_column) [
        | inl more ↦ bar (inr more)
        | inr least ↦ elim (cases_lt x.gutter_column i) [
          | inl less ↦
              right-true _ _ (both_true (crossed-there q out less)
              (ap (is_level (set_of s)) (gutter-cell v (arrow-text v is) i (column-few o))
              ∙ shows-level v s _ _ (behind-arrow s.sheet l r i x q.there out less).0))
          | inr most ↦ absurd (elim (own-place v o h q is out (omega arith)) [ inl z ↦ omega arith | inr z ↦ omega arith ])
        ]
      ]
    ]
      where
        n : ℕ
        n = number v g s (arrow l r)

        bar : (is_inline x.side ≡ true) ⊎ (i < x.gutter_column)
            → (column_shows v s n i Vbar || (read v is_crossed_in g s i n && is_level (set_of s) (gutter_cell (rows_of v) s n i))) ≡ true
        bar b =
            left-true _ _ (own-glyph o (arrow-text v is)
            (bar-arrow s.sheet l r i x q.there (bar-inside v o h (arrow l r) is low high refl) b))

    -- a source row has the bar, or the tee of the end as the margin label
    source-passes : {k l : ℕ} → IsShownLine v g s l → RowAt v g s k (source l) → h.from < k → k < h.to
        → (column_shows v s (number v g s (source l)) i Vbar || column_shows v s (number v g s (source l)) i Lcross) ≡ true
    unfolding has_tee margin_glyph
    source-passes {l = l} line is low high = elim (cases_Bool (has_tee s.sheet a i (source l))) [
      | inl tee ↦
          let two = two-true (a.end_line == l) (is_at_margin s.sheet l i) tee in
          right-true _ _ (subst (λ l. IsShownLine v g s l → is_at_margin s.sheet l i ≡ true → column_shows v s (number v g s (source l)) i Lcross ≡ true)
          (eqb-true a.end_line l two.0) (λ line at. margin-leaves v o line at Ends (tee-no-bar v o at) (end-side v o at)) line two.1)
      | inr free ↦
          left-true _ _ (own-glyph o (source-text v is) (bar-beside s.sheet l i (bar-inside v o h (source l) is low high free)))
    ]

    -- each row strictly between passes, by its name: the others have no bars and so do not stand there
    between-passes : (k : ℕ) (x : Row) → RowAt v g s k x → IsName s.sheet x → h.from < k → k < h.to → bar_test (number v g s x) ≡ true
    unfolding is_bar has_tee is_gap_row
    between-passes k (bare l) is name low high = absurd (no-bare is low high name.0 name.1)
    between-passes k (source l) is name low high =
        let line : IsShownLine v g s l = record { group = o.group; low = name.0; high = name.1; seen = name.2 } in
        cond-false _ _ _ (not-first is low) ∙ cond-false _ _ _ (not-last is high) ∙ cond-true _ _ _ (is-source line)
        ∙ source-passes line is low high
    between-passes k (gap l) is name low high =
        let text = gap-text v is in
        let broken = both_true (ap is_blank (front-at v text 0 blank_piece (margin-blank v.width s (gap l))))
        (ap (λ t. ends_in t (glyph_text (set_of s) VbarGap)) (margin-shows v text) ∙ gap-margin (set_of s) v.width s.display_offset l) in
        cond-false _ _ _ (not-first is low) ∙ cond-false _ _ _ (not-last is high) ∙ cond-false _ _ _ (no-source (gap l) is (λ m z. cc))
        ∙ cond-true _ _ _ broken ∙ own-glyph o text (bar-gap s.sheet l i (bar-inside v o h (gap l) is low high refl))
    between-passes k (alternate l r) is name low high =
        let text = alternate-text v is in
        cond-false _ _ _ (not-first is low) ∙ cond-false _ _ _ (not-last is high)
        ∙ cond-false _ _ _ (no-source (alternate l r) is (λ m z. cc))
        ∙ cond-false _ _ _ (no-gap text (alternate-no-gap (set_of s) v.width s.display_offset l r))
        ∙ left-true _ _ (own-glyph o text (bar-alternate s.sheet l r i (bar-inside v o h (alternate l r) is low high refl)))
    between-passes k (arrow l r) is name low high =
        cond-false _ _ _ (not-first is low) ∙ cond-false _ _ _ (not-last is high)
        ∙ cond-false _ _ _ (no-source (arrow l r) is (λ m z. cc))
        ∙ cond-false _ _ _ (no-gap (arrow-text v is) (arrow-no-gap (set_of s) v.width s.display_offset l r))
        ∙ arrow-passes (named-arrow v is name) is low high
    between-passes k x is name low high = absurd (bars-of-lines s.sheet x i (bar-inside v o h x is low high refl))

    -- its row has gutter cells
    between-gutter : (k : ℕ) (x : Row) → RowAt v g s k x → IsName s.sheet x → h.from < k → k < h.to → read v has_gutter s (number v g s x) ≡ true
    unfolding has_tee
    between-gutter k (bare l) is name low high = absurd (no-bare is low high name.0 name.1)
    between-gutter k (source l) is name low high = gutter-there (source-text v is)
    between-gutter k (gap l) is name low high = gutter-there (gap-text v is)
    between-gutter k (alternate l r) is name low high = gutter-there (alternate-text v is)
    between-gutter k (arrow l r) is name low high = gutter-there (arrow-text v is)
    between-gutter k x is name low high = absurd (bars-of-lines s.sheet x i (bar-inside v o h x is low high refl))

    -- so do those of the head and of the corner
    head-gutter : read v has_gutter s (head_row v g i) ≡ true
    head-gutter = elim (cases_Bool (is_at_margin s.sheet a.start_line i)) [
      | inl at ↦ rw (head-at-margin v o at) (gutter-there (source-text v (source-row-is v (margin-line v o at))))
      | inr off ↦ let q = head-place v o off in rw q.row (gutter-there (arrow-text v (arrow-at v q.arrow_row)))
    ]

    end-gutter : read v has_gutter s (message_row v a.position) ≡ true
    end-gutter = let q = its-message v o in rw q.row (gutter-there (arrow-text v (arrow-at v q.arrow_row)))

    -- so all rows from the head to the corner pass
    row-passes : (n : ℕ) → head_row v g i ≤ n → n ≤ message_row v a.position → (read v has_gutter s n && bar_test n) ≡ true
    unfolding is_bar
    row-passes n low high = elim (cases_Bool (n == head_row v g i)) [
      | inl z ↦
          both_true (ap (read v has_gutter s) (eqb-true n _ z) ∙ head-gutter)
          (cond-true _ _ _ z ∙ ap (λ n. column_shows v s n i Ltop) (eqb-true n _ z) ∙ head-corner v o)
      | inr ne ↦ elim (cases_Bool (n == message_row v a.position)) [
        | inl z ↦
            both_true (ap (read v has_gutter s) (eqb-true n _ z) ∙ end-gutter)
            (cond-false _ _ _ ne ∙ cond-true _ _ _ z ∙ ap (λ n. column_shows v s n i Lbot) (eqb-true n _ z) ∙ end-corner v o)
        | inr nm ↦
            let next = start-next v.texts v.sections g s o.group in
            let few = slice_get_within (row_list v.texts v.sections s) h.to _ h.foot.name in
            let head = h.head in
            let message = h.message in
            let x = row-there v g n s o.group (omega arith) (omega arith) in
            let at = number-at v x.2 in
            let first : n ≡ head_row v g i → ⊥ = λ z. true≢false (sym (eq-eqb n _ z) ∙ ne) in
            let last : n ≡ message_row v a.position → ⊥ = λ z. true≢false (sym (eq-eqb n _ z) ∙ nm) in
            let name = name-of v x.2 in
            let low : h.from < x.0 = omega arith in
            let high : x.0 < h.to = omega arith in
            rw (← x.3) (both_true (between-gutter x.0 x.1 x.2 name low high) (between-passes x.0 x.1 x.2 name low high))
      ]
    ]

    pub stroke-passes : list_all (λ n. read v has_gutter s n && bar_test n) (between (head_row v g i) (message_row v a.position + 1)) ≡ true
    stroke-passes =
        let from : ℕ = head_row v g i in
        let to : ℕ = message_row v a.position in
        list_all-true _ _ (all-range _ from (to + 1 - from) (λ j less. row-passes (from + j) (omega arith) (omega arith)))
