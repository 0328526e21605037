-- The ends of gutter traces: a gutter label's head leads into its column, and its arrow comes out of it to its message.
use Rattle.std.proofs.Common.{◌≡◌, ◌≢◌, ℕ, ◌+◌, ◌-◌, ◌<◌, ◌≤◌, true, false, not, ◌&&◌, Some, refl, sym, ap, ◌∙◌, subst, arith, ◌==◌, nat_lt, inl, inr}
use Rattle.std.specs.Cmp.Derive.{both_true}
use Rattle.std.proofs.lemmas.Bool.{cond-true, cond-false, cases_Bool, eq-eqb, ne_eqb, le-leb, true≢false}
use Rattle.std.proofs.Math.Bool.{and-false}
use Rattle.ariadne_picture.specs.declared.label_info.LabelInfo.{LabelInfo}
use Rattle.ariadne_picture.specs.declared.label_info.LineLabel.{LineLabel}
use Rattle.ariadne_picture.specs.declared.label_info.Side.{Side}
use Rattle.ariadne_picture.specs.declared.label_info.Side.TheVariants.{Starts, Ends}
use Rattle.ariadne_picture.specs.declared.cell.Glyph.{Glyph}
use Rattle.ariadne_picture.specs.declared.cell.Glyph.TheVariants.{Rarrow, Ltop, Lbot}
use Rattle.ariadne_picture.specs.Ranks.{Sheet, is_inline, is_start, is_on_one_line, span_len, multi_line_labels, gutter_labels, margin_label}
use Rattle.ariadne_picture.specs.Ranks.{is_of_gutter_label, is_margin}
use Rattle.ariadne_picture.specs.Rows.{source, arrow}
use Rattle.ariadne_picture.specs.Columns.{layout_of}
use Rattle.ariadne_picture.specs.Strokes.{is_crossed, is_at_margin, first_row, has_tee, bar_at}
use Rattle.ariadne_picture.specs.Cells.{corner_glyph, margin_glyph, turn_glyph}
use Rattle.ariadne_picture.specs.Pieces.{Section}
use Rattle.ariadne_picture.specs.Placing.Cells.{is_level}
use Rattle.std.specs.List.{list_all}
use Rattle.ariadne_picture.specs.Placing.Group.{set_of, arrow_column, shown_lines}
use Rattle.ariadne_picture.specs.Placing.Rows.{holds_at_places}
use Rattle.ariadne_picture.specs.Placing.GutterEnds.{is_level_right_of, is_end_traced, is_start_traced, leads_on, is_pointed, has_ends_of_gutter_traces}
use Rattle.ariadne_picture.proofs.Reading.PlaceCells.{label-corner, label-level, label-traced}
use Rattle.ariadne_picture.proofs.Labels.LabelsAtLine.{IsHere, IsEndHere, gutter-labels-owned, apart, increasing-part}
use Rattle.ariadne_picture.proofs.Labels.LineLabels.{multi-line, two-lines}
use Rattle.ariadne_picture.proofs.Lists.Elements.{Has, all-range, all-numbered, list_all-true, left-true, right-true}
use Rattle.ariadne_picture.proofs.Lists.ListFacts.{all-at, Increasing}
use Rattle.ariadne_picture.proofs.Rows.BarCases.{at-margin}
use Rattle.ariadne_picture.proofs.Rows.RowOrder.{before-irreflexive}
use Rattle.ariadne_picture.proofs.Rows.RowsThere.{gutter-label-message}
use Rattle.ariadne_picture.proofs.Reading.GutterCells.{own-glyph, column_shows, gutter-glyph, second-glyph, level-right, few, arrow-few}
use Rattle.ariadne_picture.proofs.Cells.GutterInks.{bar-beside, leave-beside, cross-beside, level-beside, head-beside, own-arrow, behind-arrow}
use Rattle.ariadne_picture.proofs.Reading.HeadPlaces.{IsGutterLabelOf, margin-of, margin-line, head-at-margin, head-place}
use Rattle.ariadne_picture.proofs.Reading.InOrder.{increasing-filter, increasing-in_order}
use Rattle.ariadne_picture.proofs.Reading.PlaceCounts.{ArePlaced, column-place}
use Rattle.ariadne_picture.proofs.Reading.MessagePlaces.{MessagePlace, label-here, message-place}
use Rattle.ariadne_picture.proofs.Reading.Pictures.{rows_of, Picture, placing_of, read, number, every-group, message_row, head_row}
use Rattle.ariadne_picture.proofs.Reading.ShownLine.{IsArrowRow, arrow-at, IsShownLine, places_of, source-is, places-are, source-row-is, every-line}
use Rattle.ariadne_picture.proofs.Reading.TextRows.{source-text, arrow-text}
use Rattle.ariadne_picture.proofs.Parts.{has_bar}

-- gutter labels have different positions, as labels have
gutter-labels-apart : (s : Sheet) → Increasing (λ (a b : LabelInfo). a.position ≢ b.position) s.labels
    → Increasing (λ (a b : LabelInfo). a.position ≢ b.position) (gutter_labels s.labels)
unfolding gutter_labels multi_line_labels
gutter-labels-apart s h =
    let R : LabelInfo → LabelInfo → Type 0 = λ a b. a.position ≢ b.position in
    increasing-filter R (λ a. a.has_message) (multi_line_labels s.labels)
    (increasing-in_order R (λ a b. nat_lt (span_len b) (span_len a)) _ (λ a b ne e. ne (sym e))
    (increasing-filter R (λ a. not (is_on_one_line a)) s.labels h))

module _ (v : Picture) {g : ℕ} {s : Section} {i : ℕ} {a : LabelInfo} (o : IsGutterLabelOf v g s i a) where
  -- ---- the line labels of a gutter label

  -- it has a message, and so a row for it
  pub its-message : MessagePlace v g s a
  its-message =
      let here = all-at (Has s.sheet.labels) _ i a o.owned (gutter-labels-owned s.sheet) in
      message-place v (record { group = o.group; index = here.place; there = here.there; message = gutter-label-message s.sheet i a o.owned })

  -- the line label there is its end, as it is no start and of no other position
  pub its-end : (h : MessagePlace v g s a) → IsEndHere s.sheet a.end_line h.label × (h.label.gutter_column ≡ i)
  unfolding is_start
  its-end h = go (label-here s.sheet a.end_line h.rank h.label h.arrow_row.there)
    where
      go : IsHere s.sheet a.end_line h.label → IsEndHere s.sheet a.end_line h.label × (h.label.gutter_column ≡ i)
      go (inl k) = absurd (true≢false (sym (ap is_start k.side) ∙ h.shows.no_start))
      go (inr (inl k)) = (
        k,
        apart (λ (a : LabelInfo). a.position) (gutter_labels s.sheet.labels) h.label.gutter_column i h.label.info a
            (gutter-labels-apart s.sheet (increasing-part _ (λ (s : Section). s.sheet.labels) v.sections g s v.drawn.numbers o.group))
            k.owned o.owned (cc),
      )
      go (inr (inr k)) = absurd (true≢false (sym k.one_line ∙ ap is_on_one_line h.shows.info ∙ multi-line s.sheet i a o.owned))

  -- its start or end is the margin label where the margin label is of it
  pub its-margin : (l : ℕ) (x : LineLabel) → is_inline x.side ≡ false → x.gutter_column ≡ i
      → is_margin (margin_label s.sheet.labels l) x ≡ is_at_margin s.sheet l i
  unfolding is_margin
  its-margin l x out same = rw out (ap (is_of_gutter_label (margin_label s.sheet.labels l)) same)

  -- ---- beside a line whose margin label it is

  module _ {l : ℕ} (h : IsShownLine v g s l) (at : is_at_margin s.sheet l i ≡ true) where
    -- the arrow head is in the last column
    margin-arrow : column_shows v s (number v g s (source l)) (arrow_column s) Rarrow ≡ true
    margin-arrow =
        let m = margin-of (margin_label s.sheet.labels l) i at in
        gutter-glyph v (source-text v (source-row-is v h)) _ (arrow-few o) (head-beside s.sheet l m.0 m.1)

    -- its own column has its glyph, where no bar of its own is
    pub margin-leaves : (side : Side) → bar_at s.sheet (source l) i ≡ false
        → ((m : LineLabel) → margin_label s.sheet.labels l ≡ Some m → m.side ≡ side)
        → column_shows v s (number v g s (source l)) i (margin_glyph side) ≡ true
    margin-leaves side no_bar f =
        let m = margin-of (margin_label s.sheet.labels l) i at in
        own-glyph o (source-text v (source-row-is v h))
        (leave-beside s.sheet l i m.0 no_bar m.1 (few o) m.2 ∙ ap margin_glyph (f m.0 m.1))

  -- ---- the arrow row of its start or end

  module _ {l r : ℕ} {x : LineLabel} (q : IsArrowRow v g s l r x) (out : is_inline x.side ≡ false) (same : x.gutter_column ≡ i) where
    -- it turns in its column, and the gutter is level behind
    turns : (glyph : Glyph) → turn_glyph x.side ≡ glyph → column_shows v s (number v g s (arrow l r)) i glyph ≡ true
    turns glyph e =
        own-glyph o (arrow-text v (arrow-at v q))
        (rw (own-arrow s.sheet l r i x q.there out same) e)

    -- and the inks behind its own column are level
    turn-level : read v is_level_right_of s i (number v g s (arrow l r)) ≡ true
    turn-level =
        level-right v (arrow-text v (arrow-at v q)) i (rw (own-arrow s.sheet l r i x q.there out same) refl)
        (λ j more less. behind-arrow s.sheet l r j x q.there out (omega arith))

    -- its places are level off its corner, as far as its horizontal reaches
    off-corner : (b c : ℕ) → c ≤ places_of s l → ((k : ℕ) → b ≤ k → k < c → (x.place ≢ k) × (is_crossed x.side x.place k ≡ true))
        → holds_at_places (rows_of v) (placing_of v) g s l (number v g s (arrow l r)) b c (is_level (set_of s)) ≡ true
    off-corner b c fits f =
        label-level v q b c fits (λ k low high. let e = f k low high in (rw (ne_eqb x.place k e.0) refl, e.1))

  -- ---- its end

  -- no bar of its own stands on the source row where it ends as the margin label: there is its tee
  pub tee-no-bar : is_at_margin s.sheet a.end_line i ≡ true → bar_at s.sheet (source a.end_line) i ≡ false
  unfolding bar_at has_tee
  tee-no-bar at = ap (has_bar s.sheet i (source a.end_line)) o.owned ∙ (rw (eq-eqb a.end_line a.end_line refl, at) (and-false _))

  -- the margin label is its end there, as it does not start at that line
  pub end-side : is_at_margin s.sheet a.end_line i ≡ true → (m : LineLabel) → margin_label s.sheet.labels a.end_line ≡ Some m → m.side ≡ Ends
  end-side at m there =
      let h = at-margin s.sheet a.end_line i a o.owned at in
      elim h.is [
        | inl k ↦ absurd (two-lines s.sheet i a o.owned k.1)
        | inr k ↦ cc
      ]

  -- the row of its message has its corner
  pub end-corner : column_shows v s (message_row v a.position) i Lbot ≡ true
  unfolding is_inline turn_glyph
  end-corner =
      let h = its-message in
      let k = its-end h in
      rw h.row (turns h.arrow_row (ap is_inline k.0.side) k.1 Lbot (ap turn_glyph k.0.side))

  -- its arrow row is level up to its place and behind it; there stands its corner, or the level goes on
  end-traced : ArePlaced v → read v is_end_traced g s i a ≡ true
  unfolding is_end_traced is_inline is_crossed corner_glyph turn_glyph margin_glyph layout_of
  end-traced placed =
      let h = its-message in
      let k = its-end h in
      let l = a.end_line in
      let x = h.label in
      let q = h.arrow_row in
      let out : is_inline x.side ≡ false = ap is_inline k.0.side in
      let column : a.end_place ≡ x.place = cc in
      let in_range : x.place < places_of s l = column-place s.sheet (placed g s o.group) l h.rank x q.there (inr (inl k.0)) in
      let places = places-are v q.line in
      let margin : is_margin (margin_label s.sheet.labels l) x ≡ is_at_margin s.sheet l i = its-margin l x out k.1 in
      let crossed : (c : ℕ) → is_crossed x.side x.place c ≡ true = λ c. ap (λ side. is_crossed side x.place c) k.0.side in
      let front = off-corner q out k.1 0 x.place (omega arith) (λ c low high. (λ z. omega arith, crossed c)) in
      let back =
      off-corner q out k.1 (x.place + 1) ((placing_of v).places g l) (omega (arith, places)) (λ c low high. (λ z. omega arith, crossed c)) in
      rw (column, h.row) (both_true (both_true (both_true (both_true (turns q out k.1 Lbot (ap turn_glyph k.0.side))
      (turn-level q out k.1)) front) back) (elim (cases_Bool (is_at_margin s.sheet l i)) [
        | inl at ↦
            let level = label-level v q x.place (x.place + 1) (omega arith) (λ c low high.
            (ap (λ b. (x.place == c) && not b) (margin ∙ at) ∙ and-false (x.place == c), crossed c)) in
            cond-true _ _ _ at ∙ both_true (both_true level
            (rw (source-is v q.line) (margin-leaves q.line at Ends (tee-no-bar at) (end-side at))))
            (rw (source-is v q.line) (margin-arrow q.line at))
        | inr off ↦
            cond-false _ _ _ off
            ∙ both_true (label-corner v q (ap corner_glyph k.0.side) in_range (margin ∙ off)) (label-traced v q (margin ∙ off) in_range)
      ]))

  -- ---- its head

  -- no bar of its own stands on the source row of its head
  head-no-bar : is_at_margin s.sheet a.start_line i ≡ true → bar_at s.sheet (source a.start_line) i ≡ false
  unfolding bar_at first_row
  head-no-bar at = ap (has_bar s.sheet i (source a.start_line)) o.owned ∙ (rw at (rw (before-irreflexive (source a.start_line)) refl))

  -- the margin label is its start there, as it does not end at that line
  start-side : is_at_margin s.sheet a.start_line i ≡ true → (m : LineLabel) → margin_label s.sheet.labels a.start_line ≡ Some m → m.side ≡ Starts
  start-side at m there =
      let h = at-margin s.sheet a.start_line i a o.owned at in
      elim h.is [
        | inl k ↦ cc
        | inr k ↦ absurd (two-lines s.sheet i a o.owned (sym k.1))
      ]

  -- the row of its head has its corner
  pub head-corner : column_shows v s (head_row v g i) i Ltop ≡ true
  unfolding is_inline turn_glyph margin_glyph
  head-corner = elim (cases_Bool (is_at_margin s.sheet a.start_line i)) [
    | inl at ↦
        rw (head-at-margin v o at) (margin-leaves (margin-line v o at) at Starts (head-no-bar at) (start-side at))
    | inr off ↦
        let h = head-place v o off in
        rw h.row (turns h.arrow_row (ap is_inline h.start.side) h.gutter_column Ltop (ap turn_glyph h.start.side))
  ]

  -- from there its arrow head follows, or its row is level up to its corner in the text
  start-traced : ArePlaced v → read v is_start_traced g s i a ≡ true
  unfolding is_start_traced is_inline is_crossed corner_glyph layout_of
  start-traced placed = both_true head-corner (elim (cases_Bool (is_at_margin s.sheet a.start_line i)) [
    | inl at ↦
        cond-true _ _ _ at ∙ rw (head-at-margin v o at) (margin-arrow (margin-line v o at) at)
    | inr off ↦
        let h = head-place v o off in
        let l = a.start_line in
        let x = h.label in
        let q = h.arrow_row in
        let out : is_inline x.side ≡ false = ap is_inline h.start.side in
        let column : a.start_place ≡ x.place = cc in
        let in_range : x.place < places_of s l = column-place s.sheet (placed g s o.group) l h.rank x q.there (inl h.start) in
        let no_margin : is_margin (margin_label s.sheet.labels l) x ≡ false = its-margin l x out h.gutter_column ∙ off in
        let front =
        off-corner q out h.gutter_column 0 x.place (omega arith) (λ c low high. (
          λ z. omega arith,
          ap (λ side. is_crossed side x.place c) h.start.side ∙ le-leb c x.place (omega arith),
        )) in
        cond-false _ _ _ off ∙ rw (column, h.row) (both_true (both_true (both_true (turn-level q out h.gutter_column) front)
        (label-corner v q (ap corner_glyph h.start.side) in_range no_margin)) (label-traced v q no_margin in_range))
  ])

  -- ---- beside a line whose margin label it is, up to the arrow head

  module _ {l : ℕ} (h : IsShownLine v g s l) (at : is_at_margin s.sheet l i ≡ true) where
    -- no bar of its own stands there
    beside-no-bar : bar_at s.sheet (source l) i ≡ false
    beside-no-bar = elim (at-margin s.sheet l i a o.owned at).is [
      | inl k ↦ subst (λ l. is_at_margin s.sheet l i ≡ true → bar_at s.sheet (source l) i ≡ false) k.1 head-no-bar at
      | inr k ↦ subst (λ l. is_at_margin s.sheet l i ≡ true → bar_at s.sheet (source l) i ≡ false) k.1 tee-no-bar at
    ]

    -- from its column on there is a second cell of the horizontal where no bar stands
    on : (j : ℕ) → i ≤ j → j < arrow_column s → bar_at s.sheet (source l) j ≡ false → read v leads_on s (number v g s (source l)) j ≡ true
    unfolding leads_on
    on j more less no_bar =
        let m = margin-of (margin_label s.sheet.labels l) i at in
        let own = m.2 in
        let size = arrow-few o in
        elim (cases_Bool s.sheet.switches.compact) [
          | inl tight ↦ left-true _ _ tight
          | inr loose ↦
              right-true _ _ (second-glyph v (source-text v (source-row-is v h)) j (omega (arith, size)) loose
              (level-beside s.sheet l j m.0 no_bar m.1 less (omega (arith, own))))
        ]

    -- so its stroke goes on to the arrow head, under bars
    pointed : read v is_pointed g s i l ≡ true
    unfolding is_pointed
    pointed =
        let m = margin-of (margin_label s.sheet.labels l) i at in
        let text = source-text v (source-row-is v h) in
        let own = m.2 in
        let size = arrow-few o in
        right-true _ _ (both_true (rw (source-is v h) (on i (omega arith) (few o) beside-no-bar))
        (list_all-true _ _ (all-range _ (i + 1) (arrow_column s - (i + 1)) (λ k less.
        let j : ℕ = i + 1 + k in
        rw (source-is v h) (elim (cases_Bool (bar_at s.sheet (source l) j)) [
          | inl bar ↦ left-true _ _ (gutter-glyph v text j (omega (arith, size)) (bar-beside s.sheet l j bar))
          | inr no_bar ↦
              right-true _ _ (both_true (gutter-glyph v text j (omega (arith, size))
              (cross-beside s.sheet l j m.0 no_bar m.1 (omega arith) (omega arith))) (on j (omega arith) (omega arith) no_bar))
        ])))))

  -- so its end, its head and its strokes beside lines are traced
  ends-traced : ArePlaced v
      → (read v is_end_traced g s i a && read v is_start_traced g s i a && list_all (read v is_pointed g s i) (shown_lines s)) ≡ true
  unfolding is_pointed
  ends-traced placed =
      both_true (both_true (end-traced placed) (start-traced placed))
      (list_all-true _ _ (every-line v g s _ o.group (λ l h. elim (cases_Bool (is_at_margin s.sheet l i)) [
        | inl at ↦ pointed h at
        | inr off ↦ left-true _ _ (ap not off)
      ])))

-- every report's picture has the ends of its gutter traces
pub end-traces : (v : Picture) → ArePlaced v → read v has_ends_of_gutter_traces ≡ true
unfolding has_ends_of_gutter_traces
end-traces v placed =
    every-group v _ (λ g s e. list_all-true _ _ (all-numbered _ _ (λ i a owned.
    let o : IsGutterLabelOf v g s i a = record { group = e; owned = owned } in ends-traced v o placed)))
