-- The row of the end of a label over several lines tells what the label is: its corner in the gutter leads up to its head, and the head to the
-- line and the column where the label starts.
use Rattle.ariadne_picture.specs.ReadBack.Rows.{Known}
use Rattle.std.proofs.Common.{◌≡◌, ℕ, suc, ◌+◌, ◌-◌, ◌<◌, Bool, true, false, not, ◌&&◌, ◌||◌, List, length, map, Option, Some, None, refl, sym, ap, ◌∙◌}
use Rattle.std.proofs.Common.{subst, arith, inl, inr, ◌⊎◌, ◌==◌, if◌then◌else◌}
use Rattle.std.specs.List.{list_any}
use Rattle.std.specs.Cmp.Derive.{both_true}
use Rattle.std.proofs.Math.Bool.{and-false}
use Rattle.std.proofs.lemmas.Bool.{cond_both, cond-true, cond-false, cases_Bool, eq-eqb, eqb-true, ne_eqb, lt-ltb, ltb-true, le-ltb, true≢false, false_from_ne_true}
use Rattle.ariadne_picture.specs.declared.switches.CharSet.{CharSet}
use Rattle.ariadne_picture.specs.declared.switches.CharSet.TheVariants.{Unicode, Ascii}
use Rattle.ariadne_picture.specs.declared.switches.Switches.{Switches}
use Rattle.ariadne_picture.specs.declared.label_info.LabelInfo.{LabelInfo}
use Rattle.ariadne_picture.specs.declared.label_info.LineLabel.{LineLabel}
use Rattle.ariadne_picture.specs.declared.label_info.Side.TheVariants.{Starts, Ends}
use Rattle.ariadne_picture.specs.declared.cell.Glyph.{Glyph}
use Rattle.ariadne_picture.specs.declared.cell.Glyph.TheVariants.{Blank, Hbar, Vbar, VbarGap, Xbar, Uarrow, Ltop, Lbot, Rbot, Mbot, Lcross}
use Rattle.ariadne_picture.specs.declared.cell.Ink.{Ink}
use Rattle.ariadne_picture.specs.Ranks.{is_inline, is_start, is_margin, margin_label}
use Rattle.ariadne_picture.specs.Rows.{source, arrow}
use Rattle.ariadne_picture.specs.Columns.{layout_of, width, column_of}
use Rattle.ariadne_picture.specs.Strokes.{is_at_margin, is_crossed, vertical_at}
use Rattle.ariadne_picture.specs.Cells.{glyph_code, ink_of, arrow_ink, corner_glyph, turn_ink, column_ink}
use Rattle.ariadne_picture.specs.Pieces.{Section, glyph_text, message_at}
use Rattle.ariadne_picture.specs.Canvas.{Cell, cell_of}
use Rattle.ariadne_picture.specs.Placing.Cells.{is_text, is_glyph, is_level}
use Rattle.ariadne_picture.specs.Placing.Group.{set_of, shown_lines, column_cell, has_cell}
use Rattle.ariadne_picture.specs.Placing.Rows.{between, cell_at, gutter_cell}
use Rattle.ariadne_picture.specs.Placing.GutterBars.{is_gap_row, is_bar, has_gutter}
use Rattle.ariadne_picture.specs.ReadBack.Rows.{last_before, line_row}
use Rattle.ariadne_picture.specs.ReadBack.Answer.{End, first_showing, start_of_head, head_of, told_with, told_by}
use Rattle.ariadne_picture.specs.ReadBack.Labels.{gutter_end, told_over}
use Rattle.ariadne_picture.proofs.Lists.Elements.{left-true}
use Rattle.ariadne_picture.proofs.Rows.RowsThere.{range-at}
use Rattle.ariadne_picture.proofs.Rows.BarCases.{first-before-last}
use Rattle.ariadne_picture.proofs.Cells.InkCells.{ink_cell, shows-glyph}
use Rattle.ariadne_picture.proofs.Reading.EndTraces.{its-message, its-end, its-margin, end-corner, head-corner}
use Rattle.ariadne_picture.proofs.Reading.GutterBars.{stroke-passes}
use Rattle.ariadne_picture.proofs.Reading.GutterCells.{column_shows, column-few}
use Rattle.ariadne_picture.proofs.Reading.GutterSpans.{span}
use Rattle.ariadne_picture.proofs.Reading.HeadPlaces.{IsGutterLabelOf, gutter-label-lines, margin-line, head-at-margin, head-place}
use Rattle.ariadne_picture.proofs.Reading.InOrder.{by-order}
use Rattle.ariadne_picture.proofs.Reading.MessagePlaces.{two-true}
use Rattle.ariadne_picture.proofs.Reading.MessageRows.{message-hidden}
use Rattle.ariadne_picture.proofs.Reading.PlaceCounts.{ArePlaced, column-place}
use Rattle.ariadne_picture.proofs.Reading.Pictures.{Picture, rows_of, read, number, source_row, message_row, head_row}
use Rattle.ariadne_picture.proofs.Reading.ShownLine.{IsShownLine, IsArrowRow, arrow-at, places_of, source-row-is}
use Rattle.ariadne_picture.proofs.Reading.TextRows.{area, arrow_inks, arrow-text}
use Rattle.ariadne_picture.proofs.OneReading.InlineRows.{shows, IsLeft, passes-at, column-le, column-next}
use Rattle.ariadne_picture.proofs.OneReading.LinesFound.{text-equal}
use Rattle.ariadne_picture.proofs.OneReading.MessagesFound.{or-cases}
use Rattle.ariadne_picture.proofs.OneReading.StrokesFound.{lbot-only, ltop-only}
use Rattle.ariadne_picture.proofs.ReadingBack.RowKinds.{line-kind}
use Rattle.ariadne_picture.proofs.ReadingBack.RowPlaces.{last-is, group-is}
use Rattle.ariadne_picture.proofs.ReadingBack.BlockRows.{block-line, block-below}
use Rattle.ariadne_picture.proofs.ReadingBack.FirstCells.{IsFound, IsSilent, first-of-one, first-of-none, showing-none, showing-some, turns-at, places-text, area-columns}
use Rattle.ariadne_picture.proofs.ReadingBack.ToldWithin.{IsBarInk, below-bars, silent-bar, label_ink, inks-are, message, row-text, message-told}
use Rattle.ariadne_picture.proofs.Parts.{has_corner, arrow_ink_by}

-- ---- which strokes are no corners

-- what an arrow row shows off its corner: a horizontal, or a vertical under it
abbrev IsPlain : Glyph → Type 0
IsPlain glyph = (glyph ≡ Hbar) ⊎ ((glyph ≡ Xbar) ⊎ (glyph ≡ Blank))

no-mbot : (set : CharSet) → (shows set Hbar Mbot ≡ false) × (shows set Xbar Mbot ≡ false) × (shows set Blank Mbot ≡ false)
unfolding glyph_text glyph_code lib.Utf8.encode
no-mbot Unicode = (refl, refl, refl)
no-mbot Ascii = (refl, refl, refl)

-- none of these is the corner of an end
plain-no-mbot : (set : CharSet) (glyph : Glyph) → IsPlain glyph → shows set glyph Mbot ≡ false
plain-no-mbot set glyph (inl e) = subst (λ glyph. shows set glyph Mbot ≡ false) (sym e) (no-mbot set).0
plain-no-mbot set glyph (inr (inl e)) = subst (λ glyph. shows set glyph Mbot ≡ false) (sym e) (no-mbot set).1
plain-no-mbot set glyph (inr (inr e)) = subst (λ glyph. shows set glyph Mbot ≡ false) (sym e) (no-mbot set).2

-- the corner of a start is of no other glyph
rbot-only : (set : CharSet) (glyph : Glyph) → shows set glyph Rbot ≡ true → glyph ≡ Rbot
unfolding glyph_text glyph_code lib.Utf8.encode
rbot-only Unicode Rbot e = refl
rbot-only Ascii Rbot e = refl
rbot-only Unicode glyph e = absurd (true≢false (sym e))
rbot-only Ascii glyph e = absurd (true≢false (sym e))

plain-no-rbot : (glyph : Glyph) → IsPlain glyph → glyph ≡ Rbot → ⊥
plain-no-rbot glyph (inl a) e = let z : Hbar ≡ Rbot = sym a ∙ e in cc
plain-no-rbot glyph (inr (inl a)) e = let z : Xbar ≡ Rbot = sym a ∙ e in cc
plain-no-rbot glyph (inr (inr a)) e = let z : Blank ≡ Rbot = sym a ∙ e in cc

left-no-rbot : (glyph : Glyph) → IsLeft glyph → glyph ≡ Rbot → ⊥
left-no-rbot glyph (inl a) e = let z : Uarrow ≡ Rbot = sym a ∙ e in cc
left-no-rbot glyph (inr (inl a)) e = let z : Vbar ≡ Rbot = sym a ∙ e in cc
left-no-rbot glyph (inr (inr a)) e = let z : Blank ≡ Rbot = sym a ∙ e in cc

-- a cell that shows another stroke is no head
no-head : (set : CharSet) (glyph : Glyph) (c : Cell) → (glyph ≡ Ltop → ⊥) → is_glyph set glyph c ≡ true → is_glyph set Ltop c ≡ false
unfolding is_glyph
no-head set glyph c other e =
    ap (λ t. is_text t (glyph_text set Ltop)) (text-equal c.text (glyph_text set glyph) e)
    ∙ false_from_ne_true _ (λ z. other (ltop-only set glyph z))

-- the horizontal of an arrow row off its corner
level-plain : (switches : Switches) (r : ℕ) (x : LineLabel) (up : Option LineLabel)
    → IsPlain (arrow_ink_by switches r x false true up).first × IsPlain (arrow_ink_by switches r x false true up).rest
unfolding arrow_ink
level-plain switches r x None = (inl refl, inl refl)
level-plain switches r x (Some w) =
    cond_both switches.cross_gap (ink_of Hbar Hbar x.info) (ink_of Xbar Blank x.info) (λ (ink : Ink). IsPlain ink.first × IsPlain ink.rest)
    (λ _. (inl refl, inl refl)) (λ _. (inr (inl refl), inr (inr refl)))

-- what it shows off both
free-left : (switches : Switches) (r : ℕ) (x : LineLabel) (up : Option LineLabel)
    → IsLeft (arrow_ink_by switches r x false false up).first × ((arrow_ink_by switches r x false false up).rest ≡ Blank)
unfolding arrow_ink
free-left switches r x None = (inr (inr refl), refl)
free-left switches r x (Some w) =
    (cond_both (not (is_inline w.side) && (r == 0) && switches.compact) Uarrow Vbar IsLeft (λ _. inl refl) (λ _. inr (inl refl)), refl)

abbrev end_at : ℕ → Option ℕ → End
end_at l c = record { line = l; column = c }

same-end : (l m : ℕ) (c d : Option ℕ) → l ≡ m → c ≡ d → end_at l c ≡ end_at m d
same-end l m c d e f = λ j. end_at (e j) (f j)

-- ---- the row of a start or an end

module _ (v : Picture) (sources : List Known) {g : ℕ} {s : Section} {l r : ℕ} {x : LineLabel} (q : IsArrowRow v g s l r x) where
  -- left of its own column bars go on
  turn-gutter : is_inline x.side ≡ false → (j : ℕ) → j < x.gutter_column → IsBarInk (column_ink s.sheet (arrow l r) j)
  unfolding column_ink turn_ink
  turn-gutter out j less =
      let e = q.there in
      let other = ne_eqb x.gutter_column j (λ z. omega arith) in
      let before = le-ltb x.gutter_column j (omega arith) in
      rw (e, out, other, before) (below-bars s.sheet (arrow l r) j)

  off-corner : (j : ℕ) → (x.place ≡ j → ⊥) → has_corner (layout_of s.sheet l).margin x j ≡ false
  off-corner j other = rw (ne_eqb x.place j other) refl

  -- ---- the column of its corner

  module _ (corner : Glyph) (few : x.place < places_of s l)
      (others : (j : ℕ) → (x.place ≡ j → ⊥) → IsSilent v s (is_glyph (set_of s) corner) (label_ink v sources q j)) where
    abbrev test : Cell → Bool
    test = is_glyph (set_of s) corner

    abbrev cells : List Cell
    cells = map (cell_of v.palette) (area s l (arrow_inks s l r))

    silent : (j : ℕ) → IsSilent v s test (label_ink v sources q j) → IsSilent v s test (arrow_inks s l r j)
    silent j h = subst (IsSilent v s test) (sym (inks-are v sources q j)) h

    -- none, where its place has no cell or no corner
    no-column : (0 < width s.sheet.switches (layout_of s.sheet l) x.place → IsSilent v s test (label_ink v sources q x.place))
        → first_showing (set_of s) corner cells ≡ None
    no-column own =
        showing-none (set_of s) corner cells
        (first-of-none v s test l (arrow_inks s l r) (λ j less some. silent j (elim (cases_Bool (x.place == j)) [
          | inl same ↦ let e = eqb-true x.place j same in
              subst (λ j. IsSilent v s test (label_ink v sources q j)) e (own (subst (λ j. 0 < width s.sheet.switches (layout_of s.sheet l) j) (sym e) some))
          | inr differ ↦ others j (λ e. true≢false (sym (eq-eqb x.place j e) ∙ differ))
        ])) ∙ sym (area-columns v s l (arrow_inks s l r)))

    -- else that of its place
    the-column : 0 < width s.sheet.switches (layout_of s.sheet l) x.place → (label_ink v sources q x.place).first ≡ corner
        → first_showing (set_of s) corner cells ≡ Some (column_of s.sheet.switches (layout_of s.sheet l) x.place)
    the-column some on =
        let y = layout_of s.sheet l in
        let next = column-next s.sheet.switches y x.place in
        let rest = column-le s.sheet.switches y (suc x.place) (places_of s l) (omega arith) in
        let long = area-columns v s l (arrow_inks s l r) in
        showing-some (set_of s) corner cells (column_of s.sheet.switches y x.place)
        (first-of-one v s test l (arrow_inks s l r) x.place few (λ j less _. silent j (others j (λ e. omega arith))) some
        (ap (λ ink. test (ink_cell v s ink)) (inks-are v sources q x.place) ∙ shows-glyph v s _ (label_ink v sources q x.place).first_paint on))
        (omega (arith, next, rest, long, some))

    -- both cases in one
    column-is : (at_margin : Bool) → (is_margin (layout_of s.sheet l).margin x ≡ at_margin) → corner_glyph x.side ≡ corner
        → (at_margin ≡ true → IsSilent v s test (label_ink v sources q x.place))
        → first_showing (set_of s) corner cells
        ≡ (if at_margin || not (has_cell s l x.place) then None else Some (column_of s.sheet.switches (layout_of s.sheet l) x.place))
    unfolding has_cell arrow_ink
    column-is true margin glyph own = no-column (λ _. own refl)
    column-is false margin glyph own = elim (cases_Bool (has_cell s l x.place)) [
      | inl some ↦
          let on : has_corner (layout_of s.sheet l).margin x x.place ≡ true = both_true (eq-eqb x.place x.place refl) (ap not margin) in
          let first : (label_ink v sources q x.place).first ≡ corner = rw on glyph in
          the-column (ltb-true 0 _ some) first ∙ sym (cond-false _ _ _ (ap not some))
      | inr none ↦
          no-column (λ some. absurd (true≢false (sym (lt-ltb 0 _ some) ∙ none)))
          ∙ sym (cond-true _ _ _ (ap not none))
    ]

  -- ---- what stands off its corner

  -- in the row of an end a horizontal at all places
  pub end-silent : x.side ≡ Ends → (j : ℕ) → has_corner (layout_of s.sheet l).margin x j ≡ false
      → IsSilent v s (is_glyph (set_of s) Mbot) (label_ink v sources q j)
  unfolding is_crossed is_glyph
  end-silent side j off =
      let level : is_crossed x.side x.place j ≡ true = ap (λ side. is_crossed side x.place j) side in
      let plain = level-plain s.sheet.switches r x (vertical_at (layout_of s.sheet l) r j) in
      rw (off, level) (record { first = plain-no-mbot (set_of s) _ plain.0; rest = plain-no-mbot (set_of s) _ plain.1 })

  -- in that of a start a horizontal before it, and verticals of others behind it
  pub start-silent : x.side ≡ Starts → (j : ℕ) → (x.place ≡ j → ⊥) → IsSilent v s (is_glyph (set_of s) Rbot) (label_ink v sources q j)
  unfolding is_crossed is_glyph
  start-silent side j differ =
      let off = off-corner j differ in
      elim (cases_Bool (is_crossed x.side x.place j)) [
        | inl level ↦
            let plain = level-plain s.sheet.switches r x (vertical_at (layout_of s.sheet l) r j) in
            rw (off, level) (record {
              first = false_from_ne_true _ (λ e. plain-no-rbot _ plain.0 (rbot-only (set_of s) _ e));
              rest = false_from_ne_true _ (λ e. plain-no-rbot _ plain.1 (rbot-only (set_of s) _ e));
            })
        | inr free ↦
            let left = free-left s.sheet.switches r x (vertical_at (layout_of s.sheet l) r j) in
            rw (off, free) (record {
              first = false_from_ne_true _ (λ e. left-no-rbot _ left.0 (rbot-only (set_of s) _ e));
              rest = false_from_ne_true _ (λ e. left-no-rbot _ (inr (inr left.1)) (rbot-only (set_of s) _ e));
            })
      ]

-- ---- a label over several lines

module _ (v : Picture) (sources : List Known) (placed : ArePlaced v)
    (source_found : (g : ℕ) (s : Section) (l : ℕ) → IsShownLine v g s l → IsFound v sources g s l (source l))
    (arrow_found : (g : ℕ) (s : Section) (l r : ℕ) (x : LineLabel) → IsArrowRow v g s l r x → IsFound v sources g s l (arrow l r))
    {g : ℕ} {s : Section} {i : ℕ} {a : LabelInfo} (o : IsGutterLabelOf v g s i a) where
  same-switches : v.texts.switches ≡ s.sheet.switches
  same-switches = sym (v.drawn.same_switches g s o.group)

  -- ---- its head

  -- between its head and its end no other head stands in its column
  bar-no-head : (n : ℕ) → (n == head_row v g i) ≡ false → (n == message_row v a.position) ≡ false → read v is_bar g s i a n ≡ true
      → column_shows v s n i Ltop ≡ false
  unfolding is_bar is_level
  bar-no-head n first last on =
      let c : Cell = gutter_cell (rows_of v) s n i in
      let other : (glyph : Glyph) → (glyph ≡ Ltop → ⊥) → is_glyph (set_of s) glyph c ≡ true → is_glyph (set_of s) Ltop c ≡ false = λ glyph. no-head (set_of s) glyph c in
      let vbar : is_glyph (set_of s) Vbar c ≡ true → is_glyph (set_of s) Ltop c ≡ false = other Vbar (λ e. cc) in
      let lcross : is_glyph (set_of s) Lcross c ≡ true → is_glyph (set_of s) Ltop c ≡ false = other Lcross (λ e. cc) in
      let gap : is_glyph (set_of s) VbarGap c ≡ true → is_glyph (set_of s) Ltop c ≡ false = other VbarGap (λ e. cc) in
      let hbar : is_glyph (set_of s) Hbar c ≡ true → is_glyph (set_of s) Ltop c ≡ false = other Hbar (λ e. cc) in
      let xbar : is_glyph (set_of s) Xbar c ≡ true → is_glyph (set_of s) Ltop c ≡ false = other Xbar (λ e. cc) in
      by-cases (list_any (λ l. source_row v g l == n) (shown_lines s)) (read v is_gap_row (set_of s) n) _ _ _ (is_glyph (set_of s) Ltop c ≡ false)
      (λ h. elim (or-cases _ _ h) [ inl z ↦ vbar z | inr z ↦ lcross z ]) gap
      (λ h. elim (or-cases _ _ h) [ inl z ↦ vbar z | inr z ↦ elim (or-cases _ _ (two-true _ _ z).1) [ inl y ↦ hbar y | inr y ↦ xbar y ] ])
      (sym (cond-false _ _ _ last) ∙ sym (cond-false _ _ _ first) ∙ on)
    where
      by-cases : (line gap a b c : Bool) (P : Type 0) → (a ≡ true → P) → (b ≡ true → P) → (c ≡ true → P)
          → (if line then a else if gap then b else c) ≡ true → P
      by-cases true gap a b c P f g h e = f e
      by-cases false true a b c P f g h e = g e
      by-cases false false a b c P f g h e = h e

  head-above : head_row v g i < message_row v a.position
  head-above =
      let h = span v o in
      let less = by-order v h.top h.foot (first-before-last s.sheet i a (record { owned = o.owned; rises = (gutter-label-lines v o).1 })) in
      let head = h.head in
      let message = h.message in
      omega arith

  -- so it is found from its end
  head-found : head_of (rows_of v) sources v.texts.switches (message_row v a.position) (column_cell s i) ≡ head_row v g i
  unfolding head_of
  head-found =
      let from : ℕ = head_row v g i in
      let to : ℕ = message_row v a.position in
      ap (λ (switches : Switches). last_before (λ m. is_glyph switches.char_set Ltop (cell_at (rows_of v) m (column_cell s i))) to) same-switches
      ∙ last-is (λ m. column_shows v s m i Ltop) to from head-above (head-corner v o) (λ n low high.
      let j : ℕ = n - from in
      let z : from + j ≡ n = omega arith in
      let passes = passes-at _ (between from (to + 1)) j n (stroke-passes v o placed (span v o)) (range-at from (to + 1 - from) j (omega arith) ∙ ap Some z) in
      bar-no-head n (ne_eqb n from (λ e. omega arith)) (ne_eqb n to (λ e. omega arith)) (two-true (read v has_gutter s n) _ passes).1)

  -- the row of a line is the last above itself that shows one
  own-line : {l : ℕ} → IsShownLine v g s l → line_row (rows_of v) sources v.texts.switches (number v g s (source l)) ≡ number v g s (source l)
  unfolding line_row last_before
  own-line h = cond-true _ _ _ (line-kind v sources (source-row-is v h))

  -- the head of the margin label stands beside its line
  head-beside : is_at_margin s.sheet a.start_line i ≡ true
      → start_of_head (rows_of v) sources v.texts.switches (head_row v g i) ≡ gutter_end (message_at v.texts) g s i a.start_line a.start_place
  unfolding start_of_head gutter_end
  head-beside at =
      let line = margin-line v o at in
      let n : ℕ = number v g s (source a.start_line) in
      let own : (line_row (rows_of v) sources v.texts.switches n == n) ≡ true = eq-eqb _ _ (own-line line) in
      let none : (is_at_margin s.sheet a.start_line i || not (has_cell s a.start_line a.start_place)) ≡ true = left-true _ _ at in
      ap (start_of_head (rows_of v) sources v.texts.switches) (head-at-margin v o at)
      ∙ same-end _ a.start_line _ None (source_found g s a.start_line line).line (cond-true _ None _ own)
      ∙ same-end a.start_line a.start_line None _ refl (sym (cond-true _ None _ none))

  -- that of another below it, at its corner
  head-below : is_at_margin s.sheet a.start_line i ≡ false
      → start_of_head (rows_of v) sources v.texts.switches (head_row v g i) ≡ gutter_end (message_at v.texts) g s i a.start_line a.start_place
  unfolding start_of_head gutter_end is_inline is_start is_crossed corner_glyph layout_of
  head-below off =
      let h = head-place v o off in
      let l = a.start_line in
      let x = h.label in
      let q = h.arrow_row in
      let n : ℕ = number v g s (arrow l h.rank) in
      let f = arrow_found g s l h.rank x q in
      let out : is_inline x.side ≡ false = ap is_inline h.start.side in
      let no_margin : is_margin (margin_label s.sheet.labels l) x ≡ false = its-margin v o l x out h.gutter_column ∙ off in
      let place : x.place ≡ a.start_place = h.start.place ∙ ap (λ (a : LabelInfo). a.start_place) h.info in
      let few = column-place s.sheet (placed g s o.group) l h.rank x q.there (inl h.start) in
      let top = block-line v sources q.line q.index (arrow l h.rank) q.row in
      let below = block-below v sources q.line q.index (arrow l h.rank) q.row in
      let apart : (line_row (rows_of v) sources v.texts.switches n == n) ≡ false = ne_eqb _ n (λ e. omega (arith, e, top, below)) in
      let text = places-text v (arrow-text v (arrow-at v q)) sources f.begin l (arrow_inks s l h.rank) _ 0 refl
      (ap length (message-hidden v.texts _ x q.there (ap is_start h.start.side))) in
      let column = column-is v sources q Rbot few (λ j differ. start-silent v sources q h.start.side j differ) false no_margin (ap corner_glyph h.start.side)
      (λ e. absurd (true≢false (sym e))) in
      ap (start_of_head (rows_of v) sources v.texts.switches) h.row
      ∙ same-end _ l _ _ f.line (cond-false _ None _ apart
      ∙ (λ j. first_showing (same-switches j).char_set Rbot (text j))
      ∙ column)
      ∙ (λ j. record {
        line = l;
        column = if sym off j || not (has_cell s l (place j)) then None else Some (column_of s.sheet.switches (layout_of s.sheet l) (place j));
      })

  head-told : start_of_head (rows_of v) sources v.texts.switches (head_row v g i) ≡ gutter_end (message_at v.texts) g s i a.start_line a.start_place
  head-told = elim (cases_Bool (is_at_margin s.sheet a.start_line i)) [ inl at ↦ head-beside at | inr off ↦ head-below off ]

  -- ---- its end

  -- so the row of its message tells what the label is
  pub told : told_by (rows_of v) sources v.texts.switches (message_row v a.position) ≡ told_over (message_at v.texts) g s i a
  unfolding told_by told_with told_over gutter_end is_inline is_start is_crossed corner_glyph layout_of
  told =
      let h = its-message v o in
      let k = its-end v o h in
      let l = a.end_line in
      let x = h.label in
      let q = h.arrow_row in
      let n : ℕ = number v g s (arrow l h.rank) in
      let f = arrow_found g s l h.rank x q in
      let out : is_inline x.side ≡ false = ap is_inline k.0.side in
      let no_start : is_start x.side ≡ false = ap is_start k.0.side in
      let margin : is_margin (margin_label s.sheet.labels l) x ≡ is_at_margin s.sheet l i = its-margin v o l x out k.1 in
      let place : x.place ≡ a.end_place = k.0.place ∙ ap (λ (a : LabelInfo). a.end_place) h.shows.info in
      let few = column-place s.sheet (placed g s o.group) l h.rank x q.there (inr (inl k.0)) in
      let row = row-text v sources q no_start in
      let corner = subst (λ n. column_shows v s n i Lbot ≡ true) h.row (end-corner v o) in
      let turn = turns-at v row sources f.begin Lbot i (column-few o)
      (λ j less. silent-bar v s Lbot (column_ink s.sheet (arrow l h.rank) j) lbot-only (λ e. cc) (λ e. cc) (turn-gutter v sources q out j (omega (arith, k.1)))) corner in
      let text = places-text v row sources f.begin l (arrow_inks s l h.rank) (message v sources q) 2 refl refl in
      let column = column-is v sources q Mbot few (λ j differ. end-silent v sources q k.0.side j (off-corner v sources q j differ))
      (is_at_margin s.sheet l i) margin (ap corner_glyph k.0.side)
      (λ at. end-silent v sources q k.0.side x.place (ap (λ b. (x.place == x.place) && not b) (margin ∙ at) ∙ and-false (x.place == x.place))) in
      let group = group-is v sources (arrow-at v q) (omega arith) in
      let head : head_of (rows_of v) sources v.texts.switches n (column_cell s i) ≡ head_row v g i =
      ap (λ n. head_of (rows_of v) sources v.texts.switches n (column_cell s i)) (sym h.row) ∙ head-found in
      let start = ap (start_of_head (rows_of v) sources v.texts.switches) head ∙ head-told in
      let message = message-told v sources q no_start ∙ ap (λ (a : LabelInfo). message_at v.texts a.position) h.shows.info in
      let end = (λ j. first_showing (same-switches j).char_set Mbot (text j)) ∙ column
      ∙ (λ j. if is_at_margin s.sheet l i || not (has_cell s l (place j)) then None else Some (column_of s.sheet.switches (layout_of s.sheet l) (place j))) in
      ap (told_by (rows_of v) sources v.texts.switches) h.row
      ∙ ap (told_with (rows_of v) sources v.texts.switches n) turn
      ∙ (λ j. record { group = group j; start = Some (start j); end = record { line = f.line j; column = end j }; message = message j })
