-- The row of a label within one line tells what the label is: no corner stands in the gutter, the strokes begin at the column where it is
-- attached, and its message ends the row.
use Rattle.ariadne_picture.specs.ReadBack.Rows.{Known}
use Rattle.std.proofs.Common.{◌≡◌, ℕ, ◌+◌, ◌-◌, ◌<◌, Bool, true, false, not, ◌||◌, List, [], ◌∷◌, ◌++◌, length, Option, Some, None, refl, sym}
use Rattle.std.proofs.Common.{ap, ◌∙◌, subst, arith, inl, inr, ◌⊎◌}
use Rattle.std.specs.List.{prefix_len}
use Rattle.std.proofs.lemmas.Bool.{cond_both, le-ltb, ne_eqb, false_from_ne_true}
use Rattle.std.proofs.lemmas.List.{length-append}
use Rattle.ariadne_picture.specs.declared.switches.CharSet.{CharSet}
use Rattle.ariadne_picture.specs.declared.cell.Glyph.{Glyph}
use Rattle.ariadne_picture.specs.declared.cell.Glyph.TheVariants.{Blank, Vbar, Lbot}
use Rattle.ariadne_picture.specs.declared.cell.Ink.{Ink}
use Rattle.ariadne_picture.specs.declared.cell.Paint.{Paint}
use Rattle.ariadne_picture.specs.declared.label_info.LabelInfo.{LabelInfo}
use Rattle.ariadne_picture.specs.declared.label_info.LineLabel.{LineLabel}
use Rattle.ariadne_picture.specs.Ranks.{Sheet, is_inline, is_start, is_on_one_line}
use Rattle.ariadne_picture.specs.Rows.{Row, arrow}
use Rattle.ariadne_picture.specs.Columns.{layout_of, column_of}
use Rattle.ariadne_picture.specs.Strokes.{bar_at, is_crossed, vertical_at, spot_of}
use Rattle.ariadne_picture.specs.Cells.{below_ink, turn_ink, column_ink, arrow_ink, arrow_place}
use Rattle.ariadne_picture.specs.Pieces.{Piece, Section, blank_piece, plain_text, message_at}
use Rattle.ariadne_picture.specs.Canvas.{Cell}
use Rattle.ariadne_picture.specs.Placing.Cells.{is_glyph, is_level}
use Rattle.ariadne_picture.specs.Placing.Group.{set_of, text_cell}
use Rattle.ariadne_picture.specs.Placing.Rows.{row_at, cell_at}
use Rattle.ariadne_picture.specs.Readings.{attach_column}
use Rattle.ariadne_picture.specs.ReadBack.Rows.{line_of, text_begin}
use Rattle.ariadne_picture.specs.ReadBack.Answer.{gutter_turn, message_of_row, attach_of_row, told_with, told_by}
use Rattle.ariadne_picture.specs.ReadBack.Labels.{told_within}
use Rattle.ariadne_picture.proofs.Lists.Elements.{left-true, right-true}
use Rattle.ariadne_picture.proofs.Labels.LabelsAtLine.{IsInlineHere}
use Rattle.ariadne_picture.proofs.Rows.RowNumbers.{at-back}
use Rattle.ariadne_picture.proofs.Cells.InkCells.{glyph_cell, ink_cell, shows-glyph, shows-level}
use Rattle.ariadne_picture.proofs.Reading.InlineTraces.{shows-inline}
use Rattle.ariadne_picture.proofs.Reading.MessagePlaces.{IsMessage, message-place}
use Rattle.ariadne_picture.proofs.Reading.MessageRows.{message-shown}
use Rattle.ariadne_picture.proofs.Reading.PlaceCounts.{ArePlaced, column-place}
use Rattle.ariadne_picture.proofs.Reading.Pictures.{Picture, rows_of, number, message_row}
use Rattle.ariadne_picture.proofs.Reading.ShownLine.{IsArrowRow, arrow-at}
use Rattle.ariadne_picture.proofs.Reading.TextRows.{IsTextRow, area, arrow_inks, arrow-text, row-length, text-at}
use Rattle.ariadne_picture.proofs.OneReading.InlineRows.{shows, IsLeft, IsOwn, left-no-own, inline-left, inline-own}
use Rattle.ariadne_picture.proofs.OneReading.StrokesFound.{lbot-only}
use Rattle.ariadne_picture.proofs.ReadingBack.RowPlaces.{group-is}
use Rattle.ariadne_picture.proofs.ReadingBack.FirstCells.{IsFound, IsSilent, first-of-all, turns-nowhere, places-text}
use Rattle.ariadne_picture.proofs.Parts.{has_corner, arrow_ink_by}

-- ---- bars alone

-- a bar, or nothing
abbrev pub IsBarInk : Ink → Type 0
IsBarInk ink = ((ink.first ≡ Vbar) ⊎ (ink.first ≡ Blank)) × (ink.rest ≡ Blank)

pub below-bars : (s : Sheet) (x : Row) (i : ℕ) → IsBarInk (below_ink s x i)
unfolding below_ink
below-bars s x i = cond_both (bar_at s x i) _ _ IsBarInk (λ _. (inl refl, refl)) (λ _. (inr refl, refl))

-- a glyph that another glyph alone shows
pub silent-glyph : (v : Picture) (s : Section) (shown glyph : Glyph) (paint : Paint)
    → ((set : CharSet) (glyph : Glyph) → shows set glyph shown ≡ true → glyph ≡ shown) → (glyph ≡ shown → ⊥)
    → is_glyph (set_of s) shown (glyph_cell v s glyph paint) ≡ false
unfolding is_glyph
silent-glyph v s shown glyph paint only other = false_from_ne_true _ (λ e. other (only (set_of s) glyph e))

-- a bar is no other stroke
pub silent-bar : (v : Picture) (s : Section) (shown : Glyph) (ink : Ink)
    → ((set : CharSet) (glyph : Glyph) → shows set glyph shown ≡ true → glyph ≡ shown) → (Vbar ≡ shown → ⊥) → (Blank ≡ shown → ⊥)
    → IsBarInk ink → IsSilent v s (is_glyph (set_of s) shown) ink
silent-bar v s shown ink only no_bar no_blank h = record {
  first = silent-glyph v s shown ink.first ink.first_paint only
      (λ e. elim h.0 [ inl b ↦ no_bar (sym b ∙ e) | inr b ↦ no_blank (sym b ∙ e) ]);
  rest = silent-glyph v s shown ink.rest ink.rest_paint only (λ e. no_blank (sym h.1 ∙ e));
}

-- ---- the strokes of a label within a line

-- a corner, or a horizontal
abbrev own_stroke : CharSet → Cell → Bool
own_stroke set c = is_glyph set Lbot c || is_level set c

no-own-stroke : (v : Picture) (s : Section) (glyph : Glyph) (paint : Paint) → IsLeft glyph → own_stroke (set_of s) (glyph_cell v s glyph paint) ≡ false
unfolding is_glyph is_level
no-own-stroke v s glyph paint left = let h = left-no-own (set_of s) glyph left in rw (h.no_lbot, h.no_hbar, h.no_xbar) refl

an-own-stroke : (v : Picture) (s : Section) (glyph : Glyph) (paint : Paint) → IsOwn glyph → own_stroke (set_of s) (glyph_cell v s glyph paint) ≡ true
an-own-stroke v s glyph paint (inl e) = left-true _ _ (shows-glyph v s glyph paint e)
an-own-stroke v s glyph paint (inr e) = right-true _ _ (shows-level v s glyph paint e)

-- ---- the row of a line label

module _ (v : Picture) (sources : List Known) {g : ℕ} {s : Section} {l r : ℕ} {x : LineLabel} (q : IsArrowRow v g s l r x) where
  -- its number
  abbrev pub row : ℕ
  row = number v g s (arrow l r)

  -- the inks of its places
  abbrev pub label_ink : ℕ → Ink
  label_ink k =
      arrow_ink_by s.sheet.switches r x (has_corner (layout_of s.sheet l).margin x k) (is_crossed x.side x.place k) (vertical_at (layout_of s.sheet l) r k)

  pub inks-are : (k : ℕ) → arrow_inks s l r k ≡ label_ink k
  unfolding layout_of arrow_place spot_of
  inks-are k = ap (λ o. arrow_place s.sheet.switches (layout_of s.sheet l) r o k) q.there

  -- what stands behind them, if the label is no start
  abbrev pub message : List Piece
  message = blank_piece ∷ plain_text (message_at v.texts x.info.position) ∷ []

  pub row-text : is_start x.side ≡ false → IsTextRow v g s (arrow l r) (area s l (arrow_inks s l r) ++ message)
  unfolding layout_of
  row-text off = rw (message-shown v.texts _ x q.there off) at (arrow-text v (arrow-at v q))

  -- its last cell is its message
  pub message-told : is_start x.side ≡ false → message_of_row (rows_of v) sources v.texts.switches row ≡ message_at v.texts x.info.position
  unfolding message_of_row
  message-told off =
      let places = area s l (arrow_inks s l r) in
      let text = row-text off in
      let size = row-length v text in
      let two = length-append places message in
      let o : length (row_at (rows_of v) row) - 1 ≡ text_cell s + (length places + 1) = omega (arith, size, two) in
      ap (λ c. (cell_at (rows_of v) row c).text) o
      ∙ ap (λ (c : Cell). c.text) (text-at v text (length places + 1) (plain_text (message_at v.texts x.info.position)) (at-back places message 1))

  -- ---- a label within the line

  -- its gutter has bars alone
  pub inline-gutter : is_inline x.side ≡ true → (j : ℕ) → IsBarInk (column_ink s.sheet (arrow l r) j)
  unfolding column_ink turn_ink
  inline-gutter within j = let e = q.there in rw (e, within) (below-bars s.sheet (arrow l r) j)

  module _ (placed : ArePlaced v) (k : IsInlineHere s.sheet l x) (line : line_of (rows_of v) sources v.texts.switches row ≡ l)
      (begin : text_begin (rows_of v) sources v.texts.switches row ≡ text_cell s) where
    -- no blank is in front of its corner but those of bars
    left-rest : (j : ℕ) → j < x.place → (label_ink j).rest ≡ Blank
    unfolding is_crossed arrow_ink
    left-rest j less =
        let off : has_corner (layout_of s.sheet l).margin x j ≡ false = rw (ne_eqb x.place j (λ e. omega arith)) refl in
        let free : is_crossed x.side x.place j ≡ false = ap (λ side. is_crossed side x.place j) k.side ∙ le-ltb x.place j (omega arith) in
        rw (off, free) (go (vertical_at (layout_of s.sheet l) r j))
      where
        go : (up : Option LineLabel) → (arrow_ink_by s.sheet.switches r x false false up).rest ≡ Blank
        go None = refl
        go (Some w) = refl

    within : is_inline x.side ≡ true
    unfolding is_inline
    within = ap is_inline k.side

    no_start : is_start x.side ≡ false
    unfolding is_start
    no_start = ap is_start k.side

    -- no stroke turns in the gutter
    pub no-turn : (glyph : Glyph) → ((set : CharSet) (other : Glyph) → shows set other glyph ≡ true → other ≡ glyph) → (Vbar ≡ glyph → ⊥) → (Blank ≡ glyph → ⊥)
        → gutter_turn (rows_of v) sources v.texts.switches glyph row ≡ None
    no-turn glyph only no_bar no_blank =
        turns-nowhere v (row-text no_start) sources begin glyph
        (λ j less. silent-bar v s glyph (column_ink s.sheet (arrow l r) j) only no_bar no_blank (inline-gutter within j))

    -- its strokes begin where it is attached
    pub attach-told : attach_of_row (rows_of v) sources v.texts.switches row ≡ attach_column s x.info
    unfolding attach_of_row
    attach-told =
        let same = sym (v.drawn.same_switches g s q.line.group) in
        let places = places-text v (row-text no_start) sources begin l (arrow_inks s l r) message 2 refl refl in
        let few = column-place s.sheet (placed g s q.line.group) l r x q.there (inr (inr k)) in
        (λ i. prefix_len (λ c. not (own_stroke (same i).char_set c)) (places i))
        ∙ first-of-all v s (own_stroke (set_of s)) l (arrow_inks s l r) x.place (omega arith)
        (λ j less some. subst (IsSilent v s (own_stroke (set_of s))) (sym (inks-are j)) (record {
          first = no-own-stroke v s (label_ink j).first (label_ink j).first_paint (inline-left v q k.side j less);
          rest = no-own-stroke v s (label_ink j).rest (label_ink j).rest_paint (inr (inr (left-rest j less)));
        }))
        (λ j more.
        ap (λ ink. own_stroke (set_of s) (ink_cell v s ink)) (inks-are j)
        ∙ an-own-stroke v s (label_ink j).first (label_ink j).first_paint (inline-own v q k.side j more))
        ∙ (λ i. column_of s.sheet.switches (layout_of s.sheet (sym k.line i)) (k.place i))

    -- so the row tells what the label is
    pub told : told_by (rows_of v) sources v.texts.switches row ≡ told_within (message_at v.texts) g s x.info
    unfolding told_by told_with told_within
    told =
        let group = group-is v sources (arrow-at v q) (omega arith) in
        let there : line_of (rows_of v) sources v.texts.switches row ≡ x.info.start_line = line ∙ sym k.line in
        ap (told_with (rows_of v) sources v.texts.switches row) (no-turn Lbot lbot-only (λ e. cc) (λ e. cc))
        ∙ (λ i. record {
          group = group i;
          start = None;
          end = record { line = there i; column = Some (attach-told i) };
          message = message-told no_start i;
        })

-- ---- the row of the message of a label within one line

module _ (v : Picture) (sources : List Known) (placed : ArePlaced v)
    (arrow_found : (g : ℕ) (s : Section) (l r : ℕ) (x : LineLabel) → IsArrowRow v g s l r x → IsFound v sources g s l (arrow l r)) where
  pub told-within : {g : ℕ} {s : Section} {a : LabelInfo} → IsMessage v g s a → is_on_one_line a ≡ true
      → told_by (rows_of v) sources v.texts.switches (message_row v a.position) ≡ told_within (message_at v.texts) g s a
  told-within {g} {s} {a} m one =
      let h = message-place v m in
      let f = arrow_found g s a.end_line h.rank h.label h.arrow_row in
      ap (told_by (rows_of v) sources v.texts.switches) h.row
      ∙ told v sources h.arrow_row placed (shows-inline v placed one h) f.line f.begin ∙ ap (told_within (message_at v.texts) g s) h.shows.info
