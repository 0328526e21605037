-- The corner of a head stands in the gutter of the arrow row of its start, and of no other line label.
use Rattle.ariadne_picture.specs.ReadBack.Rows.{Known}
use Rattle.std.proofs.Common.{◌≡◌, ℕ, true, false, not, ◌&&◌, ◌==◌, List, Some, None, refl, sym, ap, ◌∙◌, subst, arith, inl, inr, nat_lt}
use Rattle.std.specs.Prelude.{slice_get}
use Rattle.std.proofs.lemmas.Bool.{cond_both, eqb-true, true≢false}
use Rattle.ariadne_picture.specs.declared.switches.CharSet.{CharSet}
use Rattle.ariadne_picture.specs.declared.switches.CharSet.TheVariants.{Unicode, Ascii}
use Rattle.ariadne_picture.specs.declared.cell.Glyph.{Glyph}
use Rattle.ariadne_picture.specs.declared.cell.Glyph.TheVariants.{Blank, Hbar, Vbar, Xbar, Ltop}
use Rattle.ariadne_picture.specs.declared.cell.Ink.{Ink}
use Rattle.ariadne_picture.specs.declared.cell.Paint.TheVariants.{Plain}
use Rattle.ariadne_picture.specs.declared.label_info.LineLabel.{LineLabel}
use Rattle.ariadne_picture.specs.declared.label_info.Side.{Side}
use Rattle.ariadne_picture.specs.declared.label_info.Side.TheVariants.{Inline, Starts, Ends}
use Rattle.ariadne_picture.specs.Ranks.{Sheet, is_inline, is_start, line_labels}
use Rattle.ariadne_picture.specs.Rows.{Row, arrow}
use Rattle.ariadne_picture.specs.Strokes.{bar_at}
use Rattle.ariadne_picture.specs.Cells.{glyph_code, ink, ink_of, blanks, gutter_label_paint, turn_glyph, below_ink, turn_ink, column_ink}
use Rattle.ariadne_picture.specs.Pieces.{Section, glyph_text}
use Rattle.ariadne_picture.specs.Placing.Cells.{is_glyph}
use Rattle.ariadne_picture.specs.Placing.Group.{set_of, column_cell, text_cell}
use Rattle.ariadne_picture.specs.ReadBack.Rows.{text_begin}
use Rattle.ariadne_picture.specs.ReadBack.Answer.{gutter_turn}
use Rattle.ariadne_picture.proofs.Cells.GutterInks.{own-arrow}
use Rattle.ariadne_picture.proofs.Reading.GutterCells.{own-glyph, column-few}
use Rattle.ariadne_picture.proofs.Reading.HeadPlaces.{IsGutterLabelOf}
use Rattle.ariadne_picture.proofs.Reading.MessagePlaces.{label-here}
use Rattle.ariadne_picture.proofs.Reading.Pictures.{Picture, rows_of, number}
use Rattle.ariadne_picture.proofs.Reading.ShownLine.{IsArrowRow, arrow-at}
use Rattle.ariadne_picture.proofs.Reading.TextRows.{arrow-text}
use Rattle.ariadne_picture.proofs.OneReading.InlineRows.{shows}
use Rattle.ariadne_picture.proofs.ReadingBack.FirstCells.{IsSilent, turns-nowhere, turns-at}

-- ---- inks without it

-- no other glyph shows it
other-than-top : (set : CharSet) (glyph : Glyph) → (glyph ≡ Ltop → ⊥) → shows set glyph Ltop ≡ false
unfolding glyph_text glyph_code lib.Utf8.encode
other-than-top set Ltop h = absurd (h refl)
other-than-top Unicode glyph h = refl
other-than-top Ascii glyph h = refl

abbrev IsNoTop : Ink → Type 0
IsNoTop ink = (ink.first ≡ Ltop → ⊥) × (ink.rest ≡ Ltop → ⊥)

silent-top : (v : Picture) (s : Section) (ink : Ink) → IsNoTop ink → IsSilent v s (is_glyph (set_of s) Ltop) ink
unfolding is_glyph
silent-top v s ink h = record { first = other-than-top (set_of s) ink.first h.0; rest = other-than-top (set_of s) ink.rest h.1 }

below-no-top : (h : Sheet) (row : Row) (i : ℕ) → IsNoTop (below_ink h row i)
unfolding below_ink
below-no-top h row i =
    cond_both (bar_at h row i) (ink Vbar (gutter_label_paint h i) Blank Plain) blanks IsNoTop (λ _. ((λ e. cc), (λ e. cc))) (λ _. ((λ e. cc), (λ e. cc)))

turn-no-top : (side : Side) → is_start side ≡ false → turn_glyph side ≡ Ltop → ⊥
unfolding is_start turn_glyph
turn-no-top Inline off e = cc
turn-no-top Starts off e = true≢false off
turn-no-top Ends off e = cc

-- in the arrow row of a line label no column has it but that of a start
ink-no-top : (h : Sheet) (l r i : ℕ) (x : LineLabel) → slice_get (line_labels h.labels l) r ≡ Some x → (x.gutter_column ≡ i → is_start x.side ≡ false)
    → IsNoTop (column_ink h (arrow l r) i)
unfolding column_ink turn_ink
ink-no-top h l r i x e off =
    let row = arrow l r in
    subst (λ o. IsNoTop (turn_ink h row i o)) (sym e)
    (cond_both (is_inline x.side) (below_ink h row i) _ IsNoTop (λ _. below-no-top h row i) (λ _.
    cond_both (x.gutter_column == i) (ink_of (turn_glyph x.side) Hbar x.info) _ IsNoTop
    (λ own. ((λ e. turn-no-top x.side (off (eqb-true x.gutter_column i own)) e), (λ e. cc))) (λ _.
    cond_both (nat_lt x.gutter_column i) _ (below_ink h row i) IsNoTop
    (λ _. cond_both (bar_at h row i && not h.switches.cross_gap) (ink_of Xbar Hbar x.info) (ink_of Hbar Hbar x.info) IsNoTop
    (λ _. ((λ e. cc), (λ e. cc))) (λ _. ((λ e. cc), (λ e. cc)))) (λ _. below-no-top h row i))))

-- ---- arrow rows

module _ (v : Picture) (sources : List Known) {g : ℕ} {s : Section} {l r : ℕ} {x : LineLabel} (q : IsArrowRow v g s l r x)
    (begin : text_begin (rows_of v) sources v.texts.switches (number v g s (arrow l r)) ≡ text_cell s) where
  -- that of a start turns in its own column
  pub head-turns : is_start x.side ≡ true
      → gutter_turn (rows_of v) sources v.texts.switches Ltop (number v g s (arrow l r)) ≡ Some (column_cell s x.gutter_column)
  unfolding is_start is_inline turn_glyph
  head-turns on = elim (label-here s.sheet l r x q.there) [
    | inl k ↦
        let text = arrow-text v (arrow-at v q) in
        let o : IsGutterLabelOf v g s x.gutter_column x.info = record { group = q.line.group; owned = k.owned } in
        let top : (column_ink s.sheet (arrow l r) x.gutter_column).first ≡ Ltop =
        ap (λ (ink : Ink). ink.first) (own-arrow s.sheet l r x.gutter_column x q.there (ap is_inline k.side) refl) ∙ ap turn_glyph k.side in
        turns-at v text sources begin Ltop x.gutter_column (column-few o)
        (λ j less. silent-top v s (column_ink s.sheet (arrow l r) j) (ink-no-top s.sheet l r j x q.there (λ same. absurd (omega (arith, less, same)))))
        (own-glyph o text top)
    | inr (inl k) ↦ absurd (true≢false (sym on ∙ ap is_start k.side))
    | inr (inr k) ↦ absurd (true≢false (sym on ∙ ap is_start k.side))
  ]

  -- and no other has that turn
  pub no-head-turns : is_start x.side ≡ false → gutter_turn (rows_of v) sources v.texts.switches Ltop (number v g s (arrow l r)) ≡ None
  no-head-turns off =
      turns-nowhere v (arrow-text v (arrow-at v q)) sources begin Ltop
      (λ j few. silent-top v s (column_ink s.sheet (arrow l r) j) (ink-no-top s.sheet l r j x q.there (λ own. off)))
