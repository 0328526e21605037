-- Characters have the colours of the labels that are chosen for them, and underlines those of the preferred ones.
use Rattle.std.proofs.Common.{◌≡◌, ℕ, zero, suc, ◌+◌, ◌-◌, ◌<◌, Bool, true, false, not, ◌&&◌, ◌||◌, List, [], ◌∷◌, map, Option, Some, None, refl, sym, ap, ◌∙◌, arith, ◌==◌, inl, inr, if◌then◌else◌}
use Rattle.std.specs.Prelude.{slice_get, option_to_list}
use Rattle.std.specs.List.{list_all, list_any}
use Rattle.std.specs.Cmp.Derive.{both_true}
use Rattle.std.specs.Cmp.Lexicographic.{pointwise}
use Rattle.std.proofs.lemmas.Bool.{cases_Bool, cond-true, eq-eqb, not-true}
use Rattle.ariadne_color.specs.declared.color.Color.{Color}
use Rattle.ariadne_picture.specs.declared.label_info.LineLabel.{LineLabel}
use Rattle.ariadne_picture.specs.declared.switches.CharSet.{CharSet}
use Rattle.ariadne_picture.specs.declared.switches.CharSet.TheVariants.{Unicode, Ascii}
use Rattle.ariadne_picture.specs.declared.switches.Switches.{Switches}
use Rattle.ariadne_picture.specs.declared.cell.Glyph.TheVariants.{Underline, Underbar}
use Rattle.ariadne_picture.specs.declared.cell.Ink.{Ink}
use Rattle.ariadne_picture.specs.declared.cell.Paint.{Paint}
use Rattle.ariadne_picture.specs.Ranks.{multi_line_labels}
use Rattle.ariadne_picture.specs.Rows.{alternate, is_lone}
use Rattle.ariadne_picture.specs.Strokes.{vertical_at, underline_at, underline_row}
use Rattle.ariadne_picture.specs.Cells.{glyph_code, paint_of, alternate_ink, alternate_place}
use Rattle.ariadne_picture.specs.Columns.{Layout, layout_of, width}
use Rattle.ariadne_picture.specs.Pieces.{Piece, Section, glyph_text, shown_pieces}
use Rattle.ariadne_picture.specs.Canvas.{Cell, cell_of, color_of}
use Rattle.ariadne_picture.specs.Placing.Cells.{is_text, is_glyph}
use Rattle.ariadne_picture.specs.Placing.Group.{set_of, place_cell, has_underlines}
use Rattle.ariadne_picture.specs.Placing.Rows.{cell_at}
use Rattle.ariadne_picture.specs.LabelColors.{is_color}
use Rattle.ariadne_picture.specs.LoneLines.{holder}
use Rattle.ariadne_picture.specs.TextColors.{are_characters_colored, is_holder_shown, are_underlines_colored, has_text_colors}
use Rattle.ariadne_picture.proofs.Cells.CanvasRows.{map-map}
use Rattle.ariadne_picture.proofs.Cells.InkCells.{glyph_cell, ink_cell, shows-glyph}
use Rattle.ariadne_picture.proofs.Cells.RowCells.{ink-head, ink-tail}
use Rattle.ariadne_picture.proofs.Lists.Elements.{all-range, list_all-true, left-true, right-true}
use Rattle.ariadne_picture.proofs.Reading.ColoredStrokes.{color-same}
use Rattle.ariadne_picture.proofs.Reading.InlineTraces.{block-first}
use Rattle.ariadne_picture.proofs.Reading.LabelTraces.{place-cells, place-cell-is}
use Rattle.ariadne_picture.proofs.Reading.MessagePlaces.{two-true}
use Rattle.ariadne_picture.proofs.Reading.Pictures.{Picture, RowAt, rows_of, placing_of, source_row, number, number-at}
use Rattle.ariadne_picture.proofs.Reading.ShownLine.{IsShownLine, rows_above, places_of, places-are, source-at, source-is, source-row-is, block-row-is, every-shown-line}
use Rattle.ariadne_picture.proofs.Reading.TextRows.{alternate_inks, alternate-text, source-text, text-cells}

-- colours are themselves
colors-same : (xs : List (Option Color)) → pointwise is_color xs xs ≡ true
colors-same [] = refl
colors-same (x ∷ xs) = both_true (color-same x) (colors-same xs)

colors-equal : (xs ys : List (Option Color)) → xs ≡ ys → pointwise is_color xs ys ≡ true
colors-equal xs ys same = ap (λ ys. pointwise is_color xs ys) (sym same) ∙ colors-same xs

-- a tee above an underline is none
tee-other : (set : CharSet) → is_text (glyph_text set Underbar) (glyph_text set Underline) ≡ false
unfolding glyph_text glyph_code lib.Utf8.encode
tee-other Unicode = refl
tee-other Ascii = refl

-- what the picture shows in a paint
abbrev pub colors_of : Picture → Paint → Option Color
colors_of v = color_of v.palette

module _ (v : Picture) {g : ℕ} {s : Section} {l : ℕ} (h : IsShownLine v g s l) where
  characters-colored : are_characters_colored (rows_of v) v.sections (placing_of v) (colors_of v) g s l ≡ true
  unfolding are_characters_colored
  characters-colored =
      let colors : List Cell → List (Option Color) = map (λ (c : Cell). c.color) in
      rw (source-is v h) (colors-equal _ _ (ap colors (text-cells v (source-text v (source-row-is v h)))
      ∙ map-map (λ (c : Cell). c.color) (cell_of v.palette) _
      ∙ ap (λ (switches : Switches). map (λ (q : Piece). colors_of v q.paint)
      (shown_pieces switches (multi_line_labels s.sheet.labels) (layout_of s.sheet l))) (sym (v.drawn.same_switches g s h.group))))

  -- where underlines are drawn they stand in the first row below the line
  module _ (on : has_underlines s l ≡ true) where
    abbrev switches : Switches
    switches = s.sheet.switches

    abbrev y : Layout
    y = layout_of s.sheet l

    abbrev r : ℕ
    r = underline_row y

    drawn : (switches.underlines ≡ true) × (switches.compact ≡ false) × (slice_get (Rattle.ariadne_picture.proofs.Rows.RowOrder.shown_rows s.sheet l) 0 ≡ Some (alternate l r))
    unfolding layout_of
    drawn =
        let two = two-true (switches.underlines && not switches.compact) (list_any (λ (x : LineLabel). x.info.has_message) y.labels || is_lone s.sheet l) on in
        let one = two-true switches.underlines (not switches.compact) two.0 in
        let loose = not-true switches.compact one.1 in
        (one.0, loose, block-first s.sheet l loose two.1)

    is : RowAt v g s (rows_above v h + suc 0) (alternate l r)
    is = block-row-is v h 0 (alternate l r) drawn.2

    below : number v g s (alternate l r) ≡ source_row v g l + 1
    below = let n = number-at v is in let src = source-at v h in omega (arith, n, src)

    -- the ink of a place that a label holds: its underline, or a vertical with an underline
    ink-is : (k : ℕ) (x : LineLabel) → holder s l k ≡ Some x → alternate_inks v s l r k ≡ alternate_ink v.texts.multiline_arrows r (vertical_at y r k) (Some x)
    unfolding alternate_place underline_at holder
    ink-is k x e =
        ap (alternate_ink v.texts.multiline_arrows r (vertical_at y r k))
        (cond-true (switches.underlines && (r == r)) _ _ (both_true drawn.0 (eq-eqb r r refl)) ∙ e)

    -- cell c, of an ink whose first cell is this one, passes
    abbrev passes : LineLabel → Cell → Cell → Bool
    passes x first c =
        if is_glyph (set_of s) Underline first then is_color c.color (colors_of v (paint_of x.info))
        else is_color c.color first.color

    ink-passes : (x : LineLabel) (up : Option LineLabel) → let ink = alternate_ink v.texts.multiline_arrows r up (Some x) in
        (passes x (ink_cell v s ink) (ink_cell v s ink) ≡ true)
        × (passes x (ink_cell v s ink) (glyph_cell v s ink.rest ink.rest_paint) ≡ true)
    unfolding alternate_ink is_glyph
    ink-passes x None =
        let shows = shows-glyph v s Underline (paint_of x.info) refl in
        (rw shows (color-same (colors_of v (paint_of x.info))), rw shows (color-same (colors_of v (paint_of x.info))))
    ink-passes x (Some w) =
        let other = tee-other (set_of s) in
        (rw other (color-same (colors_of v (paint_of w.info))), rw other (color-same (colors_of v (paint_of w.info))))

    -- cell o of place k
    cell-is : (k o : ℕ) (q : Piece) → k < places_of s l
        → slice_get (Rattle.ariadne_picture.specs.Pieces.ink_pieces (set_of s) (alternate_inks v s l r k) (width switches y k)) o ≡ Some q
        → cell_at (rows_of v) (number v g s (alternate l r)) (place_cell s l k + o) ≡ cell_of v.palette q
    cell-is k o q few e = place-cell-is v l (alternate_inks v s l r) [] (alternate-text v is) k o q few e

    place-passes : (k : ℕ) (x : LineLabel) → holder s l k ≡ Some x → k < places_of s l → (o : ℕ) → o < width switches y k
        → passes x (cell_at (rows_of v) (number v g s (alternate l r)) (place_cell s l k))
        (cell_at (rows_of v) (number v g s (alternate l r)) (place_cell s l k + o)) ≡ true
    place-passes k x e few o low = go o low
      where
        ink : Ink
        ink = alternate_ink v.texts.multiline_arrows r (vertical_at y r k) (Some x)

        first : cell_at (rows_of v) (number v g s (alternate l r)) (place_cell s l k) ≡ ink_cell v s ink
        first =
            let z : place_cell s l k ≡ place_cell s l k + 0 = omega arith in
            ap (cell_at (rows_of v) (number v g s (alternate l r))) z
            ∙ cell-is k 0 _ few (ink-head (set_of s) (alternate_inks v s l r k) (width switches y k) (omega (arith, low)))
            ∙ ap (ink_cell v s) (ink-is k x e)

        go : (o : ℕ) → o < width switches y k
            → passes x (cell_at (rows_of v) (number v g s (alternate l r)) (place_cell s l k))
            (cell_at (rows_of v) (number v g s (alternate l r)) (place_cell s l k + o)) ≡ true
        go zero low =
            let z : place_cell s l k + 0 ≡ place_cell s l k = omega arith in
            (λ i. passes x (first i) ((ap (cell_at (rows_of v) (number v g s (alternate l r))) z ∙ first) i))
            ∙ (ink-passes x (vertical_at y r k)).0
        go (suc o) low =
            let rest : cell_at (rows_of v) (number v g s (alternate l r)) (place_cell s l k + suc o) ≡ glyph_cell v s ink.rest ink.rest_paint =
            cell-is k (suc o) _ few (ink-tail (set_of s) (alternate_inks v s l r k) (width switches y k) o low)
            ∙ ap (λ (ink : Ink). glyph_cell v s ink.rest ink.rest_paint) (ink-is k x e) in
            (λ i. passes x (first i) (rest i)) ∙ (ink-passes x (vertical_at y r k)).1

    holder-shown : (k : ℕ) → k < places_of s l → (x : LineLabel) → holder s l k ≡ Some x
        → is_holder_shown (rows_of v) v.sections (placing_of v) (colors_of v) g s l k x ≡ true
    unfolding is_holder_shown
    holder-shown k few x e =
        list_all-true _ _ (all-range _ (place_cell s l k) (place_cell s l (k + 1) - place_cell s l k) (λ o low.
        let size = place-cells s l k in
        rw (← below) (place-passes k x e few o (omega (arith, size, low)))))

    holders-shown : (k : ℕ) → k < places_of s l → (o : Option LineLabel) → holder s l k ≡ o
        → list_all (is_holder_shown (rows_of v) v.sections (placing_of v) (colors_of v) g s l k) (option_to_list o) ≡ true
    holders-shown k few None e = refl
    holders-shown k few (Some x) e = both_true (holder-shown k few x e) refl

    underlines-colored : are_underlines_colored (rows_of v) v.sections (placing_of v) (colors_of v) g s l ≡ true
    unfolding are_underlines_colored
    underlines-colored =
        let places = places-are v h in
        right-true _ _ (list_all-true _ _ (all-range _ 0 ((placing_of v).places g l) (λ j less.
        holders-shown (0 + j) (omega (arith, places, less)) (holder s l (0 + j)) refl)))

-- every picture has them
pub text-colors : (v : Picture) → has_text_colors (rows_of v) v.sections (placing_of v) (colors_of v) ≡ true
unfolding has_text_colors are_underlines_colored
text-colors v =
    every-shown-line v _ (λ g s l h. both_true (characters-colored v h) (elim (cases_Bool (has_underlines s l)) [
      | inl on ↦ underlines-colored v h on
      | inr off ↦ left-true _ _ (ap not off)
    ]))
