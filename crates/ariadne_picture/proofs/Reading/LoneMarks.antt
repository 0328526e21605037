-- Right below a line whose labels have no message stand their underlines, each in its colour, and nothing else.
use Rattle.std.proofs.Common.{◌≡◌, ℕ, zero, suc, ◌+◌, ◌-◌, ◌<◌, Bool, true, not, ◌&&◌, ◌==◌, List, [], ◌∷◌, drop, length, Option, Some, None, refl, sym, ap, ◌∙◌, arith, inl, inr}
use Rattle.std.specs.Prelude.{find, slice_get}
use Rattle.std.specs.List.{list_all}
use Rattle.std.specs.Cmp.Derive.{both_true}
use Rattle.std.proofs.lemmas.Bool.{cases_Bool, cond-true, eq-eqb}
use Rattle.ariadne_base.specs.Locations.{upto}
use Rattle.ariadne_picture.specs.declared.label_info.LineLabel.{LineLabel}
use Rattle.ariadne_picture.specs.declared.cell.Glyph.TheVariants.{Blank, Underline}
use Rattle.ariadne_picture.specs.declared.cell.Ink.{Ink}
use Rattle.ariadne_picture.specs.declared.cell.Paint.TheVariants.{Plain}
use Rattle.ariadne_picture.specs.Ranks.{line_labels}
use Rattle.ariadne_picture.specs.Rows.{alternate, is_lone}
use Rattle.ariadne_picture.specs.Strokes.{vertical_at, underline_at, underline_row}
use Rattle.ariadne_picture.specs.Cells.{blanks, ink_of, paint_of, alternate_ink, alternate_place}
use Rattle.ariadne_picture.specs.Columns.{layout_of, width}
use Rattle.ariadne_picture.specs.Pieces.{Section}
use Rattle.ariadne_picture.specs.Canvas.{Cell}
use Rattle.ariadne_picture.specs.Placing.Group.{set_of, place_cell}
use Rattle.ariadne_picture.specs.Placing.Rows.{cell_at}
use Rattle.ariadne_picture.specs.LoneLines.{holder, marks, is_place_marked, is_lone_marked, has_lone_underlines}
use Rattle.ariadne_picture.proofs.Lists.Elements.{all-range, list_all-true, left-true, right-true}
use Rattle.ariadne_picture.proofs.Rows.LoneRows.{lone, lone-block, lone-rank}
use Rattle.ariadne_picture.proofs.Rows.RowOrder.{shown_rows}
use Rattle.ariadne_picture.proofs.Cells.InkCells.{glyph_cell, shows-glyph, shows-blank}
use Rattle.ariadne_picture.proofs.Cells.RowCells.{ink-head, ink-tail}
use Rattle.ariadne_picture.proofs.Reading.Pictures.{Picture, rows_of, placing_of, source_row, number, RowAt, number-at}
use Rattle.ariadne_picture.proofs.Reading.ShownLine.{IsShownLine, rows_above, places_of, places-are, source-at, block-at, block-row-is, every-shown-line}
use Rattle.ariadne_picture.proofs.Reading.TextRows.{alternate_inks, alternate-text}
use Rattle.ariadne_picture.proofs.Reading.LabelTraces.{place-cells, place-cell-is}
use Rattle.ariadne_picture.proofs.Reading.ColoredStrokes.{color_at, color-same}

-- nothing is behind all elements
drop-all : {X : Type 0} (xs : List X) → drop (length xs) xs ≡ []
drop-all [] = refl
drop-all (x ∷ xs) = drop-all xs

-- what such a row shows at a place
lone_ink : Option LineLabel → Ink
lone_ink None = blanks
lone_ink (Some x) = ink_of Underline Underline x.info

no-vertical : (heads : Bool) (n : ℕ) (o : Option LineLabel) → alternate_ink heads n None o ≡ lone_ink o
unfolding alternate_ink lone_ink
no-vertical heads n None = refl
no-vertical heads n (Some x) = refl

module _ (v : Picture) {g : ℕ} {s : Section} {l : ℕ} (h : IsShownLine v g s l) (on : is_lone s.sheet l ≡ true) where
  abbrev rank : ℕ
  rank = length (line_labels s.sheet.labels l)

  first : slice_get (shown_rows s.sheet l) 0 ≡ Some (alternate l rank)
  first = ap (λ t. slice_get t 0) (lone-block s.sheet l on)

  ink-is : (k : ℕ) → alternate_inks v s l rank k ≡ lone_ink (holder s l k)
  unfolding alternate_place vertical_at underline_at holder layout_of
  ink-is k =
      let y = layout_of s.sheet l in
      let switches = s.sheet.switches in
      let up : vertical_at y rank k ≡ None = ap (λ xs. find (Rattle.ariadne_picture.specs.Strokes.has_vertical y.margin k) xs) (drop-all (line_labels s.sheet.labels l)) in
      let under : underline_at switches y rank k ≡ holder s l k =
      cond-true (switches.underlines && (rank == underline_row y)) _ _
      (both_true (lone s.sheet l on).underlined (eq-eqb rank (underline_row y) (sym (lone-rank s.sheet l on)))) in
      (λ i. alternate_ink v.texts.multiline_arrows rank (up i) (under i)) ∙ no-vertical v.texts.multiline_arrows rank (holder s l k)

  abbrev test : ℕ → Cell → Bool
  test k = marks (rows_of v) v.sections (placing_of v) (color_at v) (set_of s) (holder s l k)

  -- both cells of the ink pass
  underlined : (x : LineLabel) → marks (rows_of v) v.sections (placing_of v) (color_at v) (set_of s) (Some x) (glyph_cell v s Underline (paint_of x.info)) ≡ true
  unfolding marks
  underlined x = both_true (shows-glyph v s Underline (paint_of x.info) refl) (color-same (color_at v x.info.position))

  blank : marks (rows_of v) v.sections (placing_of v) (color_at v) (set_of s) None (glyph_cell v s Blank Plain) ≡ true
  unfolding marks
  blank = shows-blank v s Blank Plain refl

  Passes : Option LineLabel → Ink → Type 0
  Passes o ink =
      (marks (rows_of v) v.sections (placing_of v) (color_at v) (set_of s) o (glyph_cell v s ink.first ink.first_paint) ≡ true)
      × (marks (rows_of v) v.sections (placing_of v) (color_at v) (set_of s) o (glyph_cell v s ink.rest ink.rest_paint) ≡ true)

  ink-passes : (o : Option LineLabel) → Passes o (lone_ink o)
  unfolding Passes lone_ink
  ink-passes None = (blank, blank)
  ink-passes (Some x) = (underlined x, underlined x)

  place-passes : (k : ℕ) → k < places_of s l → (o : ℕ) → o < width s.sheet.switches (layout_of s.sheet l) k
      → test k (cell_at (rows_of v) (number v g s (alternate l rank)) (place_cell s l k + o)) ≡ true
  unfolding Passes
  place-passes k few o low = go o low
    where
      is : RowAt v g s (rows_above v h + suc 0) (alternate l rank)
      is = block-row-is v h 0 (alternate l rank) first

      passes : Passes (holder s l k) (alternate_inks v s l rank k)
      passes = rw (ink-is k) (ink-passes (holder s l k))

      go : (o : ℕ) → o < width s.sheet.switches (layout_of s.sheet l) k
          → test k (cell_at (rows_of v) (number v g s (alternate l rank)) (place_cell s l k + o)) ≡ true
      go zero low =
          ap (test k) (place-cell-is v l (alternate_inks v s l rank) [] (alternate-text v is) k 0 _ few (ink-head (set_of s) (alternate_inks v s l rank k) _ low))
          ∙ passes.0
      go (suc o) low =
          ap (test k) (place-cell-is v l (alternate_inks v s l rank) [] (alternate-text v is) k (suc o) _ few (ink-tail (set_of s) (alternate_inks v s l rank k) _ o low))
          ∙ passes.1

  line-marked : ((placing_of v).block_len g l == 1) && list_all (is_place_marked (rows_of v) v.sections (placing_of v) (color_at v) g s l)
      (upto ((placing_of v).places g l)) ≡ true
  unfolding is_place_marked
  line-marked =
      let places = places-are v h in
      let n = number-at v (block-row-is v h 0 (alternate l rank) first) in
      let src = source-at v h in
      let below : number v g s (alternate l rank) ≡ source_row v g l + 1 = omega (arith, n, src) in
      both_true (eq-eqb _ 1 (block-at v h ∙ ap length (lone-block s.sheet l on)))
      (list_all-true _ _ (all-range _ 0 ((placing_of v).places g l) (λ j less.
      let k : ℕ = 0 + j in
      list_all-true _ _ (all-range _ (place_cell s l k) (place_cell s l (k + 1) - place_cell s l k) (λ o low.
      let size = place-cells s l k in
      rw (← below) (place-passes k (omega arith) o (omega (arith, size, low))))))))

-- every picture has them
pub lone-underlines : (v : Picture) → has_lone_underlines (rows_of v) v.sections (placing_of v) (color_at v) ≡ true
unfolding has_lone_underlines is_lone_marked
lone-underlines v =
    every-shown-line v (is_lone_marked (rows_of v) v.sections (placing_of v) (color_at v)) (λ g s l h. elim (cases_Bool (is_lone s.sheet l)) [
      | inl on ↦ right-true _ _ (line-marked v h on)
      | inr off ↦ left-true _ _ (ap not off)
    ])
