-- A message stands behind the places of its row and one blank, and nothing behind those of the other rows of a block.
use Rattle.std.proofs.Common.{◌≡◌, ℕ, ◌+◌, Bool, true, false, not, ◌||◌, List, [], ◌∷◌, ◌++◌, length, is_some, Some, None, Option, refl, sym, ap, ◌∙◌}
use Rattle.std.proofs.Common.{subst, arith, ◌==◌, inl, inr}
use Rattle.std.specs.Prelude.{slice_get, slice_index_or, filter}
use Rattle.std.specs.List.{AllByRecursion, list_any}
use Rattle.std.specs.Cmp.Derive.{both_true}
use Rattle.std.proofs.lemmas.Bool.{cond_both, cases_Bool, eq-eqb, eqb-true}
use Rattle.std.proofs.lemmas.List.{length-append}
use Rattle.ariadne_picture.specs.declared.cell.Ink.{Ink}
use Rattle.ariadne_picture.specs.declared.cell.Paint.TheVariants.{Plain}
use Rattle.ariadne_picture.specs.declared.label_info.LabelInfo.{LabelInfo}
use Rattle.ariadne_picture.specs.declared.label_info.LineLabel.{LineLabel}
use Rattle.ariadne_picture.specs.Ranks.{is_start}
use Rattle.ariadne_picture.specs.Rows.{Row, arrow}
use Rattle.ariadne_picture.specs.Columns.{layout_of}
use Rattle.ariadne_picture.specs.Pieces.{Piece, Texts, Section, blank_piece, plain_text, message_pieces, message_at}
use Rattle.ariadne_picture.specs.Canvas.{Cell, Palette, cell_of, color_of, paint_color}
use Rattle.ariadne_picture.specs.Placing.Cells.{no_cell, is_blank}
use Rattle.ariadne_picture.specs.Placing.Group.{text_cell, messages_of}
use Rattle.ariadne_picture.specs.Placing.Rows.{row_at, cell_at, cells_of_places}
use Rattle.ariadne_picture.specs.Placing.MessageRows.{is_message_row, are_block_ends, has_message_rows}
use Rattle.ariadne_picture.proofs.Lists.Elements.{has-filter, list_all-true, list_any-true, left-true, right-true, pointwise-equal}
use Rattle.ariadne_picture.proofs.Labels.LabelsAtLine.{label-owned, label-ends}
use Rattle.ariadne_picture.proofs.Rows.RowNumbers.{at-back}
use Rattle.ariadne_picture.proofs.Reading.MessagePlaces.{label-here, every-message, message-place, arrow-shows}
use Rattle.ariadne_picture.proofs.Reading.Pictures.{placing_of, rows_of, Picture, read, number, message_row}
use Rattle.ariadne_picture.proofs.Reading.ShownLine.{IsArrowRow, arrow-at, IsShownLine, every-shown-line, every-block-row}
use Rattle.ariadne_picture.proofs.Reading.TextRows.{IsTextRow, area, arrow_inks, area-length, arrow-text, alternate-text, row-length, text-at}
use Rattle.ariadne_picture.proofs.Lists.ListFacts.{all-filtered}

-- a label that is no start shows its message, behind a blank
pub message-shown : (t : Texts) (o : Option LineLabel) (x : LineLabel) → o ≡ Some x → is_start x.side ≡ false
    → message_pieces t o ≡ blank_piece ∷ plain_text (message_at t x.info.position) ∷ []
unfolding message_pieces
message-shown t o x e off = ap (message_pieces t) e ∙ (rw off refl)

-- a start shows nothing
pub message-hidden : (t : Texts) (o : Option LineLabel) (x : LineLabel) → o ≡ Some x → is_start x.side ≡ true → message_pieces t o ≡ []
unfolding message_pieces
message-hidden t o x e on = ap (message_pieces t) e ∙ (rw on refl)

-- a plain piece has no colour
plain-cell : (p : Palette) → not (is_some (color_of p Plain)) ≡ true
unfolding color_of paint_color
plain-cell p = cond_both p.is_on None None (λ c. not (is_some c) ≡ true) (λ _. refl) (λ _. refl)

module _ (v : Picture) where
  -- the arrow row of a line label that is no start ends in a blank and its message
  message-passes : {g : ℕ} {s : Section} {l r : ℕ} {x : LineLabel} → IsArrowRow v g s l r x → is_start x.side ≡ false
      → read v is_message_row s (cells_of_places (placing_of v) g s l) (message_at v.texts x.info.position) (number v g s (arrow l r)) ≡ true
  unfolding is_message_row cell_at layout_of
  message-passes {g} {s} {l} {r} {x} q off =
      let places = area s l (arrow_inks s l r) in
      let message = plain_text (message_at v.texts x.info.position) in
      let count : ℕ = cells_of_places (placing_of v) g s l in
      let row : List Cell = row_at (rows_of v) (number v g s (arrow l r)) in
      let text : IsTextRow v g s (arrow l r) (places ++ blank_piece ∷ message ∷ []) =
      rw (message-shown v.texts _ x q.there off) at (arrow-text v (arrow-at v q)) in
      let long = area-length v q.line (arrow_inks s l r) in
      let size = row-length v text in
      let two = length-append places (blank_piece ∷ message ∷ []) in
      let cell : (k : ℕ) (p : Piece) → slice_get (blank_piece ∷ message ∷ []) k ≡ Some p
      → slice_index_or row (text_cell s + count + k) no_cell ≡ cell_of v.palette p =
      λ k p e. let o : text_cell s + count + k ≡ text_cell s + (length places + k) = omega (arith, long) in
      ap (λ c. slice_index_or row c no_cell) o ∙ text-at v text (length places + k) p (at-back places _ k ∙ e) in
      let z : text_cell s + count ≡ text_cell s + count + 0 = omega arith in
      let first = ap (λ c. slice_index_or row c no_cell) z ∙ cell 0 blank_piece refl in
      let last = cell 1 message refl in
      both_true (both_true (both_true (both_true
      (eq-eqb (length row) (text_cell s + count + 2) (omega (arith, size, two, long))) (ap is_blank first))
      (ap (λ (c : Cell). not (is_some c.color)) first ∙ plain-cell v.palette)) (pointwise-equal _ _ (ap (λ (c : Cell). c.text) last)))
      (ap (λ (c : Cell). not (is_some c.color)) last ∙ plain-cell v.palette)

  module _ (g : ℕ) (s : Section) (l : ℕ) (h : IsShownLine v g s l) where
    -- the cells of the places of the rows below line l
    abbrev count : ℕ
    count = cells_of_places (placing_of v) g s l

    -- the labels whose messages stand below the line
    abbrev shown_here : List LabelInfo
    shown_here = filter (λ (a : LabelInfo). a.end_line == l) (messages_of s)

    -- what is asked of a row of the block
    abbrev end_test : ℕ → Bool
    end_test n =
        list_any (λ (a : LabelInfo). message_row v a.position == n) shown_here || (length (row_at (rows_of v) n) == text_cell s + count)

    -- each of their rows passes
    all-pass : AllByRecursion (λ a. read v is_message_row s count (message_at v.texts a.position) (message_row v a.position) ≡ true)
        shown_here
    all-pass =
        let P : ℕ → ℕ → LabelInfo → Type 0 =
        λ l n a. read v is_message_row s (cells_of_places (placing_of v) g s l) (message_at v.texts a.position) n ≡ true in
        all-filtered _ _ (messages_of s) (every-message v g s _ h.group (λ a m end.
        let c = message-place v m in
        subst (λ l. P l (message_row v a.position) a) (eqb-true a.end_line l end)
        (subst (λ n. P a.end_line n a) (sym c.row) (subst (P a.end_line _) c.shows.info (message-passes c.arrow_row c.shows.no_start)))))

    -- a row without a message ends with its places
    places-end : {x : Row} (ink : ℕ → Ink) → IsTextRow v g s x (area s l ink ++ []) → end_test (number v g s x) ≡ true
    places-end {x} ink text =
        let size = row-length v text in
        let long = area-length v h ink in
        let same : length (row_at (rows_of v) (number v g s x)) ≡ text_cell s + count =
        omega (arith, size, long, length-append (area s l ink) []) in
        right-true _ _ (eq-eqb _ _ same)

    -- the arrow row of a line label that is no start is that of its message
    shows-end : {r : ℕ} {x : LineLabel} → IsArrowRow v g s l r x → is_start x.side ≡ false → end_test (number v g s (arrow l r)) ≡ true
    unfolding messages_of
    shows-end {r} {x} q off =
        let is = label-here s.sheet l r x q.there in
        let owned = label-owned s.sheet l x is in
        let some = has-filter (λ (a : LabelInfo). a.has_message) s.sheet.labels owned.place x.info owned.there q.message in
        let here = has-filter (λ (a : LabelInfo). a.end_line == l) (messages_of s) some.place x.info some.there
        (eq-eqb x.info.end_line l (label-ends s.sheet l x is off)) in
        left-true _ _ (list_any-true _ shown_here here.place x.info here.there (eq-eqb _ _ (arrow-shows v q off)))

    -- so each arrow row passes
    arrow-ends : {r : ℕ} {x : LineLabel} → IsArrowRow v g s l r x → end_test (number v g s (arrow l r)) ≡ true
    unfolding layout_of
    arrow-ends {r} {x} q = elim (cases_Bool (is_start x.side)) [
      | inl on ↦
          places-end (arrow_inks s l r) (rw (message-hidden v.texts _ x q.there on) at (arrow-text v (arrow-at v q)))
      | inr off ↦ shows-end q off
    ]

    -- so the rows of the line end as they should
    line-ends : read v are_block_ends (message_at v.texts) g s l ≡ true
    unfolding are_block_ends
    line-ends =
        both_true (list_all-true _ shown_here all-pass)
        (list_all-true end_test _ (every-block-row v h _
        (λ r x q. arrow-ends q)
        (λ k r is. places-end _ (alternate-text v is))))

  -- every report's picture has its message rows
  pub message-rows : read v has_message_rows (message_at v.texts) ≡ true
  unfolding has_message_rows
  message-rows = every-shown-line v (read v are_block_ends (message_at v.texts)) line-ends
