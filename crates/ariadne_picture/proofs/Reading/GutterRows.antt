-- The rows of a group that have gutter cells: all but the group header, spacer row, tail and bare rows, which begin with no
-- single blank or end with their margin.
use Rattle.std.proofs.Common.{◌≡◌, ℕ, suc, ◌+◌, ◌-◌, ◌*◌, ◌<◌, Bool, true, false, ◌&&◌, List, [], ◌∷◌, ◌++◌, length, Some, refl, sym, ap, ◌∙◌, arith}
use Rattle.std.proofs.Common.{inl, inr, if◌then◌else◌, append_assoc}
use Rattle.std.specs.Prelude.{slice_get, slice_index_or, nat_le}
use Rattle.std.specs.List.{AllByRecursion}
use Rattle.std.proofs.lemmas.Bool.{cond_both, cases_Bool, leb-true, true≢false, false_from_ne_true}
use Rattle.std.proofs.lemmas.List.{append-nil, length-map}
use Rattle.ariadne_picture.specs.declared.switches.CharSet.{CharSet}
use Rattle.ariadne_picture.specs.declared.switches.CharSet.TheVariants.{Unicode, Ascii}
use Rattle.ariadne_picture.specs.declared.cell.Glyph.TheVariants.{Hbar, Rbot}
use Rattle.ariadne_picture.specs.Lists.{joined}
use Rattle.ariadne_picture.specs.Rows.{Row, group_header, spacer, source, alternate, arrow, gap, bare, blank, piece, tail}
use Rattle.ariadne_picture.specs.Cells.{glyph_code}
use Rattle.ariadne_picture.specs.Pieces.{Piece, Section, spaces, repeated, glyph_text, margin_pieces, gutter_pieces, gutter_len, column_size}
use Rattle.ariadne_picture.specs.Pieces.{group_header_pieces, spacer_pieces, tail_pieces, aside_pieces, rest_pieces, row_pieces, text_pieces}
use Rattle.ariadne_picture.specs.Placing.Cells.{no_cell, is_blank, is_text}
use Rattle.ariadne_picture.specs.Placing.Group.{set_of, column_cell, text_cell}
use Rattle.ariadne_picture.specs.Placing.Rows.{cell_at, row_at}
use Rattle.ariadne_picture.specs.Placing.GutterBars.{gutter_rows}
use Rattle.ariadne_picture.proofs.Cells.RowCells.{length-margin}
use Rattle.ariadne_picture.proofs.Lists.Elements.{all-range}
use Rattle.ariadne_picture.proofs.Reading.MessagePlaces.{two-true}
use Rattle.ariadne_picture.proofs.Reading.Pictures.{rows_of, Picture, row-there, RowAt, read, number, start_of}
use Rattle.ariadne_picture.proofs.Reading.TextRows.{gap-text, IsTextRow, row-read, source-text, arrow-text, alternate-text}
use Rattle.ariadne_picture.proofs.Reading.RowNames.{IsName, name-of}
use Rattle.ariadne_picture.proofs.Rows.RowPlacing.{row_placing}
use Rattle.ariadne_picture.proofs.Cells.CanvasRows.{row_cells}
use Rattle.ariadne_picture.proofs.Lists.ListFacts.{all-filtered}

-- two blanks or more are no single one
pub wide-text : (w : ℕ) → is_text (spaces (w + 2)) (32 ∷ []) ≡ false
unfolding spaces
wide-text w = let z : w + 2 ≡ suc (suc w) = omega arith in rw z refl

-- nor are horizontals
pub level-text : (set : CharSet) (w : ℕ) → is_text (repeated (w + 2) (glyph_text set Hbar) ++ glyph_text set Rbot) (32 ∷ []) ≡ false
unfolding repeated joined glyph_text glyph_code lib.Utf8.encode
level-text Unicode w = let z : w + 2 ≡ suc (suc w) = omega arith in rw z refl
level-text Ascii w = let z : w + 2 ≡ suc (suc w) = omega arith in rw z refl

module _ (v : Picture) where
  -- a row has gutter cells
  abbrev pub has_gutter : Section → ℕ → Bool
  has_gutter s n = is_blank (cell_at (rows_of v) n 0) && nat_le (text_cell s) (length (row_at (rows_of v) n))

  module _ {g : ℕ} {s : Section} {k : ℕ} where
    -- the first cell of a row is that of its first piece
    begins : {x : Row} → RowAt v g s k x
        → cell_at (rows_of v) (number v g s x) 0 ≡ slice_index_or (row_cells v.palette v.texts v.width s x) 0 no_cell
    unfolding cell_at
    begins is = ap (λ row. slice_index_or row 0 no_cell) (row-read v is)

    -- group header, spacer row and tail begin with more than one blank, or with horizontals
    wide-header : RowAt v g s k group_header → is_blank (cell_at (rows_of v) (number v g s group_header) 0) ≡ false
    unfolding row_pieces group_header_pieces
    wide-header is = rw (begins is) (wide-text v.width)

    wide-spacer : RowAt v g s k spacer → is_blank (cell_at (rows_of v) (number v g s spacer) 0) ≡ false
    unfolding row_pieces spacer_pieces
    wide-spacer is = rw (begins is) (wide-text v.width)

    wide-tail : RowAt v g s k tail → is_blank (cell_at (rows_of v) (number v g s tail) 0) ≡ false
    unfolding row_pieces tail_pieces spacer_pieces
    wide-tail is =
        ap is_blank (begins is)
        ∙ (elim (cases_Bool s.is_last) [ inl on ↦ rw on (level-text (set_of s) v.width) | inr off ↦ rw off (wide-text v.width) ])

    -- a bare row ends with its margin
    short-bare : {l : ℕ} → RowAt v g s k (bare l) → 0 < gutter_len s.sheet
        → nat_le (text_cell s) (length (row_at (rows_of v) (number v g s (bare l)))) ≡ false
    unfolding row_pieces rest_pieces text_cell column_cell column_size
    short-bare {l} is some =
        let switches = s.sheet.switches in
        let size = ap length (row-read v is) ∙ length-map _ _ ∙ ap length (append-nil (margin_pieces switches v.width s.display_offset (bare l)))
        ∙ length-margin switches v.width s.display_offset (bare l) in
        false_from_ne_true _ (λ on.
        let fits = leb-true (text_cell s) _ on in
        let wide : 0 < gutter_len s.sheet * (if switches.compact then 1 else 2) =
        cond_both switches.compact 1 2 (λ n. 0 < gutter_len s.sheet * n) (λ _. omega arith) (λ _. omega arith) in
        omega (arith, size, fits, wide))

    -- the other rows have a text behind their gutter
    pub text-row : (x : Row) → RowAt v g s k x → 0 < gutter_len s.sheet → has_gutter s (number v g s x) ≡ true
        → (text : List Piece) × IsTextRow v g s x text
    unfolding row_pieces rest_pieces text_pieces
    text-row group_header is some on = absurd (true≢false (sym (two-true _ _ on).0 ∙ wide-header is))
    text-row spacer is some on = absurd (true≢false (sym (two-true _ _ on).0 ∙ wide-spacer is))
    text-row tail is some on = absurd (true≢false (sym (two-true _ _ on).0 ∙ wide-tail is))
    text-row (bare l) is some on = absurd (true≢false (sym (two-true _ _ on).1 ∙ short-bare is some))
    text-row (source l) is some on = (_, source-text v is)
    text-row (gap l) is some on = (_, gap-text v is)
    text-row (alternate l r) is some on = (_, alternate-text v is)
    text-row (arrow l r) is some on = (_, arrow-text v is)
    text-row (blank a m) is some on =
        let margin = margin_pieces s.sheet.switches v.width s.display_offset (blank a m) in
        ([], record { index = k; is = is; parts = sym (append_assoc margin (gutter_pieces s.sheet (blank a m)) []) })
    text-row (piece a m q) is some on = (
      aside_pieces v.texts a m q,
      record {
        index = k;
        is = is;
        parts = sym (append_assoc (margin_pieces s.sheet.switches v.width s.display_offset (piece a m q)) (gutter_pieces s.sheet (piece a m q)) _);
      },
    )

  -- a claim that each row of a group meets that has gutter cells
  pub every-gutter-row : (g : ℕ) (s : Section) (P : ℕ → Type 0) → slice_get v.sections g ≡ Some s
      → ((k : ℕ) (x : Row) → RowAt v g s k x → IsName s.sheet x → has_gutter s (number v g s x) ≡ true → P (number v g s x))
      → AllByRecursion P (read v gutter_rows g s)
  unfolding gutter_rows row_placing
  every-gutter-row g s P e f =
      let next : suc g ≡ g + 1 = omega arith in
      let after = ap (start_of v) next in
      all-filtered P (has_gutter s) _ (all-range _ (start_of v g) (start_of v (g + 1) - start_of v g) (λ j less on.
      let x = row-there v g (start_of v g + j) s e (omega arith) (omega (arith, after, less)) in
      rw (← x.3) (f x.0 x.1 x.2 (name-of v x.2) (rw (← x.3) at on))))
