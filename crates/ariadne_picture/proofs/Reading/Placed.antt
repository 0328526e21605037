-- The placing that the names of the rows give is one: its groups, source rows, blocks, messages and heads
-- are where it says.
use Rattle.std.proofs.Common.{◌≡◌, ◌≢◌, ℕ, suc, ◌+◌, ◌<◌, true, not, List, map, Some, refl, sym, ap, ◌∙◌, subst, arith, inl, inr, ◌==◌, nat_lt}
use Rattle.std.specs.Prelude.{slice_get}
use Rattle.std.specs.List.{AllByRecursion}
use Rattle.std.specs.Cmp.Derive.{both_true}
use Rattle.std.proofs.lemmas.Bool.{cond-true, cond-false, eq-eqb, lt-ltb, le-leb, cases_Bool}
use Rattle.std.proofs.lemmas.Option.{slice_get_within}
use Rattle.ariadne_picture.specs.declared.switches.Switches.{Switches}
use Rattle.ariadne_picture.specs.declared.cell.Glyph.TheVariants.{Vbar}
use Rattle.ariadne_picture.specs.declared.label_info.LabelInfo.{LabelInfo}
use Rattle.ariadne_picture.specs.Lists.{joined}
use Rattle.ariadne_picture.specs.Ranks.{multi_line_labels, gutter_labels, is_hidden_line, group_lines}
use Rattle.ariadne_picture.specs.Rows.{row_key, Row, source, arrow}
use Rattle.ariadne_picture.specs.Columns.{layout_of}
use Rattle.ariadne_picture.specs.Pieces.{Piece, Section, glyph_text, margin_text, blank_piece}
use Rattle.ariadne_picture.specs.Canvas.{Cell, cell_of}
use Rattle.ariadne_picture.specs.Placing.Cells.{is_blank}
use Rattle.ariadne_picture.specs.Placing.Group.{shown_lines, shown_cells, messages_of}
use Rattle.ariadne_picture.specs.Placing.Rows.{cell_at, text_cells}
use Rattle.ariadne_picture.specs.Placing.Together.{unindented, is_source_row, is_in_group, is_in_block, all_pairs, is_line_placed, is_gutter_label_placed, is_group_placed, is_placing, has_margin}
use Rattle.ariadne_picture.proofs.Cells.CanvasRows.{map-map, row_cells}
use Rattle.ariadne_picture.proofs.Cells.MarginTexts.{margin-blank, margin-gap, margin-cell, source-margin, alternate-margin, arrow-margin, plain_cells, shown-texts}
use Rattle.ariadne_picture.proofs.Lists.Elements.{all-from, all-numbered, left-true, right-true, list_all-true, pointwise-equal, texts-same}
use Rattle.ariadne_picture.proofs.Lists.Joined.{filter-joined, map-joined}
use Rattle.ariadne_picture.proofs.Lists.ListFacts.{all-joined, Increasing}
use Rattle.ariadne_picture.proofs.Rows.RowNumbers.{start-first, start-next, start-last, row-in-group}
use Rattle.ariadne_picture.proofs.Rows.RowOrder.{by-line, shown_rows}
use Rattle.ariadne_picture.proofs.Reading.HeadPlaces.{IsGutterLabelOf, margin-line, head-at-margin, head-place}
use Rattle.ariadne_picture.proofs.Reading.InOrder.{increasing-filter, increasing-weaker, range-rises, rising, distinct, by-order}
use Rattle.ariadne_picture.proofs.Reading.MessagePlaces.{IsMessage, every-message, message-place, messages-apart}
use Rattle.ariadne_picture.proofs.Reading.Pictures.{rows_of, Picture, RowAt, placing_of, read, number, every-group, source_row, message_row, start_of}
use Rattle.ariadne_picture.proofs.Reading.Pictures.{number-at}
use Rattle.ariadne_picture.proofs.Reading.ShownLine.{IsArrowRow, arrow-at, IsShownLine, source-is, source-at, block-at, every-line, every-block-row}
use Rattle.ariadne_picture.proofs.Reading.ShownLine.{source-row-is}
use Rattle.ariadne_picture.proofs.Reading.TextRows.{IsTextRow, source-text, arrow-text, alternate-text, text-cells, front-at}
use Rattle.ariadne_picture.proofs.Rows.RowPlacing.{row_placing}
use Rattle.ariadne_picture.specs.Strokes.{is_at_margin}

module _ (v : Picture) where
  -- a row of a group is in its range
  in-group : {g : ℕ} {s : Section} {k : ℕ} {x : Row} → RowAt v g s k x → read v is_in_group g (number v g s x) ≡ true
  unfolding is_in_group row_placing
  in-group {g} {s} {k} {x} h =
      let two = row-in-group v.texts v.sections g s k x h in
      let next : suc g ≡ g + 1 = omega arith in
      both_true (le-leb _ _ two.0) (lt-ltb _ _ (rw next at two.1))

  -- cell 1 of a row with a gutter has the text of its margin
  pub margin-shows : {g : ℕ} {s : Section} {x : Row} {text : List Piece} → IsTextRow v g s x text
      → (cell_at (rows_of v) (number v g s x) 1).text ≡ margin_text s.sheet.switches.char_set v.width s.display_offset x
  margin-shows {g} {s} {x} r = ap (λ (c : Cell). c.text) (front-at v r 1 _ (margin-cell v.width s x))

  -- so the row begins as it should, where that text is this one behind blanks
  pub has-margin : {g : ℕ} {s : Section} {x : Row} {text : List Piece} (t : List ℕ) → IsTextRow v g s x text
      → unindented (margin_text s.sheet.switches.char_set v.width s.display_offset x) ≡ t → read v has_margin s t (number v g s x) ≡ true
  unfolding has_margin
  has-margin {g} {s} {x} t r same =
      both_true (both_true (ap is_blank (front-at v r 0 blank_piece (margin-blank v.width s x)))
      (pointwise-equal _ _ (ap unindented (margin-shows r) ∙ same)))
      (elim (cases_Bool s.sheet.switches.compact) [
        | inl tight ↦ left-true _ _ tight
        | inr loose ↦ right-true _ _ (ap is_blank (front-at v r 2 blank_piece (margin-gap v.width s x loose)))
      ])

  -- ---- a line

  module _ (g : ℕ) (s : Section) (l : ℕ) (h : IsShownLine v g s l) where
    -- a source row shows the number of its line and its characters
    source-texts : map (λ (c : Cell). c.text) (text_cells (rows_of v) s (number v g s (source l))) ≡ map (λ (q : Piece). q.text) (shown_cells s.sheet l)
    unfolding shown_cells
    source-texts =
        ap (map (λ (c : Cell). c.text)) (text-cells v (source-text v (source-row-is v h)))
        ∙ map-map (λ (c : Cell). c.text) (cell_of v.palette) _
        ∙ shown-texts v.texts.switches (multi_line_labels s.sheet.labels) (layout_of s.sheet l)
        ∙ ap (λ (switches : Switches). map (λ (q : Piece). q.text) (plain_cells switches (layout_of s.sheet l)))
        (sym (v.drawn.same_switches g s h.group))

    -- so it passes
    source-shows : read v is_source_row s l (number v g s (source l)) ≡ true
    unfolding is_source_row
    source-shows =
        both_true
        (has-margin _ (source-text v (source-row-is v h)) (source-margin s.sheet.switches.char_set v.width s.display_offset l))
        (rw source-texts (texts-same (map (λ (q : Piece). q.text) (shown_cells s.sheet l))))

    -- a row of the block has a bar alone in its margin
    block-shows : (x : Row) {text : List Piece} → IsTextRow v g s x text
        → unindented (margin_text s.sheet.switches.char_set v.width s.display_offset x) ≡ glyph_text s.sheet.switches.char_set Vbar
        → read v has_margin s (glyph_text s.sheet.switches.char_set Vbar) (number v g s x) ≡ true
    block-shows x r bar = has-margin _ r bar

    -- so the line stands where the placing says
    line-placed : read v is_line_placed g s l ≡ true
    unfolding is_line_placed
    line-placed =
        let set = s.sheet.switches.char_set in
        both_true (rw (source-is v h) (both_true (in-group (source-row-is v h)) source-shows))
        (list_all-true _ _ (every-block-row v h _
        (λ r x q. both_true (in-group (arrow-at v q)) (block-shows _ (arrow-text v (arrow-at v q)) (arrow-margin set v.width s.display_offset l r)))
        (λ k r is. both_true (in-group is) (block-shows _ (alternate-text v is) (alternate-margin set v.width s.display_offset l r)))))

  -- a row of its block is in the block's range
  in-block : {g : ℕ} {s : Section} {l r : ℕ} {x : _} (q : IsArrowRow v g s l r x) → read v is_in_block g l (number v g s (arrow l r)) ≡ true
  unfolding is_in_block
  in-block {g} {s} {l} {r} q =
      let n = number-at v (arrow-at v q) in
      let src = source-at v q.line in
      let long = block-at v q.line in
      let few = slice_get_within (shown_rows s.sheet l) q.index _ q.row in
      both_true (lt-ltb (source_row v g l) _ (omega (arith, n, src)))
      (le-leb _ (source_row v g l + (placing_of v).block_len g l) (omega (arith, n, src, long, few)))

  -- source rows rise with their lines
  source-rises : (g : ℕ) (s : Section) (l m : ℕ) → IsShownLine v g s l → IsShownLine v g s m → l < m
      → source_row v g l < source_row v g m
  unfolding row_key
  source-rises g s l m h k less =
      let a = source-at v h in
      let b = source-at v k in
      let order = by-order v (source-row-is v h) (source-row-is v k) (by-line (source l) (source m) refl less) in
      omega (arith, a, b, order)

  -- ---- a group

  module _ (g : ℕ) (s : Section) (e : slice_get v.sections g ≡ Some s) where
    -- the shown lines are in order, so their source rows are
    lines-rise : all_pairs nat_lt (map (source_row v g) (shown_lines s)) ≡ true
    unfolding shown_lines group_lines
    lines-rise =
        rising _ (shown_lines s) (increasing-weaker (IsShownLine v g s) _ _ (shown_lines s) (source-rises g s)
        (every-line v g s _ e (λ l h. h)) (increasing-filter _ (λ l. not (is_hidden_line s.sheet l)) _ (range-rises _ _)))

    -- each message is in the block of the line where its label ends
    messages-in : AllByRecursion (λ a. read v is_in_block g a.end_line (message_row v a.position) ≡ true) (messages_of s)
    messages-in =
        every-message v g s _ e (λ a m. let h = message-place v m in
        rw h.row (in-block h.arrow_row))

    -- each head is on its source row or in the block below
    gutter-label-placed : (i : ℕ) (a : LabelInfo) → slice_get (gutter_labels s.sheet.labels) i ≡ Some a
        → read v is_gutter_label_placed g s i a ≡ true
    unfolding is_gutter_label_placed
    gutter-label-placed i a owned =
        let o : IsGutterLabelOf v g s i a = record { group = e; owned = owned } in
        elim (cases_Bool (is_at_margin s.sheet a.start_line i)) [
          | inl at ↦ cond-true _ _ _ at ∙ eq-eqb _ _ (head-at-margin v o at ∙ sym (source-is v (margin-line v o at)))
          | inr off ↦
              let h = head-place v o off in
              cond-false _ _ _ off ∙ rw h.row (in-block h.arrow_row)
        ]

    -- so the group is placed
    group-placed : read v is_group_placed g s ≡ true
    unfolding is_group_placed row_placing
    group-placed =
        let next = start-next v.texts v.sections g s e in
        let z : suc g ≡ g + 1 = omega arith in
        let after = ap (start_of v) z in
        both_true (both_true (both_true (both_true
        (le-leb (start_of v g) (start_of v (g + 1)) (omega (arith, next, after))) lines-rise)
        (list_all-true _ _ (every-line v g s _ e (line-placed g s)))) (list_all-true _ _ messages-in))
        (list_all-true _ _ (all-numbered _ _ gutter-label-placed))

  -- ---- messages

  -- two messages have two rows
  rows-differ : all_pairs (λ n m. not (n == m)) (joined (λ s. map (λ (a : LabelInfo). message_row v a.position) (messages_of s)) v.sections) ≡ true
  unfolding messages_of
  rows-differ =
      let labels : Section → List LabelInfo = λ s. s.sheet.labels in
      let row : LabelInfo → ℕ = λ a. message_row v a.position in
      let P : LabelInfo → Type 0 = λ a. (g : ℕ) × (s : Section) × IsMessage v g s a in
      let R : LabelInfo → LabelInfo → Type 0 = λ a b. a.position ≢ b.position in
      let all : AllByRecursion P (joined messages_of v.sections) =
      all-joined P (λ s. (g : ℕ) × (slice_get v.sections g ≡ Some s)) messages_of v.sections
      (λ s h. every-message v h.0 s P h.1 (λ a m. (h.0, s, m))) (all-from _ v.sections (λ g s e. (g, e))) in
      let order : Increasing R (joined messages_of v.sections) =
      subst (Increasing R) (filter-joined (λ (a : LabelInfo). a.has_message) labels v.sections)
      (increasing-filter R (λ a. a.has_message) (joined labels v.sections) v.drawn.numbers) in
      ap (all_pairs (λ n m. not (n == m))) (sym (map-joined row messages_of v.sections))
      ∙ distinct row (joined messages_of v.sections) (increasing-weaker P R _ (joined messages_of v.sections)
      (λ a b m n differ same. differ (messages-apart v m.2 n.2 same)) all order)

  -- every report's picture is placed so
  pub rows-placed : read v is_placing ≡ true
  unfolding is_placing row_placing
  rows-placed =
      both_true (both_true (both_true (eq-eqb _ _ (start-first v.texts v.sections))
      (eq-eqb _ _ (start-last v.texts v.sections (row_cells v.palette v.texts v.width) v.header)))
      (every-group v _ group-placed)) rows-differ
