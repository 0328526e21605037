-- The rows of a line, and those in place of hidden lines: a margin, and what follows it.
use Rattle.std.proofs.Common.{◌≡◌, ℕ, List, [], ◌∷◌, ◌++◌, Option, Some, false, if◌then◌else◌, slice_get, sym, ap, ◌∙◌, subst, ◌⊎◌, inl, inr}
use Rattle.std.proofs.lemmas.List.{append-nil}
use Rattle.ariadne_picture.specs.declared.label_info.LineLabel.{LineLabel}
use Rattle.ariadne_picture.specs.declared.label_info.Side.{Side}
use Rattle.ariadne_picture.specs.declared.label_info.Side.TheVariants.{Inline, Starts, Ends}
use Rattle.ariadne_picture.specs.declared.switches.Switches.{Switches}
use Rattle.ariadne_picture.specs.Cells.{alternate_place, arrow_place}
use Rattle.ariadne_picture.specs.Columns.{Layout, layout_of}
use Rattle.ariadne_picture.specs.Pieces.{Piece, Section, Texts, area_pieces, blank_piece, gutter_pieces, margin_paint, margin_pieces, margin_text}
use Rattle.ariadne_picture.specs.Pieces.{message_at, message_pieces, plain_text, rest_pieces, row_pieces, shown_pieces, text_pieces}
use Rattle.ariadne_picture.specs.Ranks.{Sheet, is_start, line_labels, margin_label, multi_line_labels}
use Rattle.ariadne_picture.specs.Rows.{alternate, arrow, bare, gap, source}
use Rattle.ariadne_render.specs.Pages.{Adds, Draws, DrawsRow, PenFields}
use Rattle.ariadne_render.proofs.Drawn.{draws-append, draws_blank, draws_plain, draws_row_ended}
use Rattle.ariadne_render.specs.RowTexts.{IsOnPage}

-- ---- messages

-- where a label starts it shows none
pub message_none : (t : Texts) (x : LineLabel) → x.side ≡ Starts → message_pieces t (Some x) ≡ []
unfolding message_pieces is_start
message_none t x e = ap (λ side. if is_start side then [] else blank_piece ∷ plain_text (message_at t x.info.position) ∷ []) e

-- any other side is no start
no_start : (side : Side) → (side ≡ Inline) ⊎ (side ≡ Ends) → is_start side ≡ false
unfolding is_start
no_start side e = elim e [
  | inl inside ↦ ap is_start inside
  | inr ends ↦ ap is_start ends
]

-- elsewhere it stands behind a blank
message_some : (t : Texts) (x : LineLabel) (text : List ℕ) → (x.side ≡ Inline) ⊎ (x.side ≡ Ends) → message_at t x.info.position ≡ text
    → message_pieces t (Some x) ≡ (blank_piece ∷ []) ++ plain_text text ∷ []
unfolding message_pieces
message_some t x text n e =
    ap (λ b. if b then [] else blank_piece ∷ plain_text (message_at t x.info.position) ∷ []) (no_start x.side n)
    ∙ ap (λ m. blank_piece ∷ plain_text m ∷ []) e

-- it is drawn so
pub draws_message : (a b c : PenFields) (t : Texts) (x : LineLabel) (text : List ℕ) → (x.side ≡ Inline) ⊎ (x.side ≡ Ends) → message_at t x.info.position ≡ text
    → Adds a b (32 ∷ []) → Adds b c text → Draws a c (message_pieces t (Some x))
draws_message a b c t x text n e blank told =
    subst (Draws a c) (sym (message_some t x text n e))
    (draws-append a b c (blank_piece ∷ []) (plain_text text ∷ []) (draws_blank a b blank) (draws_plain b c text told))

-- ---- pens

-- a row of two parts
two_parts : (a b c d : PenFields) (row xs ys : List Piece) → row ≡ xs ++ ys → Draws a b xs → Draws b c ys → Adds c d (10 ∷ []) → DrawsRow a d row
two_parts a b c d row xs ys e x y end = subst (DrawsRow a d) (sym e) (draws_row_ended a c d (xs ++ ys) (draws-append a b c xs ys x y) end)

-- the margin label of a line's layout is that of the line
pub source_margin : (y : Layout) (s : Sheet) (l : ℕ) (m : Option LineLabel) → y ≡ layout_of s l → m ≡ y.margin → margin_label s.labels l ≡ m
unfolding layout_of
source_margin y s l m e found = sym (found ∙ ap (λ (t : Layout). t.margin) e)

-- ---- the rows

module _ (a : PenFields) (t : Texts) (g : Section) (on : IsOnPage t g a.page) where
  -- a margin alone
  pub draws_bare : (b c : PenFields) (l : ℕ) → Draws a b (margin_pieces a.page.switches a.page.number_width 0 (bare 0)) → Adds b c (10 ∷ [])
      → DrawsRow a c (row_pieces t a.page.number_width g (bare l))
  unfolding row_pieces rest_pieces text_pieces margin_pieces margin_text margin_paint
  draws_bare b c l m end =
      subst (DrawsRow a c) (sym (append-nil _ ∙ ap (λ (s : Switches). margin_pieces s a.page.number_width 0 (bare 0)) on.sheet))
      (draws_row_ended a b c (margin_pieces a.page.switches a.page.number_width 0 (bare 0)) m end)

  -- broken bars
  pub draws_gap : (b c d : PenFields) (l : ℕ) → Draws a b (margin_pieces a.page.switches a.page.number_width 0 (gap 0))
      → Draws b c (gutter_pieces g.sheet (gap l)) → Adds c d (10 ∷ []) → DrawsRow a d (row_pieces t a.page.number_width g (gap l))
  unfolding row_pieces rest_pieces text_pieces margin_pieces margin_text margin_paint
  draws_gap b c d l m gutter end =
      let margin = margin_pieces g.sheet.switches a.page.number_width 0 (gap 0) in
      let alone = ap (λ pieces. margin ++ pieces) (append-nil (gutter_pieces g.sheet (gap l))) in
      two_parts a b c d _ (margin_pieces a.page.switches a.page.number_width 0 (gap 0)) (gutter_pieces g.sheet (gap l))
      (alone ∙ (λ i. margin_pieces (on.sheet i) a.page.number_width 0 (gap 0) ++ gutter_pieces g.sheet (gap l))) m gutter end

  -- verticals, underlines
  pub draws_alternate : (b c d e : PenFields) (l r : ℕ) → Draws a b (margin_pieces a.page.switches a.page.number_width 0 (bare 0))
      → Draws b c (gutter_pieces g.sheet (alternate l r))
      → Draws c d (area_pieces a.page.switches (layout_of g.sheet l) (alternate_place t.multiline_arrows a.page.switches (layout_of g.sheet l) r))
      → Adds d e (10 ∷ []) → DrawsRow a e (row_pieces t a.page.number_width g (alternate l r))
  unfolding row_pieces rest_pieces text_pieces margin_pieces margin_text margin_paint
  draws_alternate b c d e l r m gutter area end =
      let y = layout_of g.sheet l in
      two_parts a b d e _ (margin_pieces a.page.switches a.page.number_width 0 (bare 0))
      (gutter_pieces g.sheet (alternate l r) ++ area_pieces a.page.switches y (alternate_place t.multiline_arrows a.page.switches y r))
      (λ i. margin_pieces (on.sheet i) a.page.number_width 0 (bare 0)
      ++ (gutter_pieces g.sheet (alternate l r) ++ area_pieces (on.texts i) y (alternate_place t.multiline_arrows (on.texts i) y r)))
      m (draws-append b c d _ _ gutter area) end

  -- an arrow, and its message
  pub draws_arrow : (b c d e f : PenFields) (l r : ℕ) (x : Option LineLabel) → slice_get (line_labels g.sheet.labels l) r ≡ x
      → Draws a b (margin_pieces a.page.switches a.page.number_width 0 (bare 0))
      → Draws b c (gutter_pieces g.sheet (arrow l r))
      → Draws c d (area_pieces a.page.switches (layout_of g.sheet l) (arrow_place a.page.switches (layout_of g.sheet l) r x))
      → Draws d e (message_pieces t x)
      → Adds e f (10 ∷ []) → DrawsRow a f (row_pieces t a.page.number_width g (arrow l r))
  unfolding row_pieces rest_pieces text_pieces margin_pieces margin_text margin_paint layout_of
  draws_arrow b c d e f l r x own m gutter area message end =
      let y = layout_of g.sheet l in
      two_parts a b e f _ (margin_pieces a.page.switches a.page.number_width 0 (bare 0))
      (gutter_pieces g.sheet (arrow l r) ++ (area_pieces a.page.switches y (arrow_place a.page.switches y r x) ++ message_pieces t x))
      (λ i. margin_pieces (on.sheet i) a.page.number_width 0 (bare 0)
      ++ (gutter_pieces g.sheet (arrow l r) ++ (area_pieces (on.texts i) y (arrow_place (on.texts i) y r (own i)) ++ message_pieces t (own i))))
      m (draws-append b c e _ _ gutter (draws-append c d e _ _ area message)) end

  -- the text of a line
  pub draws_source : (b c d e : PenFields) (l : ℕ) → Draws a b (margin_pieces a.page.switches a.page.number_width g.display_offset (source l))
      → Draws b c (gutter_pieces g.sheet (source l))
      → Draws c d (shown_pieces a.page.switches (multi_line_labels g.sheet.labels) (layout_of g.sheet l))
      → Adds d e (10 ∷ []) → DrawsRow a e (row_pieces t a.page.number_width g (source l))
  unfolding row_pieces rest_pieces text_pieces
  draws_source b c d e l m gutter text end =
      two_parts a b d e _ (margin_pieces a.page.switches a.page.number_width g.display_offset (source l))
      (gutter_pieces g.sheet (source l) ++ shown_pieces a.page.switches (multi_line_labels g.sheet.labels) (layout_of g.sheet l))
      (λ i. margin_pieces (on.sheet i) a.page.number_width g.display_offset (source l)
      ++ (gutter_pieces g.sheet (source l) ++ shown_pieces (on.texts i) (multi_line_labels g.sheet.labels) (layout_of g.sheet l)))
      m (draws-append b c d _ _ gutter text) end
