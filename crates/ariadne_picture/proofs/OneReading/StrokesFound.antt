-- Row numbers that read a picture find the heads of its gutter labels, and their messages, where the names of its rows say.
use Rattle.std.proofs.Common.{◌≡◌, ◌≢◌, ℕ, suc, ◌+◌, ◌≤◌, true, false, not, ◌&&◌, List, [], ◌∷◌, map}
use Rattle.std.proofs.Common.{Some, refl, sym, ap, ◌∙◌, subst, arith, ◌==◌, inl, inr, ◌⊎◌, nat_lt}
use Rattle.std.specs.Prelude.{slice_get, option_map}
use Rattle.std.specs.List.{AllByRecursion, list_all}
use Rattle.std.proofs.lemmas.Bool.{cond_both, cases_Bool, eq-eqb, eqb-true, true≢false}
use Rattle.std.proofs.lemmas.Option.{slice_get-map}
use Rattle.ariadne_picture.specs.declared.switches.CharSet.{CharSet}
use Rattle.ariadne_picture.specs.declared.switches.CharSet.TheVariants.{Unicode, Ascii}
use Rattle.ariadne_picture.specs.declared.label_info.LabelInfo.{LabelInfo}
use Rattle.ariadne_picture.specs.declared.label_info.LineLabel.{LineLabel}
use Rattle.ariadne_picture.specs.declared.label_info.Side.{Side}
use Rattle.ariadne_picture.specs.declared.label_info.Side.TheVariants.{Inline, Starts, Ends}
use Rattle.ariadne_picture.specs.declared.cell.Glyph.{Glyph}
use Rattle.ariadne_picture.specs.declared.cell.Glyph.TheVariants.{Blank, Hbar, Vbar, Xbar, Ltop, Lbot}
use Rattle.ariadne_picture.specs.declared.cell.Ink.{Ink}
use Rattle.ariadne_picture.specs.Lists.{joined}
use Rattle.ariadne_picture.specs.Ranks.{Sheet, is_inline, gutter_labels, line_labels}
use Rattle.ariadne_picture.specs.Rows.{Row, alternate, arrow}
use Rattle.ariadne_picture.specs.Strokes.{bar_at, is_at_margin}
use Rattle.ariadne_picture.specs.Cells.{glyph_code, turn_glyph, turn_ink, below_ink, column_ink, ink_of}
use Rattle.ariadne_picture.specs.Pieces.{Section, glyph_text, message_at}
use Rattle.ariadne_picture.specs.Canvas.{Cell}
use Rattle.ariadne_picture.specs.Placing.Cells.{is_text, is_glyph}
use Rattle.ariadne_picture.specs.Placing.Group.{set_of, messages_of}
use Rattle.ariadne_picture.specs.Placing.Rows.{Placing, gutter_cell, cell_at, row_at}
use Rattle.ariadne_picture.specs.Placing.Together.{is_gutter_label_placed, is_group_placed, is_placing, all_pairs}
use Rattle.ariadne_picture.specs.Placing.GutterEnds.{is_end_traced, is_start_traced, has_ends_of_gutter_traces}
use Rattle.ariadne_picture.proofs.Lists.ListFacts.{all-weaker, all-at, Increasing}
use Rattle.ariadne_picture.proofs.Lists.Elements.{Has}
use Rattle.ariadne_picture.proofs.Labels.LabelsAtLine.{IsHere, apart, increasing-part, gutter-labels-owned}
use Rattle.ariadne_picture.proofs.Rows.LineBlock.{IsBlockRow, IsLoneRow, block-kinds}
use Rattle.ariadne_picture.proofs.Rows.RowOrder.{shown_rows}
use Rattle.ariadne_picture.proofs.Cells.InkCells.{ink_cell}
use Rattle.ariadne_picture.proofs.Reading.GutterCells.{gutter-cell, column-few}
use Rattle.ariadne_picture.proofs.Reading.HeadPlaces.{IsGutterLabelOf, margin-line, head-at-margin, head-place}
use Rattle.ariadne_picture.proofs.Reading.MessagePlaces.{label-here, arrow-shows, two-true}
use Rattle.ariadne_picture.proofs.Reading.Pictures.{Picture, RowAt, rows_of, number, message_row, head_row, number-at}
use Rattle.ariadne_picture.proofs.Reading.ShownLine.{IsShownLine, IsArrowRow, arrow-row, arrow-at, block-row-is, source-is, rows_above}
use Rattle.ariadne_picture.proofs.Reading.TextRows.{arrow-text, alternate-text}
use Rattle.ariadne_picture.specs.Accept.{AreAccepted}
use Rattle.ariadne_picture.specs.Report.{ReportFields, World}
use Rattle.ariadne_picture.specs.Canvas.{canvas, sections, texts_of}
use Rattle.ariadne_picture.proofs.Cells.CanvasRows.{canvas-rows}
use Rattle.ariadne_picture.proofs.Reading.DrawnReports.{picture_of}
use Rattle.ariadne_picture.proofs.Lists.Elements.{has-filter}
use Rattle.ariadne_picture.proofs.Rows.RowsThere.{gutter-label-message}
use Rattle.ariadne_picture.specs.Readings.{AgreeOnLines, AgreeOnHeads, AgreeOnEnds}
use Rattle.ariadne_picture.specs.Headline.{IsReadBy}
use Rattle.ariadne_picture.proofs.Reading.LabelTraces.{head-shows}
use Rattle.ariadne_picture.proofs.Reading.EveryReport.{numbered}
use Rattle.ariadne_picture.proofs.OneReading.LinesFound.{list_all-from, same-lines}
use Rattle.ariadne_picture.proofs.OneReading.MessagesFound.{IsRowOf, each-numbered, each-group, line-row, in-block-row, MessageFound, message-found}

-- ---- which glyphs show a corner

-- a text that is that of the corner is of no other glyph
pub lbot-only : (set : CharSet) (glyph : Glyph) → is_text (glyph_text set glyph) (glyph_text set Lbot) ≡ true → glyph ≡ Lbot
unfolding glyph_text glyph_code lib.Utf8.encode
lbot-only Unicode Lbot e = refl
lbot-only Ascii Lbot e = refl
lbot-only Unicode glyph e = absurd (true≢false (sym e))
lbot-only Ascii glyph e = absurd (true≢false (sym e))

pub ltop-only : (set : CharSet) (glyph : Glyph) → is_text (glyph_text set glyph) (glyph_text set Ltop) ≡ true → glyph ≡ Ltop
unfolding glyph_text glyph_code lib.Utf8.encode
ltop-only Unicode Ltop e = refl
ltop-only Ascii Ltop e = refl
ltop-only Unicode glyph e = absurd (true≢false (sym e))
ltop-only Ascii glyph e = absurd (true≢false (sym e))

-- ---- what the gutter shows in the rows below a line

-- a bar, or nothing
abbrev IsBar : Glyph → Type 0
IsBar glyph = (glyph ≡ Vbar) ⊎ (glyph ≡ Blank)

below-bar : (s : Sheet) (x : Row) (i : ℕ) → IsBar (below_ink s x i).first
unfolding below_ink
below-bar s x i = cond_both (bar_at s x i) _ _ (λ (ink : Ink). IsBar ink.first) (λ _. inl refl) (λ _. inr refl)

alternate-bar : (s : Sheet) (l r i : ℕ) → IsBar (column_ink s (alternate l r) i).first
unfolding column_ink
alternate-bar s l r i = below-bar s (alternate l r) i

-- what an arrow row shows in column i
data Turn (s : Sheet) (l r i : ℕ) (x : LineLabel) : Type 0 where
  bar : IsBar (column_ink s (arrow l r) i).first → Turn s l r i x
  level : ((column_ink s (arrow l r) i).first ≡ Hbar) ⊎ ((column_ink s (arrow l r) i).first ≡ Xbar) → is_inline x.side ≡ false → Turn s l r i x
  turned : is_inline x.side ≡ false → x.gutter_column ≡ i → (column_ink s (arrow l r) i).first ≡ turn_glyph x.side → Turn s l r i x

arrow-turn : (s : Sheet) (l r i : ℕ) (x : LineLabel) → slice_get (line_labels s.labels l) r ≡ Some x → Turn s l r i x
unfolding column_ink turn_ink
arrow-turn s l r i x e = elim (cases_Bool (is_inline x.side)) [
  | inl within ↦ bar (rw (e, within) (below-bar s (arrow l r) i))
  | inr out ↦ elim (cases_Bool (x.gutter_column == i)) [
    | inl own ↦ turned out (eqb-true x.gutter_column i own) (rw (e, out, own) refl)
    | inr other ↦ elim (cases_Bool (nat_lt x.gutter_column i)) [
      | inl behind ↦
          level (rw (e, out, other, behind)
          (cond_both (bar_at s (arrow l r) i && not s.switches.cross_gap) (ink_of Xbar Hbar x.info) (ink_of Hbar Hbar x.info)
          (λ (ink : Ink). (ink.first ≡ Hbar) ⊎ (ink.first ≡ Xbar)) (λ _. inr refl) (λ _. inl refl))) out
      | inr before ↦ bar (rw (e, out, other, before) (below-bar s (arrow l r) i))
    ]
  ]
]

-- the corner of a head is that of a start in its own column
turn-head : (s : Sheet) (l r i : ℕ) (x : LineLabel) → Turn s l r i x → (column_ink s (arrow l r) i).first ≡ Ltop → (x.side ≡ Starts) × (x.gutter_column ≡ i)
unfolding turn_glyph is_inline
turn-head s l r i x (bar (inl a)) e = absurd (let z : Vbar ≡ Ltop = sym a ∙ e in cc)
turn-head s l r i x (bar (inr a)) e = absurd (let z : Blank ≡ Ltop = sym a ∙ e in cc)
turn-head s l r i x (level (inl a) out) e = absurd (let z : Hbar ≡ Ltop = sym a ∙ e in cc)
turn-head s l r i x (level (inr a) out) e = absurd (let z : Xbar ≡ Ltop = sym a ∙ e in cc)
turn-head s l r i x (turned out same a) e = (of-side x.side (sym a ∙ e), same)
  where
    of-side : (side : Side) → turn_glyph side ≡ Ltop → side ≡ Starts
    of-side Starts z = refl
    of-side Ends z = cc
    of-side Inline z = cc

-- that of a message is that of an end
turn-end : (s : Sheet) (l r i : ℕ) (x : LineLabel) → Turn s l r i x → (column_ink s (arrow l r) i).first ≡ Lbot → (x.side ≡ Ends) × (x.gutter_column ≡ i)
unfolding turn_glyph is_inline
turn-end s l r i x (bar (inl a)) e = absurd (let z : Vbar ≡ Lbot = sym a ∙ e in cc)
turn-end s l r i x (bar (inr a)) e = absurd (let z : Blank ≡ Lbot = sym a ∙ e in cc)
turn-end s l r i x (level (inl a) out) e = absurd (let z : Hbar ≡ Lbot = sym a ∙ e in cc)
turn-end s l r i x (level (inr a) out) e = absurd (let z : Xbar ≡ Lbot = sym a ∙ e in cc)
turn-end s l r i x (turned out same a) e = (of-side x.side (sym a ∙ e), same)
  where
    of-side : (side : Side) → turn_glyph side ≡ Lbot → side ≡ Ends
    of-side Ends z = refl
    of-side Starts z = cc
    of-side Inline z = cc

-- a glyph's cell that shows another glyph shows its text
shows-text : (v : Picture) (s : Section) (ink : Ink) (glyph : Glyph) (c : Cell) → c ≡ ink_cell v s ink → is_glyph (set_of s) glyph c ≡ true
    → is_text (glyph_text (set_of s) ink.first) (glyph_text (set_of s) glyph) ≡ true
unfolding is_glyph
shows-text v s ink glyph c e h = ap (λ (c : Cell). is_text c.text (glyph_text (set_of s) glyph)) (sym e) ∙ h

-- ---- the line label whose row shows a corner in the gutter

module _ (v : Picture) {g : ℕ} {s : Section} {i : ℕ} {a : LabelInfo} (o : IsGutterLabelOf v g s i a) where
  -- an arrow row with a corner in column i
  pub record IsTurn (l : ℕ) (side : Side) (n : ℕ) : Type 0 where
    pub rank : ℕ
    pub label : LineLabel
    pub arrow_row : IsArrowRow v g s l rank label
    pub same_side : label.side ≡ side
    pub same_column : label.gutter_column ≡ i
    pub is : number v g s (arrow l rank) ≡ n

  arrow-cell : {l r : ℕ} {x : LineLabel} → IsArrowRow v g s l r x
      → gutter_cell (rows_of v) s (number v g s (arrow l r)) i ≡ ink_cell v s (column_ink s.sheet (arrow l r) i)
  arrow-cell q = gutter-cell v (arrow-text v (arrow-at v q)) i (column-few o)

  turned-row : (glyph : Glyph) (side : Side)
      → ((glyph' : Glyph) → is_text (glyph_text (set_of s) glyph') (glyph_text (set_of s) glyph) ≡ true → glyph' ≡ glyph)
      → (IsBar glyph → ⊥)
      → ((l r : ℕ) (x : LineLabel) → Turn s.sheet l r i x → (column_ink s.sheet (arrow l r) i).first ≡ glyph → (x.side ≡ side) × (x.gutter_column ≡ i))
      → {l : ℕ} (k : IsShownLine v g s l) (n : ℕ) → IsRowOf v k n → is_glyph (set_of s) glyph (gutter_cell (rows_of v) s n i) ≡ true → IsTurn l side n
  turned-row glyph side only no_bar turn {l} k n row shows =
      by-kind (all-at (λ y. IsBlockRow s.sheet l y ⊎ IsLoneRow s.sheet l y) _ row.index row.name row.there (block-kinds s.sheet l))
    where
      here : is_glyph (set_of s) glyph (gutter_cell (rows_of v) s (number v g s row.name) i) ≡ true
      here = rw row.is shows

      no-turn : (r : ℕ) → row.name ≡ alternate l r → ⊥
      no-turn r e =
          let at = subst (RowAt v g s (rows_above v k + suc row.index)) e (block-row-is v k row.index row.name row.there) in
          let shown : is_glyph (set_of s) glyph (gutter_cell (rows_of v) s (number v g s (alternate l r)) i) ≡ true = rw e at here in
          let cell = gutter-cell v (alternate-text v at) i (column-few o) in
          let first = only _ (shows-text v s (column_ink s.sheet (alternate l r) i) glyph _ cell shown) in
          no_bar (subst IsBar first (alternate-bar s.sheet l r i))

      by-kind : IsBlockRow s.sheet l row.name ⊎ IsLoneRow s.sheet l row.name → IsTurn l side n
      by-kind (inr b) = absurd (no-turn _ b.1)
      by-kind (inl b) = elim b.kind [
        | inl e ↦
            let q = arrow-row v b.rank b.label k b.there b.message in
            let shown : is_glyph (set_of s) glyph (gutter_cell (rows_of v) s (number v g s (arrow l b.rank)) i) ≡ true = rw e at here in
            let first = only _ (shows-text v s (column_ink s.sheet (arrow l b.rank) i) glyph _ (arrow-cell q) shown) in
            let found = turn l b.rank b.label (arrow-turn s.sheet l b.rank i b.label b.there) first in
            record {
              rank = b.rank;
              label = b.label;
              arrow_row = q;
              same_side = found.0;
              same_column = found.1;
              is = ap (number v g s) (sym e) ∙ row.is;
            }
        | inr e ↦ absurd (no-turn _ e.0)
      ]

  pub head-turn : {l : ℕ} (k : IsShownLine v g s l) (n : ℕ) → IsRowOf v k n → is_glyph (set_of s) Ltop (gutter_cell (rows_of v) s n i) ≡ true → IsTurn l Starts n
  head-turn = turned-row Ltop Starts (ltop-only (set_of s)) (λ b. elim b [ inl e ↦ cc | inr e ↦ cc ]) (λ l r x. turn-head s.sheet l r i x)

  pub end-turn : {l : ℕ} (k : IsShownLine v g s l) (n : ℕ) → IsRowOf v k n → is_glyph (set_of s) Lbot (gutter_cell (rows_of v) s n i) ≡ true → IsTurn l Ends n
  end-turn = turned-row Lbot Ends (lbot-only (set_of s)) (λ b. elim b [ inl e ↦ cc | inr e ↦ cc ]) (λ l r x. turn-end s.sheet l r i x)

-- two arrow rows of a line that stand in one row are of one line label
pub same-rank : (v : Picture) {g : ℕ} {s : Section} {l r r' : ℕ} {x x' : LineLabel} (q : IsArrowRow v g s l r x) (q' : IsArrowRow v g s l r' x')
    → number v g s (arrow l r) ≡ number v g s (arrow l r') → r ≡ r'
same-rank v {s = s} {l} q q' same =
    let a = number-at v (arrow-at v q) in
    let b = number-at v (arrow-at v q') in
    let one : q.index ≡ q'.index = omega (arith, a, b, same) in
    let mine = q.row in
    let other = q'.row in
    let names : slice_get (shown_rows s.sheet l) q.index ≡ slice_get (shown_rows s.sheet l) q'.index = ap (slice_get (shown_rows s.sheet l)) one in
    cc

-- ---- row numbers that read the picture

-- numbers of which no two are the same
pub distinct-from : (ns : List ℕ) → all_pairs (λ n m. not (n == m)) ns ≡ true → Increasing (λ (n m : ℕ). n ≢ m) ns
unfolding all_pairs
distinct-from [] e = tt
distinct-from (n ∷ ns) e =
    let two = two-true (list_all (λ m. not (n == m)) ns) (all_pairs (λ n m. not (n == m)) ns) e in
    (all-weaker _ (λ m. n ≢ m) ns (λ m h same. true≢false (sym h ∙ ap not (eq-eqb n m same))) (list_all-from (λ m. not (n == m)) ns two.0), distinct-from ns two.1)

-- what stands at one place is one element
same-element : (xs : List LabelInfo) (i j : ℕ) (a b : LabelInfo) → slice_get xs i ≡ Some a → slice_get xs j ≡ Some b → i ≡ j → a ≡ b
same-element xs i j a b d e same = let here = ap (slice_get xs) same in cc

module _ (v : Picture) (p : Placing) (h : IsReadBy (rows_of v) v.sections (message_at v.texts) p) where
  -- what a cell is does not depend on them
  same-gutter : (s : Section) (n i : ℕ) → gutter_cell (rows_of v) s n i ≡ gutter_cell (rows_of v) s n i
  unfolding cell_at row_at
  same-gutter s n i = refl

  -- the ends of gutter label i are traced
  pub record IsTracedBy (g : ℕ) (s : Section) (i : ℕ) (a : LabelInfo) : Type 0 where
    pub end : is_glyph (set_of s) Lbot (gutter_cell (rows_of v) s (p.message_row a.position) i) ≡ true
    pub head : is_glyph (set_of s) Ltop (gutter_cell (rows_of v) s (p.head_row g i) i) ≡ true

  pub ends-traced : (g : ℕ) (s : Section) (i : ℕ) (a : LabelInfo) → IsGutterLabelOf v g s i a → IsTracedBy g s i a
  unfolding has_ends_of_gutter_traces is_end_traced is_start_traced
  ends-traced g s i a o =
      let group = each-group _ v.sections g s h.or_to_both_ends_of_the_gutter_column o.group in
      let label = each-numbered _ (gutter_labels s.sheet.labels) i a group o.owned in
      let two = two-true _ _ label in
      let both = two-true (is_end_traced (rows_of v) v.sections p g s i a) (is_start_traced (rows_of v) v.sections p g s i a) two.0 in
      let x = two-true _ _ both.0 in
      let y = two-true _ _ x.0 in
      let z = two-true _ _ y.0 in
      let w = two-true _ _ z.0 in
      let u = two-true _ _ both.1 in
      record {
        end = ap (is_glyph (set_of s) Lbot) (sym (same-gutter s (p.message_row a.position) i)) ∙ w.0;
        head = ap (is_glyph (set_of s) Ltop) (sym (same-gutter s (p.head_row g i) i)) ∙ u.0;
      }

  -- its head is placed
  head-placed : (g : ℕ) (s : Section) (i : ℕ) (a : LabelInfo) → IsGutterLabelOf v g s i a
      → is_gutter_label_placed (rows_of v) v.sections p g s i a ≡ true
  unfolding is_placing is_group_placed
  head-placed g s i a o =
      let x = two-true _ _ h.rows_belong_together in
      let y = two-true _ _ x.0 in
      let group = each-group (is_group_placed (rows_of v) v.sections p) v.sections g s y.1 o.group in
      let z = two-true _ _ group in
      each-numbered (is_gutter_label_placed (rows_of v) v.sections p g s) (gutter_labels s.sheet.labels) i a z.1 o.owned

  -- it stands where the rows' names say
  pub head-found : (g : ℕ) (s : Section) (i : ℕ) (a : LabelInfo) → IsGutterLabelOf v g s i a → p.head_row g i ≡ head_row v g i
  unfolding is_gutter_label_placed
  head-found g s i a o = elim (cases_Bool (is_at_margin s.sheet a.start_line i)) [
    | inl at ↦
        let line = margin-line v o at in
        let placed = rw at at (head-placed g s i a o) in
        eqb-true _ _ placed ∙ line-row v p h a.start_line line ∙ source-is v line ∙ sym (head-at-margin v o at)
    | inr off ↦
        let own = head-place v o off in
        let k : IsShownLine v g s a.start_line = own.arrow_row.line in
        let placed = rw off at (head-placed g s i a o) in
        let row = in-block-row v p h a.start_line k (p.head_row g i) placed in
        let turn = head-turn v o k (p.head_row g i) row (ends-traced g s i a o).head in
        of-start turn (label-here s.sheet a.start_line turn.rank turn.label turn.arrow_row.there)
  ]
    where
      of-start : (t : IsTurn v o a.start_line Starts (p.head_row g i)) → IsHere s.sheet a.start_line t.label → p.head_row g i ≡ head_row v g i
      of-start t (inl x) = sym t.is ∙ sym (head-shows v t.arrow_row x) ∙ ap (head_row v g) t.same_column
      of-start t (inr (inl x)) = absurd (let z : Starts ≡ Ends = sym t.same_side ∙ x.side in cc)
      of-start t (inr (inr x)) = absurd (let z : Starts ≡ Inline = sym t.same_side ∙ x.side in cc)

  -- ---- messages

  -- two labels of a group have two rows
  pub rows-apart : (g : ℕ) (s : Section) (a b : LabelInfo) → slice_get v.sections g ≡ Some s → Has (messages_of s) a → Has (messages_of s) b
      → p.message_row a.position ≡ p.message_row b.position → a ≡ b
  unfolding is_placing
  rows-apart g s a b there x y same =
      let two = two-true _ _ h.rows_belong_together in
      let f : LabelInfo → ℕ = λ a. p.message_row a.position in
      let all = distinct-from (joined (λ (s : Section). map f (messages_of s)) v.sections) two.1 in
      let mine = increasing-part (λ (n m : ℕ). n ≢ m) (λ (s : Section). map f (messages_of s)) v.sections g s all there in
      let at : (a : LabelInfo) (x : Has (messages_of s) a) → slice_get (map f (messages_of s)) x.place ≡ Some (f a) =
      λ a x. slice_get-map f (messages_of s) x.place ∙ ap (option_map f) x.there in
      let one : x.place ≡ y.place = apart (λ (n : ℕ). n) (map f (messages_of s)) x.place y.place (f a) (f b) mine (at a x) (at b y) same in
      same-element (messages_of s) x.place y.place a b x.there y.there one

  -- that of a gutter label stands where the rows' names say
  pub end-found : (g : ℕ) (s : Section) (i : ℕ) (a : LabelInfo) → IsGutterLabelOf v g s i a → (m : MessageFound v p h g s a)
      → m.label.info ≡ a
  end-found g s i a o m =
      let k = m.line in
      let row : IsRowOf v k (p.message_row a.position) = record { index = m.arrow_row.index; name = arrow a.end_line m.rank; there = m.arrow_row.row; is = m.row } in
      let turn = end-turn v o k (p.message_row a.position) row (ends-traced g s i a o).end in
      let one = same-rank v turn.arrow_row m.arrow_row (turn.is ∙ sym m.row) in
      of-end turn one (label-here s.sheet a.end_line turn.rank turn.label turn.arrow_row.there)
    where
      of-end : (t : IsTurn v o a.end_line Ends (p.message_row a.position)) → t.rank ≡ m.rank → IsHere s.sheet a.end_line t.label → m.label.info ≡ a
      of-end t one (inl x) = absurd (let z : Ends ≡ Starts = sym t.same_side ∙ x.side in cc)
      of-end t one (inr (inl x)) =
          let mine = t.arrow_row.there in
          let here = m.arrow_row.there in
          let label : t.label ≡ m.label = cc in
          let own : slice_get (gutter_labels s.sheet.labels) i ≡ Some t.label.info = rw t.same_column at x.owned in
          let a_own = o.owned in
          cc
      of-end t one (inr (inr x)) = absurd (let z : Ends ≡ Inline = sym t.same_side ∙ x.side in cc)

  -- so its message stands where the rows' names say
  pub end-row : (g : ℕ) (s : Section) (i : ℕ) (a : LabelInfo) → IsGutterLabelOf v g s i a → p.message_row a.position ≡ message_row v a.position
  unfolding messages_of
  end-row g s i a o =
      let own = all-at (Has s.sheet.labels) _ i a o.owned (gutter-labels-owned s.sheet) in
      let has = has-filter (λ (a : LabelInfo). a.has_message) s.sheet.labels own.place a own.there (gutter-label-message s.sheet i a o.owned) in
      let m = message-found v p h g s a o.group has in
      let same = end-found g s i a o m in
      sym m.row ∙ sym (arrow-shows v m.arrow_row m.no_start) ∙ ap (λ (a : LabelInfo). message_row v a.position) same

-- ---- every report

module _ {S Id : Type 0} (w : World S Id) (r : ReportFields S) (infos : List LabelInfo) (accepted : AreAccepted w r infos)
    (forward : AllByRecursion (λ label. w.start_of label.span ≤ w.end_of label.span) r.labels) where
  -- its picture
  abbrev picture : Picture
  picture = picture_of w r infos (numbered w r infos accepted forward)

  -- row numbers that its canvas is read by read its picture
  pub read-picture : (p : Placing) → IsReadBy (canvas w r infos) (sections w r infos) (message_at (texts_of r)) p
      → IsReadBy (rows_of picture) (sections w r infos) (message_at (texts_of r)) p
  read-picture p h = subst (λ c. IsReadBy c (sections w r infos) (message_at (texts_of r)) p) (canvas-rows w r infos) h

  -- they agree on heads
  pub every-head-agrees : (p q : Placing) → IsReadBy (canvas w r infos) (sections w r infos) (message_at (texts_of r)) p
      → IsReadBy (canvas w r infos) (sections w r infos) (message_at (texts_of r)) q → AgreeOnHeads (sections w r infos) p q
  every-head-agrees p q h k g s i a there owned =
      let o : IsGutterLabelOf picture g s i a = record { group = there; owned = owned } in
      head-found picture p (read-picture p h) g s i a o ∙ sym (head-found picture q (read-picture q k) g s i a o)

  -- and on the messages of gutter labels
  pub every-end-agrees : (p q : Placing) → IsReadBy (canvas w r infos) (sections w r infos) (message_at (texts_of r)) p
      → IsReadBy (canvas w r infos) (sections w r infos) (message_at (texts_of r)) q → AgreeOnEnds (sections w r infos) p q
  every-end-agrees p q h k g s i a there owned =
      let o : IsGutterLabelOf picture g s i a = record { group = there; owned = owned } in
      end-row picture p (read-picture p h) g s i a o ∙ sym (end-row picture q (read-picture q k) g s i a o)

  -- source rows need no other clause than that the rows belong together
  pub every-line-agrees : (p q : Placing) → is_placing (canvas w r infos) (sections w r infos) p ≡ true
      → is_placing (canvas w r infos) (sections w r infos) q ≡ true → AgreeOnLines (sections w r infos) p q
  every-line-agrees p q h k =
      let read : (p : Placing) → is_placing (canvas w r infos) (sections w r infos) p ≡ true
      → is_placing (rows_of picture) (sections w r infos) p ≡ true =
      λ p h. subst (λ c. is_placing c (sections w r infos) p ≡ true) (canvas-rows w r infos) h in
      same-lines picture p q (read p h) (read q k)
