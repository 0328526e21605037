-- What the gutter columns of each kind of row show, by the bars that a gutter holds.
use Rattle.std.proofs.Common.{◌≡◌, ℕ, zero, suc, ◌+◌, ◌*◌, ◌<◌, ◌≤◌, Bool, true, false, not, ◌&&◌, List, [], ◌∷◌, map, length, get_or}
use Rattle.std.proofs.Common.{None, Some, refl, sym, ap, ◌∙◌, arith, inl, inr, eq-eqb, ◌==◌, nat_lt, if◌then◌else◌}
use Rattle.std.specs.Prelude.{slice_get, unwrap_or, option_map, Option}
use Rattle.std.proofs.lemmas.Bool.{cond_both, cond-false, cond-true, cases_lt, cases_Bool, true≢false, false_from_ne_true, eqb-true, and_from}
use Rattle.std.proofs.lemmas.List.{get_or_past, length-map}
use Rattle.std.proofs.lemmas.Option.{slice_get_within}
use Rattle.ariadne_base.specs.Locations.{upto}
use Rattle.ariadne_picture.specs.declared.cell.Glyph.{Glyph}
use Rattle.ariadne_picture.specs.declared.cell.Glyph.TheVariants.{Blank, Hbar, Vbar, VbarGap, Xbar}
use Rattle.ariadne_picture.specs.declared.cell.Ink.{Ink}
use Rattle.ariadne_picture.specs.declared.cell.Paint.TheVariants.{Plain, Label}
use Rattle.ariadne_picture.specs.declared.label_info.LabelInfo.{LabelInfo}
use Rattle.ariadne_picture.specs.declared.label_info.LineLabel.{LineLabel}
use Rattle.ariadne_picture.specs.declared.switches.Switches.{Switches}
use Rattle.ariadne_picture.specs.Cells.{blanks, ink, ink_of, paint_of, gutter_label_paint, margin_ink, beside_ink, below_ink, turn_ink, column_ink}
use Rattle.ariadne_picture.specs.Lists.{joined}
use Rattle.ariadne_picture.specs.Pieces.{column_size, gutter_len, gutter_pieces, ink_pieces, spaces}
use Rattle.ariadne_picture.specs.Print.{pieces_bytes}
use Rattle.ariadne_picture.specs.Ranks.{Sheet, gutter_labels, is_inline, is_of_gutter_label, line_labels, margin_label}
use Rattle.ariadne_picture.specs.Rows.{Row, Aside, alternate, arrow, blank, gap, piece, source, before}
use Rattle.ariadne_picture.specs.Strokes.{bar_at, is_at_margin, first_row, has_tee}
use Rattle.ariadne_picture.proofs.Cells.GutterInks.{no-bar-last}
use Rattle.ariadne_picture.proofs.Labels.LabelsAtLine.{IsHere, labels-here}
use Rattle.ariadne_picture.proofs.Labels.LineLabels.{IsEndAt, margin-is}
use Rattle.ariadne_picture.proofs.Lists.ListFacts.{all-at}
use Rattle.ariadne_picture.proofs.Rows.BarCases.{bar-between}
use Rattle.ariadne_picture.proofs.Rows.RowOrder.{before-irreflexive}
use Rattle.ariadne_render.specs.Pages.{Adds, Draws, PageFields, PenFields}
use Rattle.ariadne_render.proofs.Drawn.{adds_same}
use Rattle.ariadne_render.specs.Gutters.{GutterFields, IsOfSheet, bar_in, bar_of, bar_ink, bars_ink, columns, column_bytes, columns_bytes}
use Rattle.ariadne_render.specs.Gutters.{arrow_row_ink, margin_row_ink, source_row_ink, turn_row_ink}
use Rattle.ariadne_render.proofs.RowBars.{HasBarsOf, is_own_column, owns_column}
use Rattle.ariadne_render.proofs.GutterBytes.{bytes-joined, blank-columns}
use Rattle.ariadne_render.proofs.GutterText.{joined-range_same}

-- ---- a row by its columns

-- the gutter has a column more than gutter labels, at most
gutter-few : (s : Sheet) → gutter_len s ≤ length (gutter_labels s.labels) + 1
unfolding gutter_len
gutter-few s =
    let n = length (gutter_labels s.labels) in
    cond_both (n == 0) 0 (n + 1) (λ k. k ≤ n + 1) (λ e. omega arith) (λ e. omega arith)

-- it has as many as the group's
pub same-columns : (s : Sheet) (g : GutterFields) → length g.bars ≡ length (gutter_labels s.labels) → gutter_len s ≡ columns g
unfolding columns gutter_len
same-columns s g e = ap (λ n. if n == 0 then 0 else n + 1) (sym e)

-- a row is written column by column
pub row-bytes : (s : Sheet) (x : Row) (g : GutterFields) (ink_at : ℕ → Ink) → IsOfSheet s g → length g.bars ≡ length (gutter_labels s.labels)
    → ((i : ℕ) → i ≤ length (gutter_labels s.labels) → column_ink s x i ≡ ink_at i)
    → pieces_bytes g.page.palette (gutter_pieces s x) ≡ columns_bytes g.page ink_at (columns g)
unfolding gutter_pieces columns_bytes column_bytes
row-bytes s x g ink_at of len same =
    let p = g.page.palette in
    let few = gutter-few s in
    bytes-joined p (λ i. ink_pieces s.switches.char_set (column_ink s x i) (column_size s.switches)) (upto (gutter_len s))
    ∙ joined-range_same _ _ 0 (gutter_len s)
    (λ i low high. let e = same i (omega arith) in
    λ j. pieces_bytes p (ink_pieces (sym of.switches j).char_set (e j) (column_size (sym of.switches j))))
    ∙ ap (λ n. joined (λ i. pieces_bytes p (ink_pieces g.page.switches.char_set (ink_at i) (column_size g.page.switches))) (upto n))
    (same-columns s g len)

-- ---- one column

-- the colour of a gutter label is that of its position
paint-at : (xs : List LabelInfo) (i : ℕ) → i < length xs
    → unwrap_or (option_map paint_of (slice_get xs i)) Plain ≡ Label (get_or (map (λ (a : LabelInfo). a.position) xs) i 0)
paint-at [] i h = absurd (omega arith)
paint-at (x ∷ xs) zero h = refl
paint-at (x ∷ xs) (suc i) h = paint-at xs i (omega arith)

-- a column with a bar of the group, or without, is one of the gutter
bar-ink : (s : Sheet) (g : GutterFields) (glyph : Glyph) (i : ℕ) (b : Bool) → IsOfSheet s g → length g.bars ≡ length (gutter_labels s.labels)
    → bar_in g.bars i ≡ b → (if b then ink glyph (gutter_label_paint s i) Blank Plain else blanks) ≡ bars_ink glyph g i
unfolding bars_ink bar_ink bar_of bar_in gutter_label_paint
bar-ink s g glyph i true of len on =
    let inside : i < length (gutter_labels s.labels) = elim (cases_lt i (length g.bars)) [
      | inl less ↦ omega arith
      | inr more ↦ absurd (true≢false (sym on ∙ get_or_past g.bars i false more))
    ] in
    rw on (ap (λ p. ink glyph p Blank Plain)
    (paint-at (gutter_labels s.labels) i inside ∙ ap (λ t. Label (get_or t i 0)) (sym of.positions)))
bar-ink s g glyph i false of len off = rw off refl

-- bars of the group stand where those of the gutter do, but in the row's own column
bar-agrees : (s : Sheet) (x : Row) (g : GutterFields) → HasBarsOf s x g → (i : ℕ) → i ≤ length (gutter_labels s.labels) → owns_column s x i ≡ false
    → bar_at s x i ≡ bar_in g.bars i
unfolding bar_in
bar-agrees s x g h i within other = elim (cases_lt i (length (gutter_labels s.labels))) [
  | inl less ↦ sym (h.bars i less other)
  | inr more ↦
      let e : i ≡ length (gutter_labels s.labels) = omega arith in
      let len = h.len in
      ap (bar_at s x) e ∙ no-bar-last s x ∙ sym (get_or_past g.bars i false (omega arith))
]

-- so a column that shows its bar, or blanks, does so here
bar-column : (s : Sheet) (x : Row) (g : GutterFields) (glyph : Glyph) → HasBarsOf s x g → (i : ℕ) → i ≤ length (gutter_labels s.labels)
    → owns_column s x i ≡ false → (if bar_at s x i then ink glyph (gutter_label_paint s i) Blank Plain else blanks) ≡ bars_ink glyph g i
bar-column s x g glyph h i within other =
    bar-ink s g glyph i (bar_at s x i) h.sheet h.len (sym (bar-agrees s x g h i within other))

-- ---- the rows that have bars alone

-- an alternate row
pub alternate-bytes : (s : Sheet) (l r : ℕ) (g : GutterFields) → HasBarsOf s (alternate l r) g
    → pieces_bytes g.page.palette (gutter_pieces s (alternate l r)) ≡ columns_bytes g.page (bars_ink Vbar g) (columns g)
unfolding column_ink below_ink owns_column
alternate-bytes s l r g h =
    row-bytes s (alternate l r) g (bars_ink Vbar g) h.sheet h.len (λ i within. bar-column s (alternate l r) g Vbar h i within refl)

-- the arrow row of a label within the line
pub inline-bytes : (s : Sheet) (l r : ℕ) (x : LineLabel) (g : GutterFields) → HasBarsOf s (arrow l r) g → slice_get (line_labels s.labels l) r ≡ Some x
    → is_inline x.side ≡ true → pieces_bytes g.page.palette (gutter_pieces s (arrow l r)) ≡ columns_bytes g.page (bars_ink Vbar g) (columns g)
unfolding column_ink turn_ink below_ink owns_column is_own_column
inline-bytes s l r x g h there inline =
    row-bytes s (arrow l r) g (bars_ink Vbar g) h.sheet h.len
    (λ i within. rw (there, inline) (bar-column s (arrow l r) g Vbar h i within (rw (there, inline) refl)))

-- a source row without margin label
pub source-bytes : (s : Sheet) (l : ℕ) (g : GutterFields) → HasBarsOf s (source l) g → margin_label s.labels l ≡ None
    → pieces_bytes g.page.palette (gutter_pieces s (source l)) ≡ columns_bytes g.page (bars_ink Vbar g) (columns g)
unfolding column_ink beside_ink margin_ink owns_column is_of_gutter_label
source-bytes s l g h none =
    row-bytes s (source l) g (bars_ink Vbar g) h.sheet h.len
    (λ i within. rw none (bar-column s (source l) g Vbar h i within (rw none refl)))

-- a row in place of hidden lines
pub gap-bytes : (s : Sheet) (l : ℕ) (g : GutterFields) → HasBarsOf s (gap l) g → margin_label s.labels l ≡ None
    → pieces_bytes g.page.palette (gutter_pieces s (gap l)) ≡ columns_bytes g.page (bars_ink VbarGap g) (columns g)
unfolding column_ink beside_ink margin_ink owns_column
gap-bytes s l g h none =
    row-bytes s (gap l) g (bars_ink VbarGap g) h.sheet h.len
    (λ i within. rw none (bar-column s (gap l) g VbarGap h i within refl))

-- ---- a row of blanks

-- a row below all lines
pub blank-bytes : (s : Sheet) (x : Row) (g : GutterFields) → IsOfSheet s g → length g.positions ≡ length g.bars
    → ((i : ℕ) → column_ink s x i ≡ blanks)
    → pieces_bytes g.page.palette (gutter_pieces s x) ≡ spaces (columns g * column_size g.page.switches)
unfolding columns_bytes
blank-bytes s x g of same free =
    let len : length g.bars ≡ length (gutter_labels s.labels) =
    sym same ∙ ap length of.positions ∙ length-map (gutter_labels s.labels) (λ (a : LabelInfo). a.position) in
    row-bytes s x g (λ i. blanks) of len (λ i within. free i) ∙ blank-columns g.page 0 (columns g)

-- above a help or a note
pub blank-ink : (s : Sheet) (a : Aside) (k i : ℕ) → column_ink s (blank a k) i ≡ blanks
unfolding column_ink
blank-ink s a k i = refl

-- and beside its lines
pub piece-ink : (s : Sheet) (a : Aside) (k p i : ℕ) → column_ink s (piece a k p) i ≡ blanks
unfolding column_ink
piece-ink s a k p i = refl

-- ---- the source row of a line with a margin label

-- no bar of a gutter label stands where its own stroke leaves or enters the margin
no-bar-own : (s : Sheet) (l : ℕ) (m : LineLabel) → margin_label s.labels l ≡ Some m → bar_at s (source l) m.gutter_column ≡ false
unfolding first_row has_tee is_of_gutter_label
no-bar-own s l m there =
    let i = m.gutter_column in
    let edge : IsEndAt s l m = margin-is s l m there in
    let same : is_at_margin s l i ≡ true = rw there (eq-eqb i i refl) in
    false_from_ne_true (bar_at s (source l) i) (λ on.
    let between = bar-between s (source l) i m.info edge.owned on in
    elim edge.there [
      | inl h ↦
          let at : is_at_margin s m.info.start_line i ≡ true = ap (λ k. is_at_margin s k i) h.1 ∙ same in
          let first : first_row s i m.info ≡ source l = cond-true _ (source m.info.start_line) _ at ∙ ap source h.1 in
          true≢false (sym between.after ∙ ap (λ x. before x (source l)) first ∙ before-irreflexive (source l))
      | inr h ↦
          let tee : has_tee s m.info i (source l) ≡ true = and_from (m.info.end_line == l) (is_at_margin s l i) (eq-eqb m.info.end_line l h.1) same in
          true≢false (sym tee ∙ between.no_tee)
    ])

-- its columns
margin-column : (s : Sheet) (l : ℕ) (m : LineLabel) (g : GutterFields) → HasBarsOf s (source l) g → margin_label s.labels l ≡ Some m
    → (i : ℕ) → i ≤ length (gutter_labels s.labels) → column_ink s (source l) i ≡ margin_row_ink g m i
unfolding column_ink beside_ink margin_row_ink owns_column is_of_gutter_label
margin-column s l m g h there i within =
    let e = ap (λ n. margin_ink n i (Some m)) (sym h.len) in
    elim (cases_Bool (m.gutter_column == i)) [
      | inl same ↦
          let own : m.gutter_column ≡ i = eqb-true m.gutter_column i same in
          let off : bar_at s (source l) i ≡ false = ap (bar_at s (source l)) (sym own) ∙ no-bar-own s l m there in
          elim (cases_Bool (bar_in g.bars i)) [
            | inl on ↦ rw (off, on, same, there) e
            | inr none ↦ rw (off, none, there) e
          ]
      | inr other ↦
          let agrees = bar-agrees s (source l) g h i within (rw there other) in
          elim (cases_Bool (bar_in g.bars i)) [
            | inl on ↦ rw (agrees, on, other) (bar-ink s g Vbar i true h.sheet h.len on)
            | inr off ↦ rw (agrees, off, there) e
          ]
    ]

-- the row
pub margin-bytes : (s : Sheet) (l : ℕ) (m : LineLabel) (g : GutterFields) → HasBarsOf s (source l) g → margin_label s.labels l ≡ Some m
    → pieces_bytes g.page.palette (gutter_pieces s (source l)) ≡ columns_bytes g.page (margin_row_ink g m) (columns g)
margin-bytes s l m g h there =
    row-bytes s (source l) g (margin_row_ink g m) h.sheet h.len (λ i within. margin-column s l m g h there i within)

-- its margin label is a gutter label's
pub margin-within : (s : Sheet) (l : ℕ) (m : LineLabel) → margin_label s.labels l ≡ Some m → m.gutter_column < length (gutter_labels s.labels)
margin-within s l m there = slice_get_within (gutter_labels s.labels) m.gutter_column m.info (margin-is s l m there).owned

-- ---- the arrow row of the start or the end of a gutter label

-- its columns
turn-column : (s : Sheet) (l r : ℕ) (x : LineLabel) (g : GutterFields) → HasBarsOf s (arrow l r) g → slice_get (line_labels s.labels l) r ≡ Some x
    → is_inline x.side ≡ false → (i : ℕ) → i ≤ length (gutter_labels s.labels) → column_ink s (arrow l r) i ≡ turn_row_ink g x i
unfolding column_ink turn_ink below_ink turn_row_ink owns_column is_own_column
turn-column s l r x g h there out i within = elim (cases_Bool (x.gutter_column == i)) [
  | inl same ↦ rw (there, out, same) refl
  | inr other ↦
      let agrees = bar-agrees s (arrow l r) g h i within (rw (there, out) other) in
      elim (cases_Bool (nat_lt x.gutter_column i)) [
        | inl behind ↦
            rw (there, out, other, behind, agrees)
            (ap (λ (w : Switches). if bar_in g.bars i && not w.cross_gap then ink_of Xbar Hbar x.info else ink_of Hbar Hbar x.info) (sym h.sheet.switches))
        | inr before ↦ rw (there, out, other, before) (bar-ink s g Vbar i (bar_at s (arrow l r) i) h.sheet h.len (sym agrees))
      ]
]

-- the row
pub turn-bytes : (s : Sheet) (l r : ℕ) (x : LineLabel) (g : GutterFields) → HasBarsOf s (arrow l r) g → slice_get (line_labels s.labels l) r ≡ Some x
    → is_inline x.side ≡ false → pieces_bytes g.page.palette (gutter_pieces s (arrow l r)) ≡ columns_bytes g.page (turn_row_ink g x) (columns g)
turn-bytes s l r x g h there out =
    row-bytes s (arrow l r) g (turn_row_ink g x) h.sheet h.len (λ i within. turn-column s l r x g h there out i within)

-- its line label is a gutter label's
pub turn-within : (s : Sheet) (l r : ℕ) (x : LineLabel) → slice_get (line_labels s.labels l) r ≡ Some x → is_inline x.side ≡ false
    → x.gutter_column < length (gutter_labels s.labels)
unfolding is_inline
turn-within s l r x there out = elim (all-at (IsHere s l) (line_labels s.labels l) r x there (labels-here s l)) [
  | inl b ↦ slice_get_within (gutter_labels s.labels) x.gutter_column x.info b.owned
  | inr (inl b) ↦ slice_get_within (gutter_labels s.labels) x.gutter_column x.info b.owned
  | inr (inr b) ↦ absurd (true≢false (ap is_inline (sym b.side) ∙ out))
]

-- ---- what a gutter has written

-- the gutter of an arrow row, where its label lies within the line and where it does not
pub arrow-bytes : (s : Sheet) (l r : ℕ) (x : LineLabel) (g : GutterFields) → HasBarsOf s (arrow l r) g → slice_get (line_labels s.labels l) r ≡ Some x
    → pieces_bytes g.page.palette (gutter_pieces s (arrow l r)) ≡ columns_bytes g.page (arrow_row_ink g x) (columns g)
arrow-bytes s l r x g h there = elim (cases_Bool (is_inline x.side)) [
  | inl on ↦
      inline-bytes s l r x g h there on
      ∙ ap (λ (f : ℕ → Ink). columns_bytes g.page f (columns g)) (sym (cond-true (is_inline x.side) (bars_ink Vbar g) (turn_row_ink g x) on))
  | inr off ↦
      turn-bytes s l r x g h there off
      ∙ ap (λ (f : ℕ → Ink). columns_bytes g.page f (columns g)) (sym (cond-false (is_inline x.side) (bars_ink Vbar g) (turn_row_ink g x) off))
]

-- that of a source row, with margin label and without
pub source-row-bytes : (s : Sheet) (l : ℕ) (g : GutterFields) → HasBarsOf s (source l) g → (m : Option LineLabel) → margin_label s.labels l ≡ m
    → pieces_bytes g.page.palette (gutter_pieces s (source l)) ≡ columns_bytes g.page (source_row_ink g m) (columns g)
source-row-bytes s l g h None e = source-bytes s l g h e
source-row-bytes s l g h (Some m) e = margin-bytes s l m g h e

-- a gutter that was written on its own page is that of a row
pub draws_gutter : (a b : PenFields) (s : Sheet) (x : Row) (g : GutterFields) (bytes : List ℕ) → g.page ≡ a.page
    → pieces_bytes g.page.palette (gutter_pieces s x) ≡ bytes → Adds a b bytes → Draws a b (gutter_pieces s x)
draws_gutter a b s x g bytes page e h =
    adds_same a b bytes _ (sym e ∙ ap (λ (p : PageFields). pieces_bytes p.palette (gutter_pieces s x)) page) h

-- broken bars that were written on the page of a pen, which is the gutter's
pub draws_gap_gutter : (a b : PenFields) (s : Sheet) (l : ℕ) (g : GutterFields) → g.page ≡ a.page → HasBarsOf s (gap l) g
    → margin_label s.labels l ≡ None → Adds a b (columns_bytes a.page (bars_ink VbarGap g) (columns g)) → Draws a b (gutter_pieces s (gap l))
draws_gap_gutter a b s l g page bars none h =
    draws_gutter a b s (gap l) g _ page (gap-bytes s l g bars none)
    (adds_same a b _ _ (ap (λ (p : PageFields). columns_bytes p (bars_ink VbarGap g) (columns g)) (sym page)) h)
