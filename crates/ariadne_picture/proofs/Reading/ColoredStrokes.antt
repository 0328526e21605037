-- The cells of a row that have a label's colour, by the inks of its places and of its gutter columns; and the verticals above it.
use Rattle.std.proofs.Common.{◌≡◌, ℕ, zero, suc, ◌+◌, ◌-◌, ◌*◌, ◌<◌, ◌≤◌, Bool, true, false, not, ◌&&◌, List, [], ◌∷◌, ◌++◌, drop}
use Rattle.std.proofs.Common.{Option, Some, None, refl, sym, ap, ◌∙◌, subst, arith, ◌==◌, inl, inr, ◌⊎◌}
use Rattle.std.specs.Prelude.{slice_get, slice_index_or, find}
use Rattle.std.specs.Cmp.Derive.{both_true}
use Rattle.std.specs.Cmp.Lexicographic.{options_equiv}
use Rattle.std.proofs.lemmas.Bool.{cond_both, cases_Bool, cases_lt, eq-eqb, eqb-true, ne_eqb, lt-ltb, le-leb, true≢false, not-true, and_left, and_right}
use Rattle.std.proofs.lemmas.Option.{slice_get-get_or, slice_get_within}
use Rattle.ariadne_color.specs.declared.color.Color.{Color}
use Rattle.ariadne_color.specs.contracts.color.ColorEq.TheImpl.Laws as equality
use Rattle.ariadne_picture.proofs.Rows.LoneRows.{label-not-lone}
use Rattle.ariadne_picture.specs.declared.label_info.LabelInfo.{LabelInfo}
use Rattle.ariadne_picture.specs.declared.label_info.LineLabel.{LineLabel}
use Rattle.ariadne_picture.specs.declared.cell.Glyph.TheVariants.{Blank, Hbar, Vbar, Xbar, Uarrow}
use Rattle.ariadne_picture.specs.declared.cell.Ink.{Ink}
use Rattle.ariadne_picture.specs.declared.cell.Paint.TheVariants.{Label}
use Rattle.ariadne_picture.specs.Ranks.{is_inline, is_margin, margin_label, line_labels}
use Rattle.ariadne_picture.specs.Rows.{row_key, Row, alternate, arrow}
use Rattle.ariadne_picture.proofs.Rows.RowPlacing.{row_part, row_line, row_step}
use Rattle.ariadne_picture.specs.Columns.{Layout, layout_of, width}
use Rattle.ariadne_picture.specs.Strokes.{has_vertical, vertical_at, underline_at, is_crossed, bar_at, spot_of}
use Rattle.ariadne_picture.specs.Cells.{paint_of, ink_of, arrow_ink, arrow_place, alternate_ink, alternate_place, turn_ink, column_ink}
use Rattle.ariadne_picture.specs.Pieces.{Piece, Section, column_size, gutter_len}
use Rattle.ariadne_picture.specs.Canvas.{Cell, cell_of, color_of}
use Rattle.ariadne_picture.specs.Placing.Cells.{is_blank, is_level}
use Rattle.ariadne_picture.specs.Placing.Group.{set_of, column_cell, place_cell, has_cell}
use Rattle.ariadne_picture.specs.Placing.Rows.{cell_at}
use Rattle.ariadne_picture.specs.LabelColors.{is_color, is_steep, all_gutter_cells, all_place_cells, has_color, is_covered, is_vertical_colored_in}
use Rattle.ariadne_picture.specs.LabelColors.{is_vertical_colored}
use Rattle.ariadne_picture.proofs.Lists.ListFacts.{none≢some, all-at}
use Rattle.ariadne_picture.proofs.Lists.Elements.{all-range, list_all-true, list_any-true, left-true, right-true}
use Rattle.ariadne_picture.proofs.Rows.LineBlock.{IsBlockRow, block-rows-are}
use Rattle.ariadne_picture.proofs.Rows.RowOrder.{shown_rows}
use Rattle.ariadne_picture.proofs.Cells.RowCells.{ink-head, ink-tail, column-at}
use Rattle.ariadne_picture.proofs.Cells.InkCells.{glyph_cell, ink_cell, shows-level, level-ink}
use Rattle.ariadne_picture.proofs.Cells.GutterInks.{own-arrow}
use Rattle.ariadne_picture.proofs.Reading.InOrder.{in-order}
use Rattle.ariadne_picture.proofs.Reading.LabelTraces.{drop-get, place-cells, place-cell-is, trace-of}
use Rattle.ariadne_picture.proofs.Reading.MessagePlaces.{two-true}
use Rattle.ariadne_picture.proofs.Reading.OtherStrokes.{not-below}
use Rattle.ariadne_picture.proofs.Reading.PlaceCells.{drop-at, step-rises, first_cell, label-cell, alternate-cell, above-it}
use Rattle.ariadne_picture.proofs.Reading.Pictures.{rows_of, Picture, RowAt, read, number, source_row, number-at}
use Rattle.ariadne_picture.proofs.Reading.ShownLine.{IsArrowRow, arrow-row, arrow-at, places_of, source-at, block-row-is}
use Rattle.ariadne_picture.proofs.Reading.TextRows.{IsTextRow, area, arrow_inks, front-at}
use Rattle.ariadne_picture.proofs.Parts.{has_corner, arrow_ink_by}

-- ---- colours of cells

-- a colour is itself
pub color-same : (o : Option Color) → is_color o o ≡ true
color-same o = (options_equiv equality.laws-law).refl o

-- the colour of the label at position k
abbrev pub color_at : Picture → ℕ → Option Color
color_at v k = color_of v.palette (Label k)

-- both paints of an ink are those of label a
abbrev pub IsInkOf : LabelInfo → Ink → Type 0
IsInkOf a ink = (ink.first_paint ≡ paint_of a) × (ink.rest_paint ≡ paint_of a)

module _ (v : Picture) where
  -- a cell in the paint of a label has its colour
  pub colored-cell : (a : LabelInfo) (n c : ℕ) (q : Piece) → cell_at (rows_of v) n c ≡ cell_of v.palette q → q.paint ≡ paint_of a
      → read v has_color (color_at v) a n c ≡ true
  unfolding has_color
  colored-cell a n c q e same =
      ap (λ (cell : Cell). is_color cell.color (color_at v a.position)) e
      ∙ ap (λ paint. is_color (color_of v.palette paint) (color_at v a.position)) same
      ∙ color-same (color_at v a.position)

  -- ---- places

  -- so have the cells of places whose inks are the label's
  pub places-colored : {g : ℕ} {s : Section} {x : Row} (l : ℕ) (ink : ℕ → Ink) (rest : List Piece) (is : IsTextRow v g s x (area s l ink ++ rest))
      (a : LabelInfo) (j k : ℕ) → k ≤ places_of s l → ((m : ℕ) → j ≤ m → m < k → IsInkOf a (ink m))
      → all_place_cells s l j k (read v has_color (color_at v) a (number v g s x)) ≡ true
  places-colored {g} {s} {x} l ink rest is a j k fits f =
      list_all-true _ _ (all-range _ j (k - j) (λ d less.
      let m : ℕ = j + d in
      list_all-true _ _ (all-range _ (place_cell s l m) (place_cell s l (m + 1) - place_cell s l m) (λ o low.
      let size = place-cells s l m in
      one m (omega arith) (f m (omega arith) (omega arith)) o (omega (arith, size, low))))))
    where
      one : (m : ℕ) → m < places_of s l → IsInkOf a (ink m) → (o : ℕ) → o < width s.sheet.switches (layout_of s.sheet l) m
          → read v has_color (color_at v) a (number v g s x) (place_cell s l m + o) ≡ true
      one m few own zero low =
          colored-cell a (number v g s x) (place_cell s l m + 0) _
          (place-cell-is v l ink rest is m 0 _ few (ink-head (set_of s) (ink m) _ low)) own.0
      one m few own (suc o) low =
          colored-cell a (number v g s x) (place_cell s l m + suc o) _
          (place-cell-is v l ink rest is m (suc o) _ few (ink-tail (set_of s) (ink m) _ o low)) own.1

  -- ---- gutter columns

  -- the cells of a column are the first one of its ink or another
  abbrev pub IsInkCell : Section → Ink → Cell → Type 0
  IsInkCell s ink c = (c ≡ ink_cell v s ink) ⊎ (c ≡ glyph_cell v s ink.rest ink.rest_paint)

  -- a test that holds of the cells of inks
  pub gutter-cells : {g : ℕ} {s : Section} {x : Row} {text : List Piece} (r : IsTextRow v g s x text) (i : ℕ) (test : ℕ → Bool)
      → ((j : ℕ) → i ≤ j → j < gutter_len s.sheet → (c : ℕ) → IsInkCell s (column_ink s.sheet x j) (cell_at (rows_of v) (number v g s x) c) → test c ≡ true)
      → all_gutter_cells s i test ≡ true
  unfolding column_cell
  gutter-cells {g} {s} {x} r i test f =
      list_all-true _ _ (all-range _ i (gutter_len s.sheet - i) (λ d less.
      let j : ℕ = i + d in
      let size : ℕ = column_size s.sheet.switches in
      list_all-true _ _ (all-range _ (column_cell s j) (column_cell s (j + 1) - column_cell s j) (λ o low.
      let next : (j + 1) * size ≡ size + j * size = grind arith in
      f j (omega arith) (omega arith) (column_cell s j + o) (one j (omega arith) o (omega (arith, next, low)))))))
    where
      one : (j : ℕ) → j < gutter_len s.sheet → (o : ℕ) → o < column_size s.sheet.switches
          → IsInkCell s (column_ink s.sheet x j) (cell_at (rows_of v) (number v g s x) (column_cell s j + o))
      one j few zero low =
          inl (front-at v r (column_cell s j + 0) _ (read v column-at v.width s x j 0 _ few (ink-head (set_of s) (column_ink s.sheet x j) _ low)))
      one j few (suc o) low =
          inr (front-at v r (column_cell s j + suc o) _ (read v column-at v.width s x j (suc o) _ few (ink-tail (set_of s) (column_ink s.sheet x j) _ o low)))

  -- so have those whose inks are the label's
  pub columns-colored : {g : ℕ} {s : Section} {x : Row} {text : List Piece} (r : IsTextRow v g s x text) (i : ℕ) (a : LabelInfo)
      → ((j : ℕ) → i ≤ j → IsInkOf a (column_ink s.sheet x j))
      → all_gutter_cells s i (read v has_color (color_at v) a (number v g s x)) ≡ true
  columns-colored {g} {s} {x} r i a f =
      gutter-cells r i _ (λ j low few c e. elim e [
        | inl first ↦ colored-cell a (number v g s x) c _ first (f j low).0
        | inr other ↦ colored-cell a (number v g s x) c _ other (f j low).1
      ])

-- ---- the arrow row of a line label

module _ (v : Picture) {g : ℕ} {s : Section} {l r : ℕ} {x : LineLabel} (q : IsArrowRow v g s l r x) where
  -- its corner and its horizontal are its own
  pub arrow-own : (k : ℕ) → (has_corner (layout_of s.sheet l).margin x k ≡ true) ⊎ (is_crossed x.side x.place k ≡ true) → IsInkOf x.info (arrow_inks s l r k)
  unfolding arrow_place spot_of arrow_ink layout_of
  arrow-own k h = rw q.there (go _ _ (vertical_at (layout_of s.sheet l) r k) h)
    where
      go : (corner crossed : Bool) (up : Option LineLabel) → (corner ≡ true) ⊎ (crossed ≡ true)
          → IsInkOf x.info (arrow_ink_by s.sheet.switches r x corner crossed up)
      go true crossed up h = (refl, refl)
      go false true None h = (refl, refl)
      go false true (Some w) h =
          cond_both s.sheet.switches.cross_gap (ink_of Hbar Hbar x.info) (ink_of Xbar Blank x.info) (IsInkOf x.info) (λ _. (refl, refl)) (λ _. (refl, refl))
      go false false up (inl e) = absurd (true≢false (sym e))
      go false false up (inr e) = absurd (true≢false (sym e))

  -- so is the gutter from its column on
  pub turn-own : is_inline x.side ≡ false → (j : ℕ) → x.gutter_column ≤ j → IsInkOf x.info (column_ink s.sheet (arrow l r) j)
  unfolding column_ink turn_ink
  turn-own out j more = elim (cases_lt x.gutter_column j) [
    | inl less ↦
        rw q.there (rw (out, ne_eqb x.gutter_column j (λ z. omega arith), lt-ltb x.gutter_column j less)
        (cond_both (bar_at s.sheet (arrow l r) j && not s.sheet.switches.cross_gap) (ink_of Xbar Hbar x.info) (ink_of Hbar Hbar x.info)
        (IsInkOf x.info) (λ _. (refl, refl)) (λ _. (refl, refl))))
    | inr least ↦ rw (own-arrow s.sheet l r j x q.there out (omega arith)) (refl, refl)
  ]

-- ---- verticals

-- what is found stands no further down than another that passes
record FoundBy {X : Type 0} (test : X → Bool) (xs : List X) (y : X) (k : ℕ) : Type 0 where
  place : ℕ
  there : slice_get xs place ≡ Some y
  passes : test y ≡ true
  early : place ≤ k

found-by : {X : Type 0} (test : X → Bool) (xs : List X) (y : X) (k : ℕ) (x : X) → find test xs ≡ Some y → slice_get xs k ≡ Some x → test x ≡ true
    → FoundBy test xs y k
found-by test [] y k x e there on = absurd (none≢some x there)
found-by test (z ∷ xs) y zero x e there on =
    let same : z ≡ x = cc in
    let passes : test z ≡ true = ap test same ∙ on in
    let here : find test (z ∷ xs) ≡ Some z = rw passes in
    let found : z ≡ y = cc in
    record { place = 0; there = ap Some found; passes = subst (λ w. test w ≡ true) found passes; early = omega arith }
found-by test (z ∷ xs) y (suc k) x e there on = elim (cases_Bool (test z)) [
  | inl passes ↦
      let here : find test (z ∷ xs) ≡ Some z = rw passes in
      let found : z ≡ y = cc in
      record { place = 0; there = ap Some found; passes = subst (λ w. test w ≡ true) found passes; early = omega arith }
  | inr fails ↦
      let later : find test (z ∷ xs) ≡ find test xs = rw fails in
      let rest = found-by test xs y k x (sym later ∙ e) there on in
      let early = rest.early in
      record { place = suc rest.place; there = rest.there; passes = rest.passes; early = omega arith }
]

-- something is found where something passes
found-some : {X : Type 0} (test : X → Bool) (xs : List X) (k : ℕ) (x : X) → slice_get xs k ≡ Some x → test x ≡ true → find test xs ≡ None → ⊥
found-some test [] k x there on e = none≢some x there
found-some test (z ∷ xs) zero x there on e =
    let same : z ≡ x = cc in
    let passes : test z ≡ true = ap test same ∙ on in
    let here : find test (z ∷ xs) ≡ Some z = rw passes in cc
found-some test (z ∷ xs) (suc k) x there on e = elim (cases_Bool (test z)) [
  | inl passes ↦ let here : find test (z ∷ xs) ≡ Some z = rw passes in cc
  | inr fails ↦
      let later : find test (z ∷ xs) ≡ find test xs = rw fails in found-some test xs k x there on (sym later ∙ e)
]

-- the vertical that is seen at a place is of a label no further down than one that has its own there
record FirstVertical (y : Layout) (r k j : ℕ) (w : LineLabel) : Type 0 where
  rank : ℕ
  low : r ≤ rank
  high : rank ≤ j
  there : slice_get y.labels rank ≡ Some w
  passes : has_vertical y.margin k w ≡ true

first-vertical : (y : Layout) (r k j : ℕ) (w x : LineLabel) → vertical_at y r k ≡ Some w → r ≤ j → slice_get y.labels j ≡ Some x
    → has_vertical y.margin k x ≡ true → FirstVertical y r k j w
unfolding vertical_at
first-vertical y r k j w x e low there on =
    let f = found-by (has_vertical y.margin k) (drop r y.labels) w (j - r) x e (drop-at y.labels r j low ∙ there) on in
    let early = f.early in
    record { rank = r + f.place; low = omega arith; high = omega arith; there = sym (drop-get y.labels r f.place) ∙ f.there; passes = f.passes }

-- two arrow rows of a line that stand in one row are of one line label
one-rank : (v : Picture) {g : ℕ} {s : Section} {l r r' : ℕ} {x x' : LineLabel} (q : IsArrowRow v g s l r x) (q' : IsArrowRow v g s l r' x')
    → number v g s (arrow l r) ≡ number v g s (arrow l r') → r ≡ r'
one-rank v q q' same =
    let a = number-at v (arrow-at v q) in
    let b = number-at v (arrow-at v q') in
    let one : q.index ≡ q'.index = omega (arith, a, b, same) in
    let mine = q.row in
    let other = q'.row in
    cc

-- the paint of a vertical in an alternate row
alternate-paint : (heads : Bool) (rank : ℕ) (w : LineLabel) (under : Option LineLabel)
    → (alternate_ink heads rank (Some w) under).first_paint ≡ paint_of w.info
unfolding alternate_ink
alternate-paint heads rank w (Some u) = refl
alternate-paint heads rank w None =
    cond_both (not (is_inline w.side) && (rank == 0) && heads) (ink_of Uarrow Blank w.info) (ink_of Vbar Blank w.info)
    (λ (ink : Ink). ink.first_paint ≡ paint_of w.info) (λ _. refl) (λ _. refl)

-- a label with a corner has a vertical above
corner-vertical : (margin : Option LineLabel) (k : ℕ) (z : LineLabel) → z.info.has_message ≡ true → has_corner margin z k ≡ true
    → has_vertical margin k z ≡ true
unfolding has_vertical
corner-vertical margin k z message e =
    let two = two-true (z.place == k) (not (is_margin margin z)) e in both_true (both_true message two.1) two.0

module _ (v : Picture) {g : ℕ} {s : Section} {l r : ℕ} {x : LineLabel} (q : IsArrowRow v g s l r x)
    (off : is_margin (layout_of s.sheet l).margin x ≡ false) (few : x.place < places_of s l) where
  own-vertical : has_vertical (layout_of s.sheet l).margin x.place x ≡ true
  unfolding has_vertical
  own-vertical = both_true (both_true q.message (ap not off)) (eq-eqb x.place x.place refl)

  -- so something is seen there in the rows of each rank up to its own
  something-seen : (rank : ℕ) → rank ≤ r → vertical_at (layout_of s.sheet l) rank x.place ≡ None → ⊥
  unfolding vertical_at layout_of
  something-seen rank low e =
      found-some (has_vertical (margin_label s.sheet.labels l) x.place) (drop rank (line_labels s.sheet.labels l)) (r - rank) x
      (drop-at (line_labels s.sheet.labels l) rank r low ∙ q.there) own-vertical e

  -- the vertical of a label of a lower rank covers it, in rows down to the arrow row of that label
  covers : (rank j : ℕ) (w : LineLabel) (y : Row) → slice_get (line_labels s.sheet.labels l) rank ≡ Some w
      → has_vertical (layout_of s.sheet l).margin x.place w ≡ true → rank < r → RowAt v g s j y → row_part y ≡ 2 → row_line y ≡ l
      → row_step y ≤ 2 * rank + 2 → read v is_covered (color_at v) g s l x.place (number v g s (arrow l r)) (number v g s y) ≡ true
  unfolding is_covered has_vertical row_key
  covers rank j w y there on less is part line step =
      let two = two-true (w.info.has_message && not (is_margin (layout_of s.sheet l).margin w)) (w.place == x.place) on in
      let one = two-true w.info.has_message (not (is_margin (layout_of s.sheet l).margin w)) two.0 in
      let own = arrow-row v rank w q.line there one.0 in
      let t = trace-of v own in
      let place = t.place in
      let row = t.row in
      let same = eqb-true w.place x.place two.1 in
      let low = not-below v rank w own j y is part line step in
      let below = not-below v r x q _ (arrow l rank) (arrow-at v own) refl refl (omega arith) in
      let apart : number v g s (arrow l rank) < number v g s (arrow l r) =
      elim (cases_lt (number v g s (arrow l rank)) (number v g s (arrow l r))) [
        | inl lower ↦ lower
        | inr least ↦ absurd (let z = one-rank v own q (omega arith) in omega arith)
      ] in
      list_any-true _ _ t.there.place t.trace t.there.there
      (both_true (both_true (both_true (t.turns (not-true _ one.1)) (eq-eqb t.trace.place x.place (omega (arith, place, same))))
      (le-leb _ t.trace.row (omega (arith, low, row)))) (lt-ltb t.trace.row _ (omega (arith, row, apart))))

  -- ---- what is asked of row n

  abbrev vertical_test : ℕ → Bool
  vertical_test n = read v is_vertical_colored_in (color_at v) g s l x.info x.place (number v g s (arrow l r)) n

  passes-covered : (n : ℕ) → read v is_covered (color_at v) g s l x.place (number v g s (arrow l r)) n ≡ true → vertical_test n ≡ true
  unfolding is_vertical_colored_in
  passes-covered n e = left-true _ _ (right-true _ _ e)

  passes-level : (n : ℕ) → is_level (set_of s) (first_cell v s l n x.place) ≡ true → vertical_test n ≡ true
  unfolding is_vertical_colored_in
  passes-level n e =
      let flat : is_steep (set_of s) (first_cell v s l n x.place) ≡ false = ap not (right-true (is_blank (first_cell v s l n x.place)) _ e) in
      left-true _ _ (left-true _ _ (ap not (and_right (has_cell s l x.place) _ flat)))

  passes-color : (n : ℕ) → read v has_color (color_at v) x.info n (place_cell s l x.place) ≡ true → vertical_test n ≡ true
  unfolding is_vertical_colored_in
  passes-color n e = right-true _ _ e

  passes-none : (n : ℕ) → has_cell s l x.place ≡ false → vertical_test n ≡ true
  unfolding is_vertical_colored_in
  passes-none n e = left-true _ _ (left-true _ _ (ap not (and_left (has_cell s l x.place) _ e)))

  -- the vertical that is seen in a row of a rank up to its own is that of a label further up, or its own
  seen-passes : (rank j : ℕ) (y : Row) (w : LineLabel) → RowAt v g s j y → row_part y ≡ 2 → row_line y ≡ l → row_step y ≤ 2 * rank + 2 → rank ≤ r
      → vertical_at (layout_of s.sheet l) rank x.place ≡ Some w → (w ≡ x → vertical_test (number v g s y) ≡ true) → vertical_test (number v g s y) ≡ true
  unfolding layout_of
  seen-passes rank j y w is part line step low u own =
      let f = first-vertical (layout_of s.sheet l) rank x.place r w x u low q.there own-vertical in
      let from = f.low in
      let to = f.high in
      elim (cases_lt f.rank r) [
        | inl less ↦ passes-covered _ (covers f.rank j w y f.there f.passes less is part line (omega arith))
        | inr least ↦
            let same_rank : f.rank ≡ r = omega arith in
            let here = f.there in
            let mine = q.there in
            let same : w ≡ x = cc in
            own same
      ]

  -- an arrow row of another label
  arrow-passes : (rank : ℕ) (z : LineLabel) (own : IsArrowRow v g s l rank z) → rank < r → has_cell s l x.place ≡ true
      → (corner crossed : Bool) (up : Option LineLabel) → has_corner (layout_of s.sheet l).margin z x.place ≡ corner
      → is_crossed z.side z.place x.place ≡ crossed → vertical_at (layout_of s.sheet l) rank x.place ≡ up
      → vertical_test (number v g s (arrow l rank)) ≡ true
  unfolding row_key arrow_ink
  arrow-passes rank z own less some true crossed up e f u =
      passes-covered _ (covers rank _ z (arrow l rank) own.there (corner-vertical _ x.place z own.message e) less (arrow-at v own) refl refl (omega arith))
  arrow-passes rank z own less some false true up e f u =
      let cell : first_cell v s l (number v g s (arrow l rank)) x.place ≡ ink_cell v s (arrow_ink_by s.sheet.switches rank z false true up) =
      label-cell v own x.place few some ∙ (λ i. ink_cell v s (arrow_ink_by s.sheet.switches rank z (e i) (f i) (u i))) in
      passes-level _ (ap (is_level (set_of s)) cell ∙ shows-level v s _ _ (level-ink s.sheet.switches rank z up))
  arrow-passes rank z own less some false false None e f u = absurd (something-seen rank (omega arith) u)
  arrow-passes rank z own less some false false (Some w) e f u =
      let cell : first_cell v s l (number v g s (arrow l rank)) x.place ≡ ink_cell v s (arrow_ink_by s.sheet.switches rank z false false (Some w)) =
      label-cell v own x.place few some ∙ (λ i. ink_cell v s (arrow_ink_by s.sheet.switches rank z (e i) (f i) (u i))) in
      seen-passes rank _ (arrow l rank) w (arrow-at v own) refl refl (omega arith) (omega arith) u (λ same.
      passes-color _ (colored-cell v x.info (number v g s (arrow l rank)) (place_cell s l x.place) _ cell
      (ap (λ (x : LineLabel). paint_of x.info) same)))

  -- an alternate row
  alternate-passes : (rank j : ℕ) → RowAt v g s j (alternate l rank) → rank ≤ r → has_cell s l x.place ≡ true → (up : Option LineLabel)
      → vertical_at (layout_of s.sheet l) rank x.place ≡ up → vertical_test (number v g s (alternate l rank)) ≡ true
  unfolding row_key alternate_place
  alternate-passes rank j is low some None u = absurd (something-seen rank low u)
  alternate-passes rank j is low some (Some w) u =
      let y = layout_of s.sheet l in
      let under = underline_at s.sheet.switches y rank x.place in
      let cell : first_cell v s l (number v g s (alternate l rank)) x.place ≡ ink_cell v s (alternate_ink v.texts.multiline_arrows rank (Some w) under) =
      alternate-cell v is x.place few some ∙ ap (λ up. ink_cell v s (alternate_ink v.texts.multiline_arrows rank up under)) u in
      seen-passes rank j (alternate l rank) w is refl refl (omega arith) low u (λ same.
      passes-color _ (colored-cell v x.info (number v g s (alternate l rank)) (place_cell s l x.place) _ cell
      (alternate-paint v.texts.multiline_arrows rank w under ∙ ap (λ (x : LineLabel). paint_of x.info) same)))

  -- the rows from the line down to its arrow row
  pub vertical-colored : read v is_vertical_colored (color_at v) g s l x.info x.place (number v g s (arrow l r)) ≡ true
  unfolding is_vertical_colored row_key
  vertical-colored =
      let end = number-at v (arrow-at v q) in
      let src = source-at v q.line in
      let long = slice_get_within (shown_rows s.sheet l) q.index (arrow l r) q.row in
      let below : ℕ = source_row v g l + 1 in
      list_all-true _ _ (all-range _ below (number v g s (arrow l r) - below) (λ i less.
      let y : Row = slice_index_or (shown_rows s.sheet l) i (arrow l r) in
      let e : slice_get (shown_rows s.sheet l) i ≡ Some y = slice_get-get_or (shown_rows s.sheet l) i (arrow l r) (omega arith) in
      let is = block-row-is v q.line i y e in
      let n = number-at v is in
      let b = all-at (IsBlockRow s.sheet l) (shown_rows s.sheet l) i y e (block-rows-are s.sheet l (label-not-lone s.sheet l r x q.there q.message)) in
      let same : number v g s y ≡ below + i = omega arith in
      let up = above-it v q i y (omega arith) e b in
      rw (← same) (by-kind i y e b (omega arith) up)))
    where
      by-kind : (i : ℕ) (y : Row) → slice_get (shown_rows s.sheet l) i ≡ Some y → (b : IsBlockRow s.sheet l y) → i < q.index → b.rank ≤ r
          → vertical_test (number v g s y) ≡ true
      by-kind i y e b less up = elim (cases_Bool (has_cell s l x.place)) [
        | inr none ↦ passes-none _ none
        | inl some ↦ elim b.kind [
          | inl is ↦
              let order = in-order v (block-row-is v q.line i y e) (arrow-at v q) (omega arith) in
              let step : 2 * b.rank + 2 < 2 * r + 2 = step-rises (arrow l b.rank) (arrow l r) refl refl (rw is at order) in
              rw is (arrow-passes b.rank b.label (arrow-row v b.rank b.label q.line b.there b.message) (omega arith) some _ _ _ refl refl refl)
          | inr is ↦
              let at = subst (RowAt v g s _) is.0 (block-row-is v q.line i y e) in
              rw is.0 (alternate-passes b.rank _ at up some _ refl)
        ]
      ]
