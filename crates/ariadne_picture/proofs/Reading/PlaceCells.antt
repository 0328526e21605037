-- The first cell of each place of the rows below a line: what the arrow row of a line label shows there, and the
-- vertical above it.
use Rattle.std.proofs.Common.{◌≡◌, ℕ, zero, suc, ◌+◌, ◌-◌, ◌*◌, ◌<◌, ◌≤◌, Bool, true, false, not, List, [], ◌∷◌, ◌++◌, drop, Option, Some, refl, ap}
use Rattle.std.proofs.Common.{◌∙◌, arith, inl, inr}
use Rattle.std.specs.Prelude.{slice_get, slice_index_or, find}
use Rattle.std.specs.Cmp.Derive.{both_true}
use Rattle.std.proofs.lemmas.Bool.{cases_Bool, eq-eqb, lt-ltb, ltb-true}
use Rattle.std.proofs.lemmas.Option.{slice_get-get_or, slice_get_within}
use Rattle.ariadne_picture.proofs.Rows.LoneRows.{label-not-lone}
use Rattle.ariadne_picture.specs.declared.cell.Glyph.{Glyph}
use Rattle.ariadne_picture.specs.declared.cell.Ink.{Ink}
use Rattle.ariadne_picture.specs.declared.label_info.LineLabel.{LineLabel}
use Rattle.ariadne_picture.specs.Ranks.{is_margin}
use Rattle.ariadne_picture.specs.Rows.{row_key, Row, alternate, arrow}
use Rattle.ariadne_picture.proofs.Rows.RowPlacing.{row_part, row_line, row_step}
use Rattle.ariadne_picture.specs.Columns.{Layout, layout_of}
use Rattle.ariadne_picture.specs.Strokes.{has_vertical, vertical_at, is_crossed, underline_at, spot_of}
use Rattle.ariadne_picture.specs.Cells.{arrow_ink, alternate_ink, corner_glyph, alternate_place, arrow_place}
use Rattle.ariadne_picture.specs.Pieces.{Piece, Section}
use Rattle.ariadne_picture.specs.Canvas.{Cell}
use Rattle.ariadne_picture.specs.Placing.Cells.{is_blank, is_glyph, is_level}
use Rattle.ariadne_picture.specs.Placing.Group.{set_of, place_cell, has_cell}
use Rattle.ariadne_picture.specs.Placing.Rows.{cell_at, holds_at_places, is_traced_at}
use Rattle.ariadne_picture.proofs.Lists.Elements.{all-range, list_all-true, left-true, right-true}
use Rattle.ariadne_picture.proofs.Lists.ListFacts.{none≢some, all-at}
use Rattle.ariadne_picture.proofs.Rows.LineBlock.{IsBlockRow, block-rows-are}
use Rattle.ariadne_picture.proofs.Rows.RowNumbers.{at-front}
use Rattle.ariadne_picture.proofs.Rows.RowOrder.{IsBefore, before-decides, shown_rows}
use Rattle.ariadne_picture.proofs.Cells.RowCells.{area-first}
use Rattle.ariadne_picture.proofs.Reading.InOrder.{in-order}
use Rattle.ariadne_picture.proofs.Cells.InkCells.{ink_cell, shows-glyph, shows-level, shows-something, level-ink, arrow-seen, alternate-seen}
use Rattle.ariadne_picture.proofs.Reading.Pictures.{rows_of, Picture, RowAt, placing_of, number, source_row, number-at}
use Rattle.ariadne_picture.proofs.Reading.ShownLine.{IsArrowRow, arrow-row, arrow-at, IsShownLine, places_of, places-are, source-at, block-row-is}
use Rattle.ariadne_picture.proofs.Reading.TextRows.{IsTextRow, area, arrow_inks, alternate_inks, arrow-text, alternate-text, text-at}
use Rattle.ariadne_picture.proofs.Parts.{has_corner, arrow_ink_by}

-- ---- the vertical at a place

-- an element that passes is found, or one before it
find-some : {X : Type 0} (test : X → Bool) (xs : List X) (k : ℕ) (x : X) → slice_get xs k ≡ Some x → test x ≡ true
    → (y : X) × (find test xs ≡ Some y)
find-some test [] k x e h = absurd (none≢some x e)
find-some test (z ∷ xs) zero x e h = let same : z ≡ x = cc in let passes : test z ≡ true = ap test same ∙ h in (z, rw passes refl)
find-some test (z ∷ xs) (suc k) x e h = elim (cases_Bool (test z)) [
  | inl t ↦ (z, rw t refl)
  | inr f ↦ let rest = find-some test xs k x e h in (rest.0, rw f rest.1)
]

-- an element behind r others is there without them
pub drop-at : {X : Type 0} (xs : List X) (r k : ℕ) → r ≤ k → slice_get (drop r xs) (k - r) ≡ slice_get xs k
drop-at xs zero k h = let z : k - 0 ≡ k = omega arith in ap (slice_get xs) z
drop-at [] (suc r) k h = refl
drop-at (x ∷ xs) (suc r) zero h = absurd (omega arith)
drop-at (x ∷ xs) (suc r) (suc k) h =
    let e : suc k - suc r ≡ k - r = omega arith in ap (slice_get (drop r xs)) e ∙ drop-at xs r k (omega arith)

-- the rows of the labels up to line label k have a vertical at its column
vertical-there : (y : Layout) (r k : ℕ) (x : LineLabel) → r ≤ k → slice_get y.labels k ≡ Some x → x.info.has_message ≡ true
    → is_margin y.margin x ≡ false → (v : LineLabel) × (vertical_at y r x.place ≡ Some v)
unfolding vertical_at has_vertical
vertical-there y r k x h e m off =
    find-some _ (drop r y.labels) (k - r) x (drop-at y.labels r k h ∙ e)
    (both_true (both_true m (ap not off)) (eq-eqb x.place x.place refl))

-- a row that stands before another of its line has a lower step
pub step-rises : (x y : Row) → row_part x ≡ row_part y → row_line x ≡ row_line y → IsBefore x y → row_step x < row_step y
step-rises x y part line before = elim ((before-decides x y).0 before) [
  | inl less ↦ absurd (omega arith)
  | inr same ↦ elim same.1 [ inl less ↦ absurd (omega arith) | inr step ↦ step.1 ]
]

-- the first cell of place k of row n, which stands below line l
abbrev pub first_cell : Picture → Section → ℕ → ℕ → ℕ → Cell
first_cell v s l n k = cell_at (rows_of v) n (place_cell s l k)

module _ (v : Picture) (s : Section) (l : ℕ) where
  -- a place begins behind the columns of those before it
  place-at : {g : ℕ} {x : Row} (ink : ℕ → Ink) (rest : List Piece) → IsTextRow v g s x (area s l ink ++ rest) → (k : ℕ) → k < places_of s l
      → has_cell s l k ≡ true → first_cell v s l (number v g s x) k ≡ ink_cell v s (ink k)
  unfolding place_cell has_cell
  place-at ink rest r k few some =
      text-at v r _ _ (at-front (area s l ink) rest _ _
      (area-first s.sheet.switches (layout_of s.sheet l) ink k few (ltb-true 0 _ some)))

module _ (v : Picture) {g : ℕ} {s : Section} {l : ℕ} where
  -- ---- tests of places

  -- a test of the first cell of each place from a to before b
  pub holds-at : (h : IsShownLine v g s l) (n a b : ℕ) (test : Cell → Bool) → b ≤ places_of s l
      → ((k : ℕ) → a ≤ k → k < b → has_cell s l k ≡ true → test (first_cell v s l n k) ≡ true)
      → holds_at_places (rows_of v) (placing_of v) g s l n a b test ≡ true
  unfolding holds_at_places
  holds-at h n a b test few f =
      list_all-true _ _ (all-range _ a (b - a) (λ j less.
      let k : ℕ = a + j in
      let places = places-are v h in
      both_true (lt-ltb k ((placing_of v).places g l) (omega (arith, places)))
      (elim (cases_Bool (has_cell s l k)) [
        | inl some ↦ right-true _ _ (f k (omega arith) (omega arith) some)
        | inr none ↦ left-true _ _ (ap not none)
      ])))

  -- and of one place
  pub holds-one : (h : IsShownLine v g s l) (n k : ℕ) (test : Cell → Bool) → k < places_of s l
      → (has_cell s l k ≡ true → test (first_cell v s l n k) ≡ true) → holds_at_places (rows_of v) (placing_of v) g s l n k (k + 1) test ≡ true
  holds-one h n k test few f =
      holds-at h n k (k + 1) test (omega arith) (λ c low high.
      let same : k ≡ c = omega arith in
      rw same at f)

  -- ---- cells by inks

  -- an alternate row has verticals and underlines
  pub alternate-cell : {i r : ℕ} → RowAt v g s i (alternate l r) → (k : ℕ) → k < places_of s l → has_cell s l k ≡ true
      → first_cell v s l (number v g s (alternate l r)) k ≡ ink_cell v s (alternate_inks v s l r k)
  alternate-cell {r = r} is = place-at v s l (alternate_inks v s l r) _ (alternate-text v is)

  -- the arrow row of line label x has its corner, its horizontal and the verticals of others
  pub label-cell : {r : ℕ} {x : LineLabel} → IsArrowRow v g s l r x → (k : ℕ) → k < places_of s l → has_cell s l k ≡ true
      → let y = layout_of s.sheet l in
      first_cell v s l (number v g s (arrow l r)) k
      ≡ ink_cell v s (arrow_ink_by s.sheet.switches r x (has_corner y.margin x k) (is_crossed x.side x.place k) (vertical_at y r k))
  unfolding layout_of arrow_place spot_of
  label-cell {r} {x} q k few some =
      let y = layout_of s.sheet l in
      place-at v s l (arrow_inks s l r) _ (arrow-text v (arrow-at v q)) k few some
      ∙ ap (λ o. ink_cell v s (arrow_place s.sheet.switches y r o k)) q.there

  -- ---- the arrow row of line label x

  module _ {r : ℕ} {x : LineLabel} (q : IsArrowRow v g s l r x) where
    -- it is level where its horizontal is and its corner is not
    pub label-level : (a b : ℕ) → b ≤ places_of s l
        → ((k : ℕ) → a ≤ k → k < b → (has_corner (layout_of s.sheet l).margin x k ≡ false) × (is_crossed x.side x.place k ≡ true))
        → holds_at_places (rows_of v) (placing_of v) g s l (number v g s (arrow l r)) a b (is_level (set_of s)) ≡ true
    label-level a b fits f =
        holds-at q.line _ a b _ fits (λ k low high some.
        let y = layout_of s.sheet l in
        let e = f k low high in
        rw (label-cell q k (omega arith) some, e.0, e.1) (shows-level v s _ _ (level-ink s.sheet.switches r x (vertical_at y r k))))

    -- its corner is at its column, if it is not the margin label
    pub label-corner : {glyph : Glyph} → corner_glyph x.side ≡ glyph → x.place < places_of s l
        → is_margin (layout_of s.sheet l).margin x ≡ false
        → holds_at_places (rows_of v) (placing_of v) g s l (number v g s (arrow l r)) x.place (x.place + 1) (is_glyph (set_of s) glyph) ≡ true
    unfolding arrow_ink
    label-corner {glyph} corner few off =
        holds-one q.line _ x.place _ few (λ some.
        let on = both_true (eq-eqb x.place x.place refl) (ap not off) in
        rw (label-cell q x.place few some, on) (shows-glyph v s _ _ corner))

    -- ---- the rows of the block above it

    -- each is of a line label of no greater rank
    pub above-it : (i : ℕ) (y : Row) → i < q.index → slice_get (shown_rows s.sheet l) i ≡ Some y → (b : IsBlockRow s.sheet l y) → b.rank ≤ r
    unfolding row_key
    above-it i y less e b =
        let order = in-order v (block-row-is v q.line i y e) (arrow-at v q) (omega arith) in
        elim b.kind [
          | inl k ↦
              let step : 2 * b.rank + 2 < 2 * r + 2 =
              step-rises (arrow l b.rank) (arrow l r) refl refl (rw k at order) in omega arith
          | inr k ↦
              let step : 2 * b.rank + 1 < 2 * r + 2 =
              step-rises (alternate l b.rank) (arrow l r) refl refl (rw k.0 at order) in omega arith
        ]

    -- the column of its vertical is not blank in the rows of such labels
    vertical-seen : (i : ℕ) (y : Row) → RowAt v g s i y → (b : IsBlockRow s.sheet l y) → b.rank ≤ r → is_margin (layout_of s.sheet l).margin x ≡ false
        → x.place < places_of s l → has_cell s l x.place ≡ true → not (is_blank (first_cell v s l (number v g s y) x.place)) ≡ true
    unfolding layout_of alternate_place
    vertical-seen i y is b up off few some =
        let switches = s.sheet.switches in
        let vertical = vertical-there (layout_of s.sheet l) b.rank r x up q.there q.message off in
        elim b.kind [
          | inl e ↦
              let ink : Option LineLabel → Ink =
              arrow_ink_by switches b.rank b.label (has_corner (layout_of s.sheet l).margin b.label x.place)
              (is_crossed b.label.side b.label.place x.place) in
              rw (e, label-cell (arrow-row v b.rank b.label q.line b.there b.message) x.place few some, vertical.1)
              (shows-something v s _ (ink (Some vertical.0)).first_paint (arrow-seen switches b.rank b.label _ _ vertical.0))
          | inr e ↦
              let ink : Option LineLabel → Ink =
              λ o. alternate_ink v.texts.multiline_arrows b.rank o (underline_at switches (layout_of s.sheet l) b.rank x.place) in
              rw (e.0, alternate-cell (rw e.0 at is) x.place few some, vertical.1)
              (shows-something v s _ (ink (Some vertical.0)).first_paint (alternate-seen v.texts.multiline_arrows b.rank vertical.0 _))
        ]

    -- so its vertical is traced from the source row down to its arrow row
    pub label-traced : is_margin (layout_of s.sheet l).margin x ≡ false → x.place < places_of s l
        → is_traced_at (rows_of v) (placing_of v) g s l x.place (number v g s (arrow l r)) ≡ true
    unfolding is_traced_at
    label-traced off few =
        let end = number-at v (arrow-at v q) in
        let src = source-at v q.line in
        let long = slice_get_within (shown_rows s.sheet l) q.index (arrow l r) q.row in
        let below : ℕ = source_row v g l + 1 in
        list_all-true _ _ (all-range _ below (number v g s (arrow l r) - below) (λ i less.
        let y : Row = slice_index_or (shown_rows s.sheet l) i (arrow l r) in
        let e : slice_get (shown_rows s.sheet l) i ≡ Some y = slice_get-get_or (shown_rows s.sheet l) i (arrow l r) (omega arith) in
        let is = block-row-is v q.line i y e in
        let n = number-at v is in
        let b = all-at (IsBlockRow s.sheet l) (shown_rows s.sheet l) i y e (block-rows-are s.sheet l (label-not-lone s.sheet l r x q.there q.message)) in
        let same : number v g s y ≡ below + i = omega arith in
        rw (← same)
        (holds-one q.line (number v g s y) x.place (λ c. not (is_blank c)) few
        (vertical-seen _ y is b (above-it i y (omega arith) e b) off few))))
