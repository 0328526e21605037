-- The trace of a line label: its vertical, its corner and its horizontal are strokes that the label has where the clause on
-- other strokes looks for them.
use Rattle.std.proofs.Common.{◌≡◌, ℕ, zero, suc, ◌+◌, ◌-◌, ◌<◌, ◌≤◌, Bool, true, false, not, ◌&&◌, List, [], ◌∷◌, ◌++◌, drop}
use Rattle.std.proofs.Common.{Some, refl, sym, ap, ◌∙◌, subst, arith, ◌==◌, inl, inr, ◌⊎◌, if◌then◌else◌}
use Rattle.std.specs.Prelude.{slice_get, find, nat_le}
use Rattle.std.specs.List.{list_all, enumerate_from}
use Rattle.std.specs.Cmp.Derive.{both_true}
use Rattle.std.proofs.lemmas.Bool.{cases_Bool, eq-eqb, eqb-true, ne_eqb, ltb-true, le-leb, not-true}
use Rattle.ariadne_base.specs.Locations.{upto}
use Rattle.ariadne_picture.specs.declared.switches.Switches.{Switches}
use Rattle.ariadne_picture.specs.declared.label_info.LabelInfo.{LabelInfo}
use Rattle.ariadne_picture.specs.declared.label_info.LineLabel.{LineLabel}
use Rattle.ariadne_picture.specs.declared.cell.Ink.{Ink}
use Rattle.ariadne_picture.specs.Ranks.{gutter_labels, is_inline, is_start, is_on_one_line, is_margin, line_labels}
use Rattle.ariadne_picture.specs.Rows.{Row, arrow}
use Rattle.ariadne_picture.specs.Columns.{Layout, layout_of, width, column_of, arrow_len}
use Rattle.ariadne_picture.specs.Strokes.{first_row, has_vertical, is_at_margin, is_crossed}
use Rattle.ariadne_picture.specs.Strokes.{vertical_at}
use Rattle.ariadne_picture.specs.Cells.{corner_glyph}
use Rattle.ariadne_picture.specs.Pieces.{Piece, Section, ink_pieces, area_pieces}
use Rattle.ariadne_picture.specs.Canvas.{Cell, cell_of}
use Rattle.ariadne_picture.specs.Placing.Cells.{is_blank, is_glyph, is_level}
use Rattle.ariadne_picture.specs.Placing.Group.{set_of, messages_of, text_cell, place_cell}
use Rattle.ariadne_picture.specs.Placing.Rows.{cell_at}
use Rattle.ariadne_picture.proofs.Lists.ListFacts.{none≢some}
use Rattle.ariadne_picture.proofs.Lists.Elements.{Has, has-first, has-front, has-back, has-filter, has-map, has-joined, all-range, list_all-true, list_any-true}
use Rattle.ariadne_picture.proofs.Lists.Elements.{left-true, right-true}
use Rattle.ariadne_picture.proofs.Labels.LabelsAtLine.{IsHere, IsStartHere, IsEndHere, IsInlineHere}
use Rattle.ariadne_picture.proofs.Rows.GutterLabelRows.{first-at-arrow, label-off-margin}
use Rattle.ariadne_picture.proofs.Rows.RowNumbers.{at-front}
use Rattle.ariadne_picture.proofs.Cells.LineColumns.{column_of-total}
use Rattle.ariadne_picture.proofs.Cells.RowCells.{ink-head, ink-tail, inks-at}
use Rattle.ariadne_picture.proofs.Cells.InkCells.{glyph_cell, ink_cell}
use Rattle.ariadne_picture.proofs.Reading.HeadPlaces.{IsGutterLabelOf, head-place}
use Rattle.ariadne_picture.proofs.Reading.MessagePlaces.{label-here, arrow-shows, two-true}
use Rattle.ariadne_picture.proofs.Reading.Pictures.{rows_of, Picture, placing_of, read, number, head_row}
use Rattle.ariadne_picture.proofs.Reading.ShownLine.{IsShownLine, IsArrowRow, numbered-at, places-are, places_of}
use Rattle.ariadne_picture.proofs.Reading.TextRows.{IsTextRow, area, text-at}
use Rattle.ariadne_picture.specs.Causes.{Trace, is_upright, is_stroke_of, inline_trace, end_trace, start_trace, gutter_traces, traces_below}
use Rattle.ariadne_picture.specs.Causes.{is_underline_of, has_cause, is_place_caused}

-- ---- what is found in a list

-- an element that is found passes, and has a place
record Found {X : Type 0} (test : X → Bool) (xs : List X) (x : X) : Type 0 where
  place : ℕ
  there : slice_get xs place ≡ Some x
  passes : test x ≡ true

found : {X : Type 0} (test : X → Bool) (xs : List X) (x : X) → find test xs ≡ Some x → Found test xs x
found test [] x e = absurd (none≢some x e)
found test (y ∷ xs) x e = elim (cases_Bool (test y)) [
  | inl on ↦
      let here : find test (y ∷ xs) ≡ Some y = rw on in
      let same : y ≡ x = cc in
      record { place = 0; there = ap Some same; passes = subst (λ z. test z ≡ true) same on }
  | inr off ↦
      let later : find test (y ∷ xs) ≡ find test xs = rw off in
      let rest = found test xs x (sym later ∙ e) in
      record { place = suc rest.place; there = rest.there; passes = rest.passes }
]

-- behind r others it stands r places further on
pub drop-get : {X : Type 0} (xs : List X) (r k : ℕ) → slice_get (drop r xs) k ≡ slice_get xs (r + k)
drop-get xs zero k = let z : k ≡ 0 + k = omega arith in ap (slice_get xs) z
drop-get [] (suc r) k = refl
drop-get (x ∷ xs) (suc r) k = let z : suc r + k ≡ suc (r + k) = omega arith in drop-get xs r k ∙ ap (slice_get (x ∷ xs)) (sym z)

-- the line label whose vertical is seen at place k of the rows of rank r
pub record IsVertical (y : Layout) (r k : ℕ) (x : LineLabel) : Type 0 where
  pub rank : ℕ
  pub later : r ≤ rank
  pub there : slice_get y.labels rank ≡ Some x
  pub message : x.info.has_message ≡ true
  pub off : is_margin y.margin x ≡ false
  pub place : x.place ≡ k

pub vertical-is : (y : Layout) (r k : ℕ) (x : LineLabel) → vertical_at y r k ≡ Some x → IsVertical y r k x
unfolding vertical_at has_vertical
vertical-is y r k x e =
    let f = found (has_vertical y.margin k) (drop r y.labels) x e in
    let passes = f.passes in
    let two = two-true (x.info.has_message && not (is_margin y.margin x)) (x.place == k) passes in
    let one = two-true x.info.has_message (not (is_margin y.margin x)) two.0 in
    record {
      rank = r + f.place;
      later = omega arith;
      there = sym (drop-get y.labels r f.place) ∙ f.there;
      message = one.0;
      off = not-true (is_margin y.margin x) one.1;
      place = eqb-true x.place k two.1;
    }

-- ---- the cells of a place

-- cell o of place k of an area
area-at : (switches : Switches) (y : Layout) (ink_at : ℕ → Ink) (k o : ℕ) (q : Piece) → k < arrow_len switches y
    → slice_get (ink_pieces switches.char_set (ink_at k) (width switches y k)) o ≡ Some q
    → slice_get (area_pieces switches y ink_at) (column_of switches y k + o) ≡ Some q
unfolding area_pieces
area-at switches y ink_at k o q few e =
    ap (λ m. slice_get (area_pieces switches y ink_at) (m + o)) (column_of-total switches y k)
    ∙ inks-at switches.char_set ink_at (width switches y) (arrow_len switches y) k o q few e

-- a place has as many cells as columns
pub place-cells : (s : Section) (l k : ℕ) → place_cell s l (k + 1) - place_cell s l k ≡ width s.sheet.switches (layout_of s.sheet l) k
unfolding place_cell width column_of
place-cells s l k =
    let y = layout_of s.sheet l in
    let next : k + 1 ≡ suc k = omega arith in
    let step : column_of s.sheet.switches y (k + 1) ≡ column_of s.sheet.switches y k + width s.sheet.switches y k =
    ap (column_of s.sheet.switches y) next in
    omega (arith, step)

-- cell o of place k of a row below the line is that of its piece
pub place-cell-is : (v : Picture) {g : ℕ} {s : Section} {x : Row} (l : ℕ) (ink : ℕ → Ink) (rest : List Piece) → IsTextRow v g s x (area s l ink ++ rest)
    → (k o : ℕ) (q : Piece) → k < places_of s l
    → slice_get (ink_pieces (set_of s) (ink k) (width s.sheet.switches (layout_of s.sheet l) k)) o ≡ Some q
    → cell_at (rows_of v) (number v g s x) (place_cell s l k + o) ≡ cell_of v.palette q
unfolding place_cell
place-cell-is v {g} {s} {x} l ink rest is k o q few e =
    let y = layout_of s.sheet l in
    let z : text_cell s + column_of s.sheet.switches y k + o ≡ text_cell s + (column_of s.sheet.switches y k + o) = omega arith in
    ap (cell_at (rows_of v) (number v g s x)) z
    ∙ text-at v is _ q (at-front (area s l ink) rest _ q (area-at s.sheet.switches y ink k o q few e))

module _ (v : Picture) {g : ℕ} {s : Section} {l : ℕ} (h : IsShownLine v g s l) where
  -- both cells of an ink pass at place k of row n: the first one, and those behind it
  abbrev pub IsCaused : ℕ → ℕ → Ink → Type 0
  IsCaused n k ink =
      (read v has_cause g s l n k true (ink_cell v s ink) ≡ true)
      × (read v has_cause g s l n k false (glyph_cell v s ink.rest ink.rest_paint) ≡ true)

  -- so all cells of the places of a row pass, where their inks do
  pub row-caused : {x : Row} (ink : ℕ → Ink) (rest : List Piece) (is : IsTextRow v g s x (area s l ink ++ rest))
      → ((k : ℕ) → k < places_of s l → IsCaused (number v g s x) k (ink k))
      → list_all (read v is_place_caused g s l (number v g s x)) (upto ((placing_of v).places g l)) ≡ true
  unfolding is_place_caused
  row-caused {x} ink rest is f =
      let places = places-are v h in
      list_all-true _ _ (all-range _ 0 ((placing_of v).places g l) (λ j less.
      let k : ℕ = 0 + j in
      let few : k < places_of s l = omega arith in
      list_all-true _ _ (all-range _ (place_cell s l k) (place_cell s l (k + 1) - place_cell s l k) (λ o low.
      let size = place-cells s l k in
      each k few (f k few) o (omega (arith, size))))))
    where
      size : ℕ → ℕ
      size k = width s.sheet.switches (layout_of s.sheet l) k

      each : (k : ℕ) → k < places_of s l → IsCaused (number v g s x) k (ink k) → (o : ℕ) → o < size k
          → read v has_cause g s l (number v g s x) k ((place_cell s l k + o) == place_cell s l k)
          (cell_at (rows_of v) (number v g s x) (place_cell s l k + o)) ≡ true
      each k few both zero low =
          let first : ((place_cell s l k + 0) == place_cell s l k) ≡ true = eq-eqb (place_cell s l k + 0) (place_cell s l k) (omega arith) in
          rw (first, place-cell-is v l ink rest is k 0 _ few (ink-head (set_of s) (ink k) (size k) low)) both.0
      each k few both (suc o) low =
          let later : ((place_cell s l k + suc o) == place_cell s l k) ≡ false = ne_eqb (place_cell s l k + suc o) (place_cell s l k) (λ e. omega arith) in
          rw (later, place-cell-is v l ink rest is k (suc o) _ few (ink-tail (set_of s) (ink k) (size k) o low)) both.1

-- ---- the trace of a line label

-- it turns where the label has its place, in its arrow row
pub record IsTraceOf (v : Picture) (g : ℕ) (s : Section) (l r : ℕ) (x : LineLabel) : Type 0 where
  pub trace : Trace
  pub there : Has (read v traces_below g s l) trace
  pub place : trace.place ≡ x.place
  pub row : trace.row ≡ number v g s (arrow l r)
  pub turns : is_margin (layout_of s.sheet l).margin x ≡ false → trace.turns ≡ true
  pub corner : trace.corner ≡ corner_glyph x.side
  pub reaches : (k : ℕ) → (is_crossed x.side x.place k ≡ true) ⊎ (x.place ≡ k) → trace.reaches k ≡ true

module _ (v : Picture) {g : ℕ} {s : Section} {l r : ℕ} {x : LineLabel} (q : IsArrowRow v g s l r x) where
  inline-there : IsInlineHere s.sheet l x → Has (read v traces_below g s l) (read v inline_trace x.info)
  unfolding traces_below messages_of
  inline-there h =
      let own = has-filter (λ (a : LabelInfo). a.has_message) s.sheet.labels h.owned.place x.info h.owned.there q.message in
      let within = has-filter (λ (a : LabelInfo). is_on_one_line a && (a.start_line == l)) _ own.place x.info own.there
      (both_true h.one_line (eq-eqb x.info.start_line l h.line)) in
      has-front _ _ _ (has-map (read v inline_trace) _ within.place x.info within.there)

  end-there : IsEndHere s.sheet l x → Has (read v traces_below g s l) (read v end_trace s l x.gutter_column x.info)
  unfolding traces_below gutter_traces
  end-there h =
      has-back _ _ _ (has-joined (λ e. read v gutter_traces g s l e.0 e.1) (enumerate_from 0 (gutter_labels s.sheet.labels)) x.gutter_column
      (x.gutter_column, x.info) _ (numbered-at _ x.gutter_column x.info h.owned)
      (rw (eq-eqb x.info.end_line l h.line) (has-first (read v end_trace s l x.gutter_column x.info) _)))

  start-there : IsStartHere s.sheet l x → is_at_margin s.sheet l x.gutter_column ≡ false
      → Has (read v traces_below g s l) (read v start_trace g x.gutter_column x.info)
  unfolding traces_below gutter_traces
  start-there h off =
      let a = x.info in
      let i = x.gutter_column in
      let here : Has (if (a.start_line == l) && not (is_at_margin s.sheet l i) then read v start_trace g i a ∷ [] else []) (read v start_trace g i a) =
      rw (eq-eqb a.start_line l h.line, off) (has-first (read v start_trace g i a) []) in
      has-back _ _ _ (has-joined (λ e. read v gutter_traces g s l e.0 e.1) (enumerate_from 0 (gutter_labels s.sheet.labels)) x.gutter_column
      (x.gutter_column, x.info) _ (numbered-at _ x.gutter_column x.info h.owned)
      (has-back (if a.end_line == l then read v end_trace s l i a ∷ [] else []) _ _ here))

  -- a start that is a line label is not the margin label
  start-off : IsStartHere s.sheet l x → is_at_margin s.sheet l x.gutter_column ≡ false
  start-off h = label-off-margin s.sheet l x.gutter_column r (record { label = x; there = q.there; same_side = h.side; same_gutter_column = refl })

  -- its head stands in its arrow row, as the first row of its gutter label is that one
  pub head-shows : IsStartHere s.sheet l x → head_row v g x.gutter_column ≡ number v g s (arrow l r)
  head-shows h =
      let i = x.gutter_column in
      let a = x.info in
      let o : IsGutterLabelOf v g s i a = record { group = q.line.group; owned = h.owned } in
      let off : is_at_margin s.sheet a.start_line i ≡ false = rw h.line (start-off h) in
      let head = head-place v o off in
      let one : first_row s.sheet i a ≡ arrow a.start_line head.rank =
      first-at-arrow s.sheet i head.rank a
      (record { label = head.label; there = head.arrow_row.there; same_side = head.start.side; same_gutter_column = head.gutter_column }) in
      let two : first_row s.sheet i a ≡ arrow a.start_line r =
      first-at-arrow s.sheet i r a
      (record { label = x; there = subst (λ m. slice_get (line_labels s.sheet.labels m) r ≡ Some x) (sym h.line) q.there; same_side = h.side; same_gutter_column = refl }) in
      let same : head.rank ≡ r = cc in
      let line = h.line in
      cc (head.row)

  pub trace-of : IsTraceOf v g s l r x
  unfolding is_margin is_inline is_start is_crossed corner_glyph layout_of inline_trace end_trace start_trace
  trace-of = go (label-here s.sheet l r x q.there)
    where
      go : IsHere s.sheet l x → IsTraceOf v g s l r x
      go (inl h) = record {
        trace = read v start_trace g x.gutter_column x.info;
        there = start-there h (start-off h);
        place = sym h.place;
        row = head-shows h;
        turns = λ _. refl;
        corner = sym (ap corner_glyph h.side);
        reaches = λ k e. elim e [
          | inl crossed ↦ ap (nat_le k) (sym h.place) ∙ ap (λ side. is_crossed side x.place k) (sym h.side) ∙ crossed
          | inr same ↦ le-leb k x.info.start_place (omega arith)
        ];
      }
      go (inr (inl h)) = record {
        trace = read v end_trace s l x.gutter_column x.info;
        there = end-there h;
        place = sym h.place;
        row = arrow-shows v q (ap is_start h.side);
        turns = λ off. ap not (ap (λ side. not (is_inline side) && is_at_margin s.sheet l x.gutter_column) (sym h.side) ∙ off);
        corner = sym (ap corner_glyph h.side);
        reaches = λ k e. refl;
      }
      go (inr (inr h)) = record {
        trace = read v inline_trace x.info;
        there = inline-there h;
        place = sym h.place;
        row = arrow-shows v q (ap is_start h.side);
        turns = λ _. refl;
        corner = sym (ap corner_glyph h.side);
        reaches = λ k e. elim e [
          | inl crossed ↦
              let less = ltb-true x.place k (ap (λ side. is_crossed side x.place k) (sym h.side) ∙ crossed) in
              le-leb x.info.attach k (omega arith)
          | inr same ↦ le-leb x.info.attach k (omega arith)
        ];
      }

-- ---- a stroke of a label is a cause

module _ (v : Picture) (g : ℕ) (s : Section) (l n k : ℕ) (is_first : Bool) (c : Cell) where
  -- a blank needs none
  pub cause-none : is_blank c ≡ true → read v has_cause g s l n k is_first c ≡ true
  unfolding has_cause
  cause-none e = left-true _ _ e

  -- a trace
  cause-trace : (t : Trace) → Has (read v traces_below g s l) t → is_stroke_of (set_of s) t n k is_first c ≡ true
      → read v has_cause g s l n k is_first c ≡ true
  unfolding has_cause
  cause-trace t h e = right-true _ _ (left-true _ _ (list_any-true _ _ h.place t h.there e))

  -- an underline
  pub cause-underline : read v is_underline_of g s l n k c ≡ true → read v has_cause g s l n k is_first c ≡ true
  unfolding has_cause
  cause-underline e = right-true _ _ (right-true _ _ e)

module _ (v : Picture) {g : ℕ} {s : Section} {l r : ℕ} {x : LineLabel} (q : IsArrowRow v g s l r x) (n k : ℕ) (c : Cell) where
  -- its vertical stands at its place, in rows down to its arrow row
  pub cause-vertical : is_margin (layout_of s.sheet l).margin x ≡ false → x.place ≡ k → n ≤ number v g s (arrow l r) → is_upright (set_of s) c ≡ true
      → read v has_cause g s l n k true c ≡ true
  unfolding is_stroke_of
  cause-vertical off same up shows =
      let t = trace-of v q in
      let place = t.place in
      let row = t.row in
      cause-trace v g s l n k true c t.trace t.there
      (left-true _ _ (both_true (both_true (both_true (t.turns off) (eq-eqb t.trace.place k (omega arith))) refl)
      (left-true _ _ (both_true (le-leb n t.trace.row (omega arith)) shows))))

  -- its corner in its arrow row
  pub cause-corner : is_margin (layout_of s.sheet l).margin x ≡ false → x.place ≡ k → n ≡ number v g s (arrow l r)
      → is_glyph (set_of s) (corner_glyph x.side) c ≡ true → read v has_cause g s l n k true c ≡ true
  unfolding is_stroke_of
  cause-corner off same here shows =
      let t = trace-of v q in
      let place = t.place in
      let row = t.row in
      cause-trace v g s l n k true c t.trace t.there
      (left-true _ _ (both_true (both_true (both_true (t.turns off) (eq-eqb t.trace.place k (omega arith))) refl)
      (right-true _ _ (both_true (eq-eqb n t.trace.row (omega arith)) (rw t.corner shows)))))

  -- and its horizontal
  pub cause-level : (is_first : Bool) → (is_crossed x.side x.place k ≡ true) ⊎ (x.place ≡ k) → n ≡ number v g s (arrow l r)
      → is_level (set_of s) c ≡ true → read v has_cause g s l n k is_first c ≡ true
  unfolding is_stroke_of
  cause-level is_first reaches here shows =
      let t = trace-of v q in
      let row = t.row in
      cause-trace v g s l n k is_first c t.trace t.there
      (right-true _ _ (both_true (both_true (eq-eqb n t.trace.row (omega arith)) (t.reaches k reaches)) shows))
