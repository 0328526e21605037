-- The first cell that passes a test: among the places of the row of a label, and in its gutter. What a reader finds there hangs on the inks of
-- the places, or of the gutter columns.
use Rattle.ariadne_picture.specs.ReadBack.Rows.{Known}
use Rattle.std.proofs.Common.{◌≡◌, ℕ, zero, suc, ◌+◌, ◌-◌, ◌*◌, ◌<◌, ◌≤◌, Bool, true, false, not, List, [], ◌∷◌, ◌++◌, map, take, drop, length}
use Rattle.std.proofs.Common.{Some, None, refl, sym, ap, ◌∙◌, subst, arith, if◌then◌else◌}
use Rattle.std.specs.Prelude.{slice_get, slice_index_or, find}
use Rattle.std.specs.List.{AllByRecursion, range_with_len, prefix_len}
use Rattle.std.proofs.lemmas.Bool.{cond-true, cond-false, eq-eqb, ne_eqb}
use Rattle.std.proofs.lemmas.List.{length-append, length-map, map-append, take_at}
use Rattle.std.proofs.lemmas.Option.{slice_get-get_or}
use Rattle.ariadne_base.specs.Locations.{upto}
use Rattle.ariadne_picture.specs.declared.switches.CharSet.{CharSet}
use Rattle.ariadne_picture.specs.declared.cell.Glyph.{Glyph}
use Rattle.ariadne_picture.specs.declared.cell.Ink.{Ink}
use Rattle.ariadne_picture.specs.Lists.{joined}
use Rattle.ariadne_picture.specs.Rows.{Row}
use Rattle.ariadne_picture.specs.Columns.{layout_of, width, column_of}
use Rattle.ariadne_picture.specs.Cells.{column_ink}
use Rattle.ariadne_picture.specs.Pieces.{Piece, Section, blank_piece, stroke, ink_pieces, area_pieces, margin_pieces, column_size, gutter_len, gutter_pieces}
use Rattle.ariadne_picture.specs.Canvas.{Cell, cell_of}
use Rattle.ariadne_picture.specs.Placing.Cells.{is_glyph}
use Rattle.ariadne_picture.specs.Placing.Group.{set_of, column_cell, text_cell}
use Rattle.ariadne_picture.specs.Placing.Rows.{between, row_at, cell_at}
use Rattle.ariadne_picture.specs.ReadBack.Rows.{line_of, text_begin}
use Rattle.ariadne_picture.specs.ReadBack.Answer.{first_showing, gutter_turn, text_of_row}
use Rattle.ariadne_picture.proofs.Lists.ListFacts.{all-joined, all-at}
use Rattle.ariadne_picture.proofs.Lists.Elements.{all-range}
use Rattle.ariadne_picture.proofs.Lists.Joined.{joined-append}
use Rattle.ariadne_picture.proofs.Rows.LineBlock.{range-append}
use Rattle.ariadne_picture.proofs.Rows.RowNumbers.{at-front, at-back}
use Rattle.ariadne_picture.proofs.Cells.LineColumns.{column_of-total}
use Rattle.ariadne_picture.proofs.Cells.RowCells.{column-some, all-replicate, length-inks, length-margin, length-area, total-const}
use Rattle.ariadne_picture.proofs.Cells.InkCells.{glyph_cell, ink_cell}
use Rattle.ariadne_picture.proofs.Reading.Pictures.{Picture, rows_of, number}
use Rattle.ariadne_picture.proofs.Reading.ShownLine.{places_of}
use Rattle.ariadne_picture.proofs.Reading.TextRows.{IsTextRow, area, text-cells, row-length, front-at}
use Rattle.ariadne_picture.proofs.ReadingBack.LineTexts.{find-range}

-- what a reader finds of row x of line l: the line, and the first cell of the text behind its gutter
pub record IsFound (v : Picture) (sources : List Known) (g : ℕ) (s : Section) (l : ℕ) (x : Row) : Type 0 where
  pub line : line_of (rows_of v) sources v.texts.switches (number v g s x) ≡ l
  pub begin : text_begin (rows_of v) sources v.texts.switches (number v g s x) ≡ text_cell s

-- ---- elements of which none passes

-- so many stand before the first of those behind them
none-first : {X : Type 0} (test : X → Bool) (xs ys : List X) → AllByRecursion (λ x. test x ≡ false) xs
    → prefix_len (λ x. not (test x)) (xs ++ ys) ≡ length xs + prefix_len (λ x. not (test x)) ys
none-first test [] ys a = omega arith
none-first test (x ∷ xs) ys a =
    let rest = none-first test xs ys a.1 in
    cond-true (not (test x)) (1 + prefix_len (λ x. not (test x)) (xs ++ ys)) 0 (ap not a.0) ∙ omega (arith, rest)

find-none : (test : ℕ → Bool) (a n : ℕ) → ((j : ℕ) → j < n → test (a + j) ≡ false) → find test (range_with_len a n) ≡ None
find-none test a zero f = refl
find-none test a (suc n) f =
    let z : a + 0 ≡ a = omega arith in
    cond-false (test a) (Some a) (find test (range_with_len (a + 1) n)) (ap test (sym z) ∙ f 0 (omega arith))
    ∙ find-none test (a + 1) n (λ j less. let y : a + 1 + j ≡ a + suc j = omega arith in ap test y ∙ f (suc j) (omega arith))

-- ---- the first cell that shows a stroke, by how many stand before it

pub showing-none : (set : CharSet) (glyph : Glyph) (cells : List Cell) → prefix_len (λ c. not (is_glyph set glyph c)) cells ≡ length cells
    → first_showing set glyph cells ≡ None
unfolding first_showing
showing-none set glyph cells e = cond-true _ _ _ (eq-eqb _ (length cells) e)

pub showing-some : (set : CharSet) (glyph : Glyph) (cells : List Cell) (k : ℕ) → prefix_len (λ c. not (is_glyph set glyph c)) cells ≡ k
    → k < length cells → first_showing set glyph cells ≡ Some k
unfolding first_showing
showing-some set glyph cells k e few = cond-false _ _ _ (ne_eqb _ (length cells) (λ z. omega arith)) ∙ ap Some e

-- ---- inks

module _ (v : Picture) (s : Section) (test : Cell → Bool) where
  -- no cell of an ink passes
  pub record IsSilent (ink : Ink) : Type 0 where
    pub first : test (glyph_cell v s ink.first ink.first_paint) ≡ false
    pub rest : test (glyph_cell v s ink.rest ink.rest_paint) ≡ false

  abbrev Misses : Piece → Type 0
  Misses p = test (cell_of v.palette p) ≡ false

  -- so none of those of a place or a column
  ink-misses : (ink : Ink) (n : ℕ) → (0 < n → IsSilent ink) → AllByRecursion Misses (ink_pieces (set_of s) ink n)
  unfolding ink_pieces
  ink-misses ink zero h = tt
  ink-misses ink (suc n) h =
      let two = h (omega arith) in (two.first, all-replicate Misses n (stroke (set_of s) ink.rest ink.rest_paint) two.rest)

  cells-miss : (pieces : List Piece) → AllByRecursion Misses pieces → AllByRecursion (λ c. test c ≡ false) (map (cell_of v.palette) pieces)
  cells-miss [] a = tt
  cells-miss (p ∷ pieces) a = (a.0, cells-miss pieces a.1)

  -- how many cells stand before the first that passes
  abbrev pub before_first : List Piece → ℕ
  before_first pieces = prefix_len (λ c. not (test c)) (map (cell_of v.palette) pieces)

  -- none, where the first cell of an ink passes, if it has one
  begins-there : (ink : Ink) (n : ℕ) (others : List Piece) → (0 < n → test (ink_cell v s ink) ≡ true) → (n ≡ 0 → before_first others ≡ 0)
      → before_first (ink_pieces (set_of s) ink n ++ others) ≡ 0
  unfolding ink_pieces
  begins-there ink zero others on none = none refl
  begins-there ink (suc n) others on none = cond-false _ _ 0 (ap not (on (omega arith)))

  -- ---- the places below line l, by their inks

  module _ (l : ℕ) (ink : ℕ → Ink) where
    abbrev size : ℕ → ℕ
    size = width s.sheet.switches (layout_of s.sheet l)

    -- n of them, from place a on
    abbrev places : ℕ → ℕ → List Piece
    places a n = joined (λ k. ink_pieces (set_of s) (ink k) (size k)) (range_with_len a n)

    split : (k : ℕ) → k ≤ places_of s l → area s l ink ≡ places 0 k ++ places k (places_of s l - k)
    unfolding area_pieces
    split k few =
        let n : ℕ = places_of s l in
        let f : ℕ → List Piece = λ k. ink_pieces (set_of s) (ink k) (size k) in
        let e : n ≡ k + (n - k) = omega arith in
        let z : 0 + k ≡ k = omega arith in
        ap (λ m. joined f (upto m)) e ∙ ap (joined f) (range-append 0 k (n - k)) ∙ joined-append f (upto k) (range_with_len (0 + k) (n - k))
        ∙ ap (λ b. joined f (upto k) ++ joined f (range_with_len b (n - k))) z

    places-length : (k : ℕ) → length (places 0 k) ≡ column_of s.sheet.switches (layout_of s.sheet l) k
    places-length k = length-inks (set_of s) ink size k ∙ sym (column_of-total s.sheet.switches (layout_of s.sheet l) k)

    places-miss : (a n : ℕ) → ((k : ℕ) → a ≤ k → k < a + n → 0 < size k → IsSilent (ink k)) → AllByRecursion Misses (places a n)
    places-miss a n f =
        all-joined Misses (λ k. 0 < size k → IsSilent (ink k)) (λ k. ink_pieces (set_of s) (ink k) (size k)) (range_with_len a n)
        (λ k. ink-misses (ink k) (size k)) (all-range _ a n (λ j less. f (a + j) (omega arith) (omega arith)))

    -- where no place before place k passes, and then the first cell does, it begins there
    first-from : (k : ℕ) → k ≤ places_of s l → ((j : ℕ) → j < k → 0 < size j → IsSilent (ink j))
        → before_first (places k (places_of s l - k)) ≡ 0 → before_first (area s l ink) ≡ column_of s.sheet.switches (layout_of s.sheet l) k
    first-from k few silent here =
        let back : List Piece = places k (places_of s l - k) in
        let misses = cells-miss (places 0 k) (places-miss 0 k (λ j low less. silent j (omega arith))) in
        let long = length-map (places 0 k) (cell_of v.palette) in
        let columns = places-length k in
        let before = none-first test (map (cell_of v.palette) (places 0 k)) (map (cell_of v.palette) back) misses in
        ap before_first (split k few) ∙ ap (prefix_len (λ c. not (test c))) (map-append (cell_of v.palette) (places 0 k) back)
        ∙ omega (arith, before, long, columns, here)

    -- as it does where all from there on pass
    pub first-of-all : (k : ℕ) → k ≤ places_of s l → ((j : ℕ) → j < k → 0 < size j → IsSilent (ink j))
        → ((j : ℕ) → k ≤ j → test (ink_cell v s (ink j)) ≡ true) → before_first (area s l ink) ≡ column_of s.sheet.switches (layout_of s.sheet l) k
    unfolding joined
    first-of-all k few silent on = first-from k few silent (from k (places_of s l - k) (omega arith))
      where
        from : (a n : ℕ) → k ≤ a → before_first (places a n) ≡ 0
        from a zero low = refl
        from a (suc n) low = begins-there (ink a) (size a) (places (a + 1) n) (λ _. on a low) (λ _. from (a + 1) n (omega arith))

    -- or where place k itself does, and has a cell
    pub first-of-one : (k : ℕ) → k < places_of s l → ((j : ℕ) → j < k → 0 < size j → IsSilent (ink j)) → 0 < size k
        → test (ink_cell v s (ink k)) ≡ true → before_first (area s l ink) ≡ column_of s.sheet.switches (layout_of s.sheet l) k
    unfolding joined
    first-of-one k few silent some on = first-from k (omega arith) silent (from (places_of s l - k) (omega arith))
      where
        from : (n : ℕ) → 0 < n → before_first (places k n) ≡ 0
        from zero low = absurd (omega arith)
        from (suc n) low = begins-there (ink k) (size k) (places (k + 1) n) (λ _. on) (λ none. absurd (omega arith))

    -- and there is none where none passes
    pub first-of-none : ((j : ℕ) → j < places_of s l → 0 < size j → IsSilent (ink j))
        → before_first (area s l ink) ≡ column_of s.sheet.switches (layout_of s.sheet l) (places_of s l)
    unfolding joined
    first-of-none silent =
        let z : places_of s l - places_of s l ≡ 0 = omega arith in
        first-from (places_of s l) (omega arith) silent (ap (λ n. before_first (places (places_of s l) n)) z)

-- ---- the gutter

module _ (v : Picture) {g : ℕ} {s : Section} {x : Row} {text : List Piece} (r : IsTextRow v g s x text) where
  -- the first cell of the gutter
  abbrev base : ℕ
  base = if s.sheet.switches.compact then 2 else 3

  gutter-piece : (c : ℕ) (p : Piece) → slice_get (gutter_pieces s.sheet x) c ≡ Some p
      → cell_at (rows_of v) (number v g s x) (base + c) ≡ cell_of v.palette p
  gutter-piece c p e =
      let margin = margin_pieces s.sheet.switches v.width s.display_offset x in
      ap (λ b. cell_at (rows_of v) (number v g s x) (b + c)) (sym (length-margin s.sheet.switches v.width s.display_offset x))
      ∙ front-at v r (length margin + c) p (at-back margin (gutter_pieces s.sheet x) c ∙ e)

  -- where the inks of the columns before column i don't pass, no cell before it does
  pub misses-before : (test : Cell → Bool) (i : ℕ) → i ≤ gutter_len s.sheet → ((j : ℕ) → j < i → IsSilent v s test (column_ink s.sheet x j))
      → (c : ℕ) → c < i * column_size s.sheet.switches → test (cell_at (rows_of v) (number v g s x) (base + c)) ≡ false
  unfolding gutter_pieces
  misses-before test i few silent c less =
      let n : ℕ = gutter_len s.sheet in
      let k : ℕ = column_size s.sheet.switches in
      let f : ℕ → List Piece = λ i. ink_pieces (set_of s) (column_ink s.sheet x i) k in
      let front : List Piece = joined f (upto i) in
      let misses : AllByRecursion (Misses v s test) front =
      all-joined (Misses v s test) (λ j. IsSilent v s test (column_ink s.sheet x j)) f (upto i)
      (λ j h. ink-misses v s test (column_ink s.sheet x j) k (λ _. h))
      (all-range _ 0 i (λ j few. let z : j ≡ 0 + j = omega arith in subst (λ j. IsSilent v s test (column_ink s.sheet x j)) z (silent j few))) in
      let long : length front ≡ i * k = length-inks (set_of s) (column_ink s.sheet x) (λ (j : ℕ). k) i ∙ total-const k 0 i in
      let p : Piece = slice_index_or front c blank_piece in
      let there : slice_get front c ≡ Some p = slice_get-get_or front c blank_piece (omega arith) in
      let e : n ≡ i + (n - i) = omega arith in
      let whole : joined f (upto n) ≡ front ++ joined f (range_with_len (0 + i) (n - i)) =
      ap (λ m. joined f (upto m)) e ∙ ap (joined f) (range-append 0 i (n - i)) ∙ joined-append f (upto i) (range_with_len (0 + i) (n - i)) in
      ap test (gutter-piece c p (ap (λ xs. slice_get xs c) whole ∙ at-front front _ c p there))
      ∙ all-at (Misses v s test) front c p there misses

  module _ (sources : List Known) (begin : text_begin (rows_of v) sources v.texts.switches (number v g s x) ≡ text_cell s) where
    same-switches : v.texts.switches ≡ s.sheet.switches
    same-switches = sym (v.drawn.same_switches g s r.is.group)

    turn-is : (glyph : Glyph) → gutter_turn (rows_of v) sources v.texts.switches glyph (number v g s x)
        ≡ find (λ c. is_glyph (set_of s) glyph (cell_at (rows_of v) (number v g s x) c)) (between base (text_cell s))
    unfolding gutter_turn
    turn-is glyph =
        λ i. find (λ c. is_glyph (same-switches i).char_set glyph (cell_at (rows_of v) (number v g s x) c))
        (between (if (same-switches i).compact then 2 else 3) (begin i))

    -- so none turns where no ink does
    pub turns-nowhere : (glyph : Glyph)
        → ((j : ℕ) → j < gutter_len s.sheet → IsSilent v s (is_glyph (set_of s) glyph) (column_ink s.sheet x j))
        → gutter_turn (rows_of v) sources v.texts.switches glyph (number v g s x) ≡ None
    unfolding text_cell column_cell
    turns-nowhere glyph silent =
        turn-is glyph
        ∙ find-none _ base (text_cell s - base) (λ j less.
        misses-before (is_glyph (set_of s) glyph) (gutter_len s.sheet) (omega arith) silent j (omega arith))

    -- and the first turns in the first column whose ink does
    pub turns-at : (glyph : Glyph) (i : ℕ) → i < gutter_len s.sheet
        → ((j : ℕ) → j < i → IsSilent v s (is_glyph (set_of s) glyph) (column_ink s.sheet x j))
        → is_glyph (set_of s) glyph (cell_at (rows_of v) (number v g s x) (column_cell s i)) ≡ true
        → gutter_turn (rows_of v) sources v.texts.switches glyph (number v g s x) ≡ Some (column_cell s i)
    unfolding text_cell column_cell
    turns-at glyph i few silent on =
        let k : ℕ = column_size s.sheet.switches in
        let some = column-some s.sheet.switches in
        let more : i * k < gutter_len s.sheet * k = grind arith in
        turn-is glyph
        ∙ find-range _ base (text_cell s - base) (i * k) (omega (arith, more)) on
        (λ j less. misses-before (is_glyph (set_of s) glyph) i (omega arith) silent j less)

    -- ---- the text of the row

    -- its places, without what stands behind them
    pub places-text : (l : ℕ) (ink : ℕ → Ink) (others : List Piece) (last : ℕ) → text ≡ area s l ink ++ others → length others ≡ last
        → text_of_row (rows_of v) sources v.texts.switches last (number v g s x) ≡ map (cell_of v.palette) (area s l ink)
    unfolding text_of_row
    places-text l ink others last is count =
        let row : List Cell = row_at (rows_of v) (number v g s x) in
        let front : List Cell = map (cell_of v.palette) (area s l ink) in
        let size = row-length v r in
        let two = ap length is ∙ length-append (area s l ink) others in
        let long = length-map (area s l ink) (cell_of v.palette) in
        ap (λ b. take (length row - last - b) (drop b row)) begin
        ∙ ap (take (length row - last - text_cell s)) (text-cells v r ∙ ap (map (cell_of v.palette)) is ∙ map-append (cell_of v.palette) (area s l ink) others)
        ∙ take_at front (map (cell_of v.palette) others) (length row - last - text_cell s) (omega (arith, size, two, long, count))

-- as many cells as its places have columns
pub area-columns : (v : Picture) (s : Section) (l : ℕ) (ink : ℕ → Ink)
    → length (map (cell_of v.palette) (area s l ink)) ≡ column_of s.sheet.switches (layout_of s.sheet l) (places_of s l)
area-columns v s l ink = length-map (area s l ink) (cell_of v.palette) ∙ length-area s.sheet.switches (layout_of s.sheet l) ink
