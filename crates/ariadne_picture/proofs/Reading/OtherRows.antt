-- The rows that no line has show what is theirs: the header, the first rows and the last one of each group, and between them, without
-- those of lines, rows in place of hidden lines and then those of helps and notes.
use Rattle.std.proofs.Common.{◌≡◌, ℕ, suc, ◌+◌, ◌-◌, ◌≤◌, Bool, true, false, not, ◌&&◌, List, [], ◌∷◌, ◌++◌, map, take, drop, length, Some, refl, sym, ap, ◌∙◌, subst, arith, ◌==◌, inl, inr, ◌⊎◌, if◌then◌else◌, append_assoc}
use Rattle.std.specs.Prelude.{slice_get, filter, nat_lt}
use Rattle.std.specs.List.{AllByRecursion, list_all, list_any, enumerate_from, range_with_len}
use Rattle.std.specs.Cmp.Derive.{both_true}
use Rattle.std.specs.Cmp.Lexicographic.{pointwise}
use Rattle.std.specs.Str.Lines.{lines}
use Rattle.std.proofs.lemmas.Bool.{cases_Bool, cases_lt, cond-true, cond-false, cond_both, eq-eqb, eqb-true, le-leb, leb-true, lt-ltb, ltb-true, true≢false, false_from_ne_true}
use Rattle.std.proofs.lemmas.List.{append-nil, length-append, length-map, length-replicate, take_at, drop_at}
use Rattle.std.proofs.lemmas.List.FromFn.{length-range_with_len}
use Rattle.std.proofs.lemmas.List.Elements.{filter-append}
use Rattle.std.proofs.lemmas.Option.{slice_get_within, slice_get-get_or}
use Rattle.ariadne_base.specs.Locations.{upto}
use Rattle.ariadne_picture.specs.declared.switches.CharSet.{CharSet}
use Rattle.ariadne_picture.specs.declared.switches.CharSet.TheVariants.{Unicode, Ascii}
use Rattle.ariadne_picture.specs.declared.cell.Glyph.TheVariants.{Vbar, VbarGap}
use Rattle.ariadne_picture.specs.Lists.{joined}
use Rattle.ariadne_picture.specs.Ranks.{is_hidden_line, group_lines, first_line}
use Rattle.ariadne_picture.specs.Rows.{Aside, help, note, Row, group_header, spacer, source, alternate, arrow, gap, bare, blank, piece, tail, rows, aside_part, row_key, line_rows, aside_rows, asides}
use Rattle.ariadne_picture.specs.Cells.{glyph_code}
use Rattle.ariadne_picture.specs.Pieces.{Piece, Section, spaces, glyph_text, margin_text, margin_pieces, gutter_pieces, aside_pieces}
use Rattle.ariadne_picture.specs.Pieces.{group_header_pieces, spacer_pieces, tail_pieces, text_pieces, rest_pieces, row_pieces}
use Rattle.ariadne_picture.specs.Canvas.{Cell, cell_of, header_pieces}
use Rattle.ariadne_picture.specs.Placing.Cells.{no_cell, is_text, is_blank}
use Rattle.ariadne_picture.specs.Placing.Group.{set_of, shown_lines, column_cell}
use Rattle.ariadne_picture.specs.Placing.Rows.{row_at, cell_at}
use Rattle.ariadne_picture.specs.Placing.Together.{unindented, has_margin, is_in_block}
use Rattle.ariadne_picture.specs.OtherRows.{all_aside_rows, has_texts, is_framed, is_of_line, others, ends_at_cell, is_hidden_row, is_aside_row}
use Rattle.ariadne_picture.specs.OtherRows.{has_own_others, has_other_rows}
use Rattle.ariadne_picture.proofs.Cells.CanvasRows.{map-map, row_cells}
use Rattle.ariadne_picture.proofs.Cells.MarginTexts.{BeginsBare, unindented-spaces, vbar-bare}
use Rattle.ariadne_picture.proofs.Cells.RowCells.{length-margin}
use Rattle.ariadne_picture.proofs.Lists.Elements.{has-filter, all-range, list_all-true, list_any-true, left-true, right-true, pointwise-equal, texts-same}
use Rattle.ariadne_picture.proofs.Lists.ListFacts.{all-at, all-append, all-joined, all-map, all-every, all-filtered, filter-all}
use Rattle.ariadne_picture.proofs.Rows.LineBlock.{IsBlockRow, IsLoneRow, block-kinds, range-append}
use Rattle.ariadne_picture.proofs.Rows.RowNumbers.{at-front, at-back, start-next}
use Rattle.ariadne_picture.proofs.Rows.RowOrder.{FromLine, lines-from, shown_rows}
use Rattle.ariadne_picture.proofs.Rows.RowPlacing.{row_list, row_part, row_placing}
use Rattle.ariadne_picture.proofs.Reading.MessagePlaces.{two-true}
use Rattle.ariadne_picture.proofs.Reading.Pictures.{Picture, RowAt, rows_of, placing_of, read, source_row, start_of, number, number-at, every-group}
use Rattle.ariadne_picture.proofs.Reading.Placed.{has-margin}
use Rattle.ariadne_picture.proofs.Reading.RowNames.{name-of, named-arrow}
use Rattle.ariadne_picture.proofs.Reading.ShownLine.{IsShownLine, rows_above, source-is, source-row-is, block-row-is, source-at, block-at, every-line, group-line-at}
use Rattle.ariadne_picture.proofs.Reading.TextRows.{IsTextRow, gap-text, row-read, row-length, text-cells}

-- ---- lists

-- no element passes, so none is found that does
none-any : {X : Type 0} (test : X → Bool) (xs : List X) → AllByRecursion (λ x. test x ≡ false) xs → list_any test xs ≡ false
none-any test [] a = refl
none-any test (x ∷ xs) a = rw (a.0) (none-any test xs a.1)

-- a test of numbers and of what elements give, one by one
pointwise-range : {X Y : Type 0} (E : ℕ → Y → Bool) (f : X → Y) (a : ℕ) (xs : List X)
    → ((j : ℕ) (x : X) → slice_get xs j ≡ Some x → E (a + j) (f x) ≡ true) → pointwise E (range_with_len a (length xs)) (map f xs) ≡ true
pointwise-range E f a [] h = refl
pointwise-range E f a (x ∷ xs) h =
    let z : a + 0 ≡ a = omega arith in
    both_true (subst (λ n. E n (f x) ≡ true) z (h 0 x refl))
    (pointwise-range E f (a + 1) xs (λ j y e. let n : a + suc j ≡ a + 1 + j = omega arith in subst (λ n. E n (f y) ≡ true) n (h (suc j) y e)))

-- a list whose last elements are tested by others, and those before them alone
split-passes : {X Y : Type 0} (P : X → Bool) (E : X → Y → Bool) (zs xs ys : List X) (us ws : List Y) → zs ≡ xs ++ ys → us ≡ ws
    → length ys ≡ length ws → list_all P xs ≡ true → pointwise E ys ws ≡ true
    → (list_all P (take (length zs - length us) zs) && pointwise E (drop (length zs - length us) zs) us) ≡ true
split-passes P E zs xs ys us ws join same size before behind =
    let whole = ap length join ∙ length-append xs ys in
    let few = ap length same in
    let k : length xs ≡ length zs - length us = omega (arith, whole, few, size) in
    let front : take (length zs - length us) zs ≡ xs = ap (take (length zs - length us)) join ∙ take_at xs ys _ k in
    let back : drop (length zs - length us) zs ≡ ys = ap (drop (length zs - length us)) join ∙ drop_at xs ys _ k in
    both_true (ap (list_all P) front ∙ before) ((λ i. pointwise E (back i) (same i)) ∙ behind)

-- ---- texts

-- a broken bar is no blank
gap-bare : (set : CharSet) → BeginsBare (glyph_text set VbarGap)
unfolding glyph_text glyph_code lib.Utf8.encode
gap-bare Unicode = record { first = 0xE2; rest = 0x94 ∷ 0x86 ∷ []; is = refl; bare = λ e. omega arith }
gap-bare Ascii = record { first = 0x3A; rest = []; is = refl; bare = λ e. omega arith }

-- so many blanks
spaces-length : (n : ℕ) → length (spaces n) ≡ n
unfolding spaces
spaces-length n = length-replicate n 32

-- ---- rows by their names

-- a row that no line has, between the first ones and the last
unfoldable is_other : Row → Bool
is_other (gap l) = true
is_other (bare l) = true
is_other (blank a k) = true
is_other (piece a k n) = true
is_other x = false

-- the rows of helps and notes are such rows
unfoldable IsAside : Row → Type 0
IsAside (blank a k) = Unit {0}
IsAside (piece a k n) = Unit {0}
IsAside x = ⊥

all-asides : (compact : Bool) (a : Aside) (texts : List (List ℕ)) → AllByRecursion IsAside (asides compact a texts)
unfolding asides aside_rows IsAside
all-asides compact a texts =
    all-joined IsAside (λ (e : ℕ × List ℕ). Unit {0}) (aside_rows compact a) (enumerate_from 0 texts)
    (λ e _. all-append IsAside (if compact then [] else blank a e.0 ∷ []) _
    (cond_both compact [] (blank a e.0 ∷ []) (AllByRecursion IsAside) (λ _. tt) (λ _. (tt, tt)))
    (all-map IsAside (piece a e.0) _ (all-every (λ p. IsAside (piece a e.0 p)) (λ p. tt) (upto (length (lines e.1))))))
    (all-every (λ (e : ℕ × List ℕ). Unit {0}) (λ e. tt) (enumerate_from 0 texts))

-- how many rows stand round them
frames : (c : Bool) → (length (group_header ∷ (if c then [] else spacer ∷ [])) ≡ 1 + (if c then 0 else 1))
    × (length {A = Row} (if c then [] else tail ∷ []) ≡ (if c then 0 else 1))
frames true = (refl, refl)
frames false = (refl, refl)

module _ (v : Picture) (s : Section) where
  -- the rows of a group: the first ones, those of its lines, those of helps and notes, and the last one
  abbrev top : List Row
  top = group_header ∷ (if s.sheet.switches.compact then [] else spacer ∷ [])

  abbrev body : List Row
  body = joined (line_rows s.sheet) (group_lines s.sheet)

  abbrev below : List Row
  below =
      if s.is_last then asides s.sheet.switches.compact help v.texts.helps ++ asides s.sheet.switches.compact note v.texts.notes else []

  abbrev end : List Row
  end = if s.sheet.switches.compact then [] else tail ∷ []

  all-below : AllByRecursion IsAside below
  all-below =
      let compact = s.sheet.switches.compact in
      cond_both s.is_last _ [] (AllByRecursion IsAside)
      (λ _. all-append IsAside _ (asides compact note v.texts.notes) (all-asides compact help v.texts.helps) (all-asides compact note v.texts.notes)) (λ _. tt)

  -- the clause has the texts of the rows of helps and notes
  below-is : all_aside_rows v.texts s ≡ map (text_pieces v.texts s) below
  unfolding all_aside_rows
  below-is =
      let f : Row → List Piece = text_pieces v.texts s in
      elim (cases_Bool s.is_last) [
        | inl on ↦ cond-true s.is_last _ _ on ∙ ap (map f) (sym (cond-true s.is_last _ _ on))
        | inr off ↦ cond-false s.is_last _ _ off ∙ ap (map f) (sym (cond-false s.is_last _ _ off))
      ]

module _ (v : Picture) (g : ℕ) (s : Section) (e : slice_get v.sections g ≡ Some s) where
  -- ---- a row has a text

  -- its cells have the texts of its pieces
  has-pieces : {k : ℕ} {x : Row} (pieces : List Piece) → RowAt v g s k x → row_pieces v.texts v.width s x ≡ pieces
      → read v has_texts v.texts (number v g s x) 0 pieces ≡ true
  unfolding has_texts
  has-pieces {x = x} pieces is same =
      let texts : List Cell → List (List ℕ) = map (λ (c : Cell). c.text) in
      ap (λ t. pointwise is_text t (map (λ (q : Piece). q.text) pieces))
      (ap texts (row-read v is) ∙ map-map (λ (c : Cell). c.text) (cell_of v.palette) _ ∙ ap (map (λ (q : Piece). q.text)) same)
      ∙ texts-same (map (λ (q : Piece). q.text) pieces)

  -- each cell of a row is that of its piece
  cell : {k : ℕ} {x : Row} (c : ℕ) → RowAt v g s k x
      → cell_at (rows_of v) (number v g s x) c ≡ Rattle.std.specs.Prelude.slice_index_or (row_cells v.palette v.texts v.width s x) c no_cell
  unfolding cell_at
  cell c is = ap (λ row. Rattle.std.specs.Prelude.slice_index_or row c no_cell) (row-read v is)

  -- ---- where the rows stand

  header-at : RowAt v g s 0 group_header
  unfolding row_list rows
  header-at = record { group = e; name = refl }

  spacer-at : s.sheet.switches.compact ≡ false → RowAt v g s 1 spacer
  unfolding row_list rows
  spacer-at loose = record { group = e; name = rw loose refl }

  body-at : (j : ℕ) (y : Row) → slice_get (body v s) j ≡ Some y → RowAt v g s (length (top v s) + j) y
  unfolding row_list rows
  body-at j y h = record {
    group = e;
    name = at-front (top v s ++ body v s ++ below v s) (end v s) _ y (at-front (top v s ++ body v s) (below v s) _ y (at-back (top v s) (body v s) j ∙ h));
  }

  below-at : (j : ℕ) (y : Row) → slice_get (below v s) j ≡ Some y → RowAt v g s (length (top v s ++ body v s) + j) y
  unfolding row_list rows
  below-at j y h =
      record { group = e; name = at-front (top v s ++ body v s ++ below v s) (end v s) _ y (at-back (top v s ++ body v s) (below v s) j ∙ h) }

  tail-at : s.sheet.switches.compact ≡ false → RowAt v g s (length (top v s ++ body v s ++ below v s) + 0) tail
  unfolding row_list rows
  tail-at loose = record { group = e; name = at-back (top v s ++ body v s ++ below v s) (end v s) 0 ∙ rw loose refl }

  -- the next group begins behind them
  next-start : (placing_of v).start (g + 1) ≡ start_of v g + (length (top v s) + length (body v s) + length (below v s) + length (end v s))
  unfolding row_placing row_list rows
  next-start =
      let next : suc g ≡ g + 1 = omega arith in
      let after = ap (start_of v) next in
      let whole = start-next v.texts v.sections g s e in
      let size = length-append (top v s ++ body v s ++ below v s) (end v s) in
      let three = length-append (top v s ++ body v s) (below v s) in
      let two = length-append (top v s) (body v s) in
      omega (arith, after, whole, size, three, two)

  -- ---- which rows are those of lines

  abbrev of_line : ℕ → Bool
  of_line n = read v is_of_line v.texts g s n

  -- those from the source row of a shown line to the end of its block
  is-of : {l : ℕ} → IsShownLine v g s l → (n : ℕ) → source_row v g l ≤ n → n ≤ source_row v g l + (placing_of v).block_len g l → of_line n ≡ true
  unfolding is_of_line is_in_block shown_lines
  is-of {l} h n low high =
      let there = has-filter (λ l. not (is_hidden_line s.sheet l)) (group_lines s.sheet) (l - first_line s.sheet) l
      (group-line-at s.sheet l h.low h.high) (ap not h.seen) in
      list_any-true _ _ there.place l there.there (elim (cases_lt (source_row v g l) n) [
        | inl more ↦ right-true _ _ (both_true (lt-ltb (source_row v g l) n more) (le-leb n _ high))
        | inr least ↦ left-true _ _ (eq-eqb n (source_row v g l) (omega arith))
      ])

  block-row : {l : ℕ} (j : ℕ) {y : Row} → IsShownLine v g s l → slice_get (shown_rows s.sheet l) j ≡ Some y → of_line (number v g s y) ≡ true
  block-row {l} j {y} h there =
      let n = number-at v (block-row-is v h j y there) in
      let src = source-at v h in
      let long = block-at v h in
      let few = slice_get_within (shown_rows s.sheet l) j y there in
      is-of h (number v g s y) (omega (arith, n, src)) (omega (arith, n, src, long, few))

  line-row : {k : ℕ} (y : Row) → RowAt v g s k y → row_part y ≡ 2 → is_other y ≡ false → of_line (number v g s y) ≡ true
  unfolding row_key is_other
  line-row group_header is part off = absurd (omega (arith, part))
  line-row spacer is part off = absurd (omega (arith, part))
  line-row (source l) is part off =
      let name = name-of v is in
      let h : IsShownLine v g s l = record { group = e; low = name.0; high = name.1; seen = name.2 } in
      let same = source-is v h in
      is-of h (number v g s (source l)) (omega (arith, same)) (omega (arith, same))
  line-row (alternate l r) is part off =
      let name = (name-of v is).0 in
      block-row name.row.place (record { group = e; low = name.low; high = name.high; seen = name.seen }) name.row.there
  line-row (arrow l r) is part off = let q = named-arrow v is (name-of v is) in block-row q.index q.line q.row
  line-row (gap l) is part off = absurd (true≢false off)
  line-row (bare l) is part off = absurd (true≢false off)
  line-row (blank a m) is part off = absurd (true≢false off)
  line-row (piece a m q) is part off = absurd (true≢false off)
  line-row tail is part off = absurd (omega (arith, part))

  -- and no other row is one of a line
  same-row : {k : ℕ} {y z : Row} → RowAt v g s k y → RowAt v g s k z → y ≡ z
  same-row {y = y} {z} a b = let one = a.name in let two = b.name in cc (one, two)

  in-block : {l : ℕ} (z : Row) → IsBlockRow s.sheet l z ⊎ IsLoneRow s.sheet l z → is_other z ≡ false
  unfolding is_other
  in-block z (inr b) = ap is_other b.1
  in-block z (inl b) = elim b.kind [ inl is ↦ ap is_other is | inr is ↦ ap is_other is.0 ]

  off-line : {k : ℕ} (y : Row) → RowAt v g s k y → is_other y ≡ true → {l : ℕ} → IsShownLine v g s l → source_row v g l ≤ start_of v g + k
      → start_of v g + k ≤ source_row v g l + (placing_of v).block_len g l → ⊥
  unfolding is_other
  off-line {k} y is on {l} h low high =
      let src = source-at v h in
      let long = block-at v h in
      elim (cases_lt (rows_above v h) k) [
        | inl more ↦
            let j : ℕ = k - suc (rows_above v h) in
            let z : Row = Rattle.std.specs.Prelude.slice_index_or (shown_rows s.sheet l) j (source l) in
            let there : slice_get (shown_rows s.sheet l) j ≡ Some z =
            slice_get-get_or (shown_rows s.sheet l) j (source l) (omega (arith, src, long, high, more)) in
            let at : rows_above v h + suc j ≡ k = omega (arith, more) in
            let other = in-block z (all-at (λ y. IsBlockRow s.sheet l y ⊎ IsLoneRow s.sheet l y) _ j z there (block-kinds s.sheet l)) in
            true≢false (sym on ∙ ap is_other (same-row is (subst (λ k. RowAt v g s k z) at (block-row-is v h j z there))) ∙ other)
        | inr least ↦
            let at : rows_above v h ≡ k = omega (arith, src, low, least) in
            true≢false (sym on ∙ ap is_other (same-row is (subst (λ k. RowAt v g s k (source l)) at (source-row-is v h))))
      ]

  other-row : {k : ℕ} (y : Row) → RowAt v g s k y → is_other y ≡ true → of_line (start_of v g + k) ≡ false
  unfolding is_of_line is_in_block
  other-row {k} y is on =
      none-any _ (shown_lines s) (every-line v g s _ e (λ l h. false_from_ne_true _ (λ found.
      let n : ℕ = start_of v g + k in
      elim (cases_Bool (n == source_row v g l)) [
        | inl same ↦
            let at = eqb-true n (source_row v g l) same in off-line y is on h (omega (arith, at)) (omega (arith, at))
        | inr apart ↦
            let two = two-true (nat_lt (source_row v g l) n) _ (rw apart at found) in
            let low = ltb-true (source_row v g l) n two.0 in
            off-line y is on h (omega (arith, low)) (leb-true n _ two.1)
      ])))

  -- ---- rows in place of hidden lines

  abbrev set : CharSet
  set = set_of s

  abbrev margin_of : Row → List ℕ
  margin_of x = margin_text set v.width s.display_offset x

  -- a bare row has its margin alone
  bare-margin : {k l : ℕ} → RowAt v g s k (bare l) → read v has_margin s (glyph_text set Vbar) (number v g s (bare l)) ≡ true
  unfolding has_margin row_pieces rest_pieces margin_pieces margin_text
  bare-margin {k} {l} is =
      both_true (both_true (ap is_blank (cell 0 is))
      (pointwise-equal _ _ (ap (λ (c : Cell). unindented c.text) (cell 1 is) ∙ unindented-spaces (v.width + 1) _ (vbar-bare set))))
      (elim (cases_Bool s.sheet.switches.compact) [
        | inl tight ↦ left-true _ _ tight
        | inr loose ↦ right-true _ _ (ap is_blank (cell 2 is) ∙ rw loose refl)
      ])

  bare-length : {k l : ℕ} → RowAt v g s k (bare l) → length (row_at (rows_of v) (number v g s (bare l))) ≡ column_cell s 0
  unfolding row_pieces rest_pieces column_cell
  bare-length {k} {l} is =
      let switches = s.sheet.switches in
      let size = ap length (row-read v is) ∙ length-map _ _ ∙ ap length (append-nil (margin_pieces switches v.width s.display_offset (bare l)))
      ∙ length-margin switches v.width s.display_offset (bare l) in
      omega (arith, size)

  hidden-row : {k : ℕ} (y : Row) → RowAt v g s k y → row_part y ≡ 2 → is_other y ≡ true → read v is_hidden_row v.texts g s (number v g s y) ≡ true
  unfolding is_hidden_row ends_at_cell row_key aside_part is_other margin_text
  hidden-row group_header is part on = absurd (omega (arith, part))
  hidden-row spacer is part on = absurd (omega (arith, part))
  hidden-row (source l) is part on = absurd (true≢false (sym on))
  hidden-row (alternate l r) is part on = absurd (true≢false (sym on))
  hidden-row (arrow l r) is part on = absurd (true≢false (sym on))
  hidden-row (gap l) is part on =
      let size = row-length v (gap-text v is) in
      left-true _ _ (both_true (has-margin v _ (gap-text v is) (unindented-spaces (v.width + 1) _ (gap-bare set))) (eq-eqb _ _ (omega (arith, size))))
  hidden-row (bare l) is part on = right-true _ _ (both_true (bare-margin is) (eq-eqb _ _ (bare-length is)))
  hidden-row (blank help m) is part on = absurd (omega (arith, part))
  hidden-row (blank note m) is part on = absurd (omega (arith, part))
  hidden-row (piece help m q) is part on = absurd (omega (arith, part))
  hidden-row (piece note m q) is part on = absurd (omega (arith, part))
  hidden-row tail is part on = absurd (omega (arith, part))

  -- ---- rows of helps and notes

  with-text : {x : Row} {text : List Piece} → IsTextRow v g s x text → margin_of x ≡ spaces (v.width + 1) ++ glyph_text set Vbar
      → read v is_aside_row v.texts g s (number v g s x) text ≡ true
  unfolding is_aside_row ends_at_cell has_texts
  with-text {x} {text} r margin =
      let texts : List Cell → List (List ℕ) = map (λ (c : Cell). c.text) in
      both_true (both_true (has-margin v _ r (ap unindented margin ∙ unindented-spaces (v.width + 1) _ (vbar-bare set))) (eq-eqb _ _ (row-length v r)))
      (ap (λ t. pointwise is_text t (map (λ (q : Piece). q.text) text)) (ap texts (text-cells v r) ∙ map-map (λ (c : Cell). c.text) (cell_of v.palette) text)
      ∙ texts-same (map (λ (q : Piece). q.text) text))

  aside-row : {k : ℕ} (y : Row) → RowAt v g s k y → IsAside y → read v is_aside_row v.texts g s (number v g s y) (text_pieces v.texts s y) ≡ true
  unfolding IsAside text_pieces row_pieces rest_pieces margin_text
  aside-row {k} (blank a m) is at =
      let margin = margin_pieces s.sheet.switches v.width s.display_offset (blank a m) in
      with-text (record { index = k; is = is; parts = sym (append_assoc margin (gutter_pieces s.sheet (blank a m)) []) }) refl
  aside-row {k} (piece a m q) is at =
      let margin = margin_pieces s.sheet.switches v.width s.display_offset (piece a m q) in
      with-text (record { index = k; is = is; parts = sym (append_assoc margin (gutter_pieces s.sheet (piece a m q)) (aside_pieces v.texts a m q)) }) refl
  aside-row group_header is at = absurd at
  aside-row spacer is at = absurd at
  aside-row (source l) is at = absurd at
  aside-row (alternate l r) is at = absurd at
  aside-row (arrow l r) is at = absurd at
  aside-row (gap l) is at = absurd at
  aside-row (bare l) is at = absurd at
  aside-row tail is at = absurd at

  aside-other : (y : Row) → IsAside y → is_other y ≡ true
  unfolding IsAside is_other
  aside-other (blank a m) at = refl
  aside-other (piece a m q) at = refl
  aside-other group_header at = absurd at
  aside-other spacer at = absurd at
  aside-other (source l) at = absurd at
  aside-other (alternate l r) at = absurd at
  aside-other (arrow l r) at = absurd at
  aside-other (gap l) at = absurd at
  aside-other (bare l) at = absurd at
  aside-other tail at = absurd at

  -- ---- the rows between the first ones and the last

  abbrev first : ℕ
  first = start_of v g + length (top v s)

  abbrev behind : ℕ
  behind = first + length (body v s)

  abbrev loose_row : ℕ → Bool
  loose_row n = not (of_line n)

  others-are : read v others v.texts g s ≡ filter loose_row (range_with_len first (length (body v s))) ++ range_with_len behind (length (below v s))
  unfolding others row_placing
  others-are =
      let compact = s.sheet.switches.compact in
      let frame : ℕ = if compact then 0 else 1 in
      let round = frames compact in
      let one = round.0 in
      let last = round.1 in
      let after = next-start in
      let from : (placing_of v).start g + 1 + frame ≡ first = omega (arith, one) in
      let many : (placing_of v).start (g + 1) - frame - ((placing_of v).start g + 1 + frame) ≡ length (body v s) + length (below v s) =
      omega (arith, one, last, after) in
      (λ i. filter loose_row (range_with_len (from i) (many i)))
      ∙ ap (filter loose_row) (range-append first (length (body v s)) (length (below v s)))
      ∙ filter-append loose_row (range_with_len first (length (body v s))) (range_with_len behind (length (below v s)))
      ∙ ap (λ t. filter loose_row (range_with_len first (length (body v s))) ++ t)
      (filter-all loose_row (range_with_len behind (length (below v s))) (all-range _ behind (length (below v s)) (λ j less.
      let y : Row = Rattle.std.specs.Prelude.slice_index_or (below v s) j tail in
      let there : slice_get (below v s) j ≡ Some y = slice_get-get_or (below v s) j tail less in
      let is = below-at j y there in
      let size = length-append (top v s) (body v s) in
      let n : start_of v g + (length (top v s ++ body v s) + j) ≡ behind + j = omega (arith, size) in
      subst (λ n. loose_row n ≡ true) n (ap not (other-row y is (aside-other y (all-at IsAside (below v s) j y there (all-below v s))))))))

  -- those of lines are in place of hidden ones
  hidden-rows : list_all (read v is_hidden_row v.texts g s) (filter loose_row (range_with_len first (length (body v s)))) ≡ true
  unfolding group_lines
  hidden-rows =
      list_all-true _ _ (all-filtered _ loose_row _ (all-range _ first (length (body v s)) (λ j less loose.
      let y : Row = Rattle.std.specs.Prelude.slice_index_or (body v s) j tail in
      let there : slice_get (body v s) j ≡ Some y = slice_get-get_or (body v s) j tail less in
      let is = body-at j y there in
      let at = number-at v is in
      let n : number v g s y ≡ first + j = omega (arith, at) in
      let part = (all-at (FromLine 2 (first_line s.sheet)) (body v s) j y there (lines-from s.sheet (first_line s.sheet) _)).part in
      subst (λ n. read v is_hidden_row v.texts g s n ≡ true) n (elim (cases_Bool (is_other y)) [
        | inl on ↦ hidden-row y is part on
        | inr off ↦
            absurd (true≢false (sym (subst (λ n. loose_row n ≡ true) (sym n) loose) ∙ ap not (line-row y is part off)))
      ]))))

  -- and the others those of helps and notes
  aside-rows : pointwise (read v is_aside_row v.texts g s) (range_with_len behind (length (below v s))) (map (text_pieces v.texts s) (below v s)) ≡ true
  aside-rows =
      pointwise-range (read v is_aside_row v.texts g s) (text_pieces v.texts s) behind (below v s) (λ j y there.
      let is = below-at j y there in
      let at = number-at v is in
      let size = length-append (top v s) (body v s) in
      let n : number v g s y ≡ behind + j = omega (arith, at, size) in
      subst (λ n. read v is_aside_row v.texts g s n (text_pieces v.texts s y) ≡ true) n
      (aside-row y is (all-at IsAside (below v s) j y there (all-below v s))))

  own-others : read v has_own_others v.texts g s ≡ true
  unfolding has_own_others
  own-others =
      split-passes (read v is_hidden_row v.texts g s) (read v is_aside_row v.texts g s) _ _ _ _ _ others-are (below-is v s)
      (length-range_with_len behind (length (below v s)) ∙ sym (length-map (below v s) (text_pieces v.texts s))) hidden-rows aside-rows

  -- ---- the first rows of the group and its last one

  header-text : (cell_at (rows_of v) (number v g s group_header) 0).text ≡ spaces (v.width + 2)
  unfolding row_pieces group_header_pieces
  header-text = ap (λ (c : Cell). c.text) (cell 0 header-at)

  header-start : number v g s group_header ≡ (placing_of v).start g
  unfolding row_placing
  header-start = let at = number-at v header-at in omega (arith, at)

  -- its width is that of the numbers
  digits-are : length (cell_at (rows_of v) ((placing_of v).start g) 0).text - 2 ≡ v.width
  digits-are =
      let wide = ap (λ n. length (cell_at (rows_of v) n 0).text) (sym header-start) ∙ ap length header-text ∙ spaces-length (v.width + 2) in
      omega (arith, wide)

  -- the rows that stand first and last, where the clause looks for them
  stands : {k : ℕ} {x : Row} (f : ℕ → List Piece) (n : ℕ) → RowAt v g s k x → number v g s x ≡ n → row_pieces v.texts v.width s x ≡ f v.width
      → read v has_texts v.texts n 0 (f (length (cell_at (rows_of v) ((placing_of v).start g) 0).text - 2)) ≡ true
  stands f n is at pieces =
      (λ i. read v has_texts v.texts (sym at i) 0 (f (digits-are i))) ∙ has-pieces (f v.width) is pieces

  framed : read v is_framed v.texts g s ≡ true
  unfolding is_framed row_pieces
  framed = both_true (stands (group_header_pieces s) _ header-at header-start refl) (elim (cases_Bool s.sheet.switches.compact) [
    | inl tight ↦ left-true _ _ tight
    | inr loose ↦
        let second = number-at v (spacer-at loose) in
        let top_at = number-at v header-at in
        let top_is = header-start in
        let at = number-at v (tail-at loose) in
        let after = next-start in
        let one : length (end v s) ≡ 1 = rw loose refl in
        let size = length-append (top v s ++ body v s) (below v s) in
        let two = length-append (top v s) (body v s) in
        right-true _ _ (both_true (stands (spacer_pieces set) _ (spacer-at loose) (omega (arith, second, top_at, top_is)) refl)
        (stands (λ digits. tail_pieces set digits s.is_last) _ (tail-at loose) (omega (arith, at, after, one, size, two)) refl))
  ])

-- a picture with the header of its texts has the other rows
pub other-rows : (v : Picture) → v.header ≡ map (cell_of v.palette) (header_pieces v.texts) → read v has_other_rows v.texts ≡ true
unfolding has_other_rows has_texts row_at
other-rows v same =
    let texts : List Piece → List (List ℕ) = map (λ (q : Piece). q.text) in
    both_true (ap (λ row. pointwise is_text (map (λ (c : Cell). c.text) row) (texts (header_pieces v.texts))) same
    ∙ ap (λ t. pointwise is_text t (texts (header_pieces v.texts))) (map-map (λ (c : Cell). c.text) (cell_of v.palette) (header_pieces v.texts))
    ∙ texts-same (texts (header_pieces v.texts)))
    (every-group v _ (λ g s e. both_true (framed v g s e) (own-others v g s e)))
