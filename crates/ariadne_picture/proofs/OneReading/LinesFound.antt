-- Source rows are the rows with a number in their margin; so each placing finds the same.
use Rattle.std.proofs.Common.{◌≡◌, ◌≢◌, ℕ, zero, suc, ◌+◌, ◌/◌, ◌%◌, ◌<◌, ◌≤◌, Bool, true, false, not, ◌&&◌, List, [], ◌∷◌, ◌++◌, length, map, take}
use Rattle.std.proofs.Common.{Some, refl, sym, ap, ◌∙◌, subst, arith, ◌==◌, inl, inr, nat_lt, if◌then◌else◌}
use Rattle.std.specs.Prelude.{option_map, slice_get, slice_index_or, nat_le, nat_eq, decimal, codes}
use Rattle.std.specs.Fmt.{digits, digits_onto, digit_glyph}
use Rattle.std.specs.List.{AllByRecursion, list_all, enumerate_from}
use Rattle.std.specs.Cmp.Lexicographic.{pointwise}
use Rattle.std.proofs.lemmas.Bool.{cond_both, cond-true, cases_lt, cases_eq, eqb-true, ltb-true, le-leb, leb-true, lt-ltb, true≢false}
use Rattle.std.proofs.lemmas.Option.{slice_get_read, slice_get-map}
use Rattle.std.proofs.lemmas.List.{length-map}
use Rattle.ariadne_picture.specs.declared.switches.CharSet.{CharSet}
use Rattle.ariadne_picture.specs.declared.switches.CharSet.TheVariants.{Unicode, Ascii}
use Rattle.ariadne_picture.specs.declared.cell.Glyph.{Glyph}
use Rattle.ariadne_picture.specs.declared.cell.Glyph.TheVariants.{Blank, Vbar, VbarGap, Ltop, Lcross}
use Rattle.ariadne_picture.specs.Lists.{joined, total}
use Rattle.ariadne_picture.specs.Groups.{printed_number}
use Rattle.ariadne_picture.specs.Ranks.{is_hidden_line}
use Rattle.ariadne_picture.specs.Rows.{Row, group_header, spacer, source, gap, tail}
use Rattle.ariadne_picture.specs.Cells.{glyph_code}
use Rattle.ariadne_picture.specs.Pieces.{Texts, Section, spaces, glyph_text, margin_text, margin_pieces, row_pieces, group_header_pieces, spacer_pieces, tail_pieces}
use Rattle.ariadne_picture.specs.Canvas.{Cell, Palette, cell_of}
use Rattle.ariadne_picture.proofs.Cells.CanvasRows.{row_cells}
use Rattle.ariadne_picture.proofs.Reading.RowNames.{name-of}
use Rattle.ariadne_picture.proofs.Reading.Placed.{rows-placed}
use Rattle.ariadne_picture.specs.Placing.Cells.{no_cell, is_text}
use Rattle.ariadne_picture.specs.Placing.Group.{shown_lines}
use Rattle.ariadne_picture.specs.Placing.Rows.{Placing, row_at, cell_at}
use Rattle.ariadne_picture.specs.Placing.Together.{unindented, is_in_group, is_source_row, is_line_placed, is_group_placed, is_placing, all_pairs, has_margin}
use Rattle.ariadne_picture.proofs.Lists.ListFacts.{none≢some, all-weaker, all-at, all-map, all-append, Increasing, increasing-append}
use Rattle.ariadne_picture.proofs.Lists.Elements.{Has, has-map, has-joined, has-filter}
use Rattle.ariadne_picture.proofs.Rows.RowNumbers.{at-part, start-first, start-last}
use Rattle.ariadne_picture.proofs.Cells.MarginTexts.{BeginsBare, unindented-spaces, vbar-bare}
use Rattle.ariadne_picture.proofs.Reading.MessagePlaces.{two-true}
use Rattle.ariadne_picture.proofs.Reading.Pictures.{Picture, RowAt, rows_of, placing_of, number, start_of, row-there}
use Rattle.ariadne_picture.proofs.Reading.ShownLine.{numbered-at, IsShownLine, source-is, group-line-at}
use Rattle.ariadne_picture.proofs.Reading.TextRows.{row-read}
use Rattle.ariadne_picture.specs.Readings.{AgreeOnLines}
use Rattle.ariadne_picture.specs.ReadBack.Rows.{begins_with_digit}

-- ---- tests that pass

pub list_all-from : {X : Type 0} (test : X → Bool) (xs : List X) → list_all test xs ≡ true → AllByRecursion (λ x. test x ≡ true) xs
list_all-from test [] e = tt
list_all-from test (x ∷ xs) e = let two = two-true (test x) (list_all test xs) e in (two.0, list_all-from test xs two.1)

pub text-equal : (a b : List ℕ) → is_text a b ≡ true → a ≡ b
text-equal [] [] e = refl
text-equal [] (y ∷ b) e = absurd (true≢false (sym e))
text-equal (x ∷ a) [] e = absurd (true≢false (sym e))
text-equal (x ∷ a) (y ∷ b) e =
    let two = two-true (nat_eq x y) (pointwise nat_eq a b) e in
    let same = eqb-true x y two.0 in let rest = text-equal a b two.1 in λ i. same i ∷ rest i

-- ---- numbers that rise

abbrev Rises : List ℕ → Type 0
Rises = Increasing (λ (n m : ℕ). n < m)

rises-from : (ns : List ℕ) → all_pairs nat_lt ns ≡ true → Rises ns
unfolding all_pairs
rises-from [] e = tt
rises-from (n ∷ ns) e =
    let two = two-true (list_all (λ m. nat_lt n m) ns) (all_pairs nat_lt ns) e in
    (all-weaker _ (λ m. n < m) ns (λ m h. ltb-true n m h) (list_all-from (λ m. nat_lt n m) ns two.0), rises-from ns two.1)

-- what is not the first element is one of the others
not-first : (y z : ℕ) (ys : List ℕ) → Has (y ∷ ys) z → y ≢ z → Has ys z
not-first y z ys h differ = go h.place h.there
  where
    go : (k : ℕ) → slice_get (y ∷ ys) k ≡ Some z → Has ys z
    go zero e = absurd (differ (cc))
    go (suc k) e = record { place = k; there = e }

-- of numbers that rise, those behind one that is in y ∷ ys are in ys
behind-first : (x y : ℕ) (xs ys : List ℕ) → y ≤ x → AllByRecursion (λ z. x < z) xs → AllByRecursion (Has (y ∷ ys)) xs → AllByRecursion (Has ys) xs
behind-first x y [] ys low a b = tt
behind-first x y (z ∷ xs) ys low a b =
    let more = a.0 in (not-first y z ys b.0 (λ e. omega arith), behind-first x y xs ys low a.1 b.1)

-- an element of numbers that rise is no less than the first
least-first : (x y : ℕ) (ys : List ℕ) → Rises (y ∷ ys) → Has (y ∷ ys) x → y ≤ x
least-first x y ys i h = elim (cases_eq y x) [
  | inl same ↦ omega arith
  | inr differ ↦
      let later = not-first y x ys h differ in
      let less = all-at (λ z. y < z) ys later.place x later.there i.0 in omega arith
]

-- numbers that rise and are among others that rise are no more
fewer : (ys xs : List ℕ) → Rises xs → Rises ys → AllByRecursion (Has ys) xs → length xs ≤ length ys
fewer [] [] i j a = omega arith
fewer [] (x ∷ xs) i j a = absurd (none≢some x a.0.there)
fewer (y ∷ ys) [] i j a = omega arith
fewer (y ∷ ys) (x ∷ xs) i j a =
    let low = least-first x y ys j a.0 in
    elim (cases_eq y x) [
      | inl same ↦ let more = fewer ys xs i.1 j.1 (behind-first x y xs ys low i.0 a.1) in omega arith
      | inr differ ↦
          let more = fewer ys (x ∷ xs) i j.1 (not-first y x ys a.0 differ, behind-first x y xs ys low i.0 a.1) in omega arith
    ]

-- and where they are as many they are the same
same-rising : (ys xs : List ℕ) → Rises xs → Rises ys → AllByRecursion (Has ys) xs → length xs ≡ length ys → xs ≡ ys
same-rising [] [] i j a e = refl
same-rising [] (x ∷ xs) i j a e = absurd (none≢some x a.0.there)
same-rising (y ∷ ys) [] i j a e = absurd (omega arith)
same-rising (y ∷ ys) (x ∷ xs) i j a e =
    let low = least-first x y ys j a.0 in
    elim (cases_eq y x) [
      | inl same ↦
          let rest = same-rising ys xs i.1 j.1 (behind-first x y xs ys low i.0 a.1) (omega arith) in λ k. sym same k ∷ rest k
      | inr differ ↦
          let more = fewer ys (x ∷ xs) i j.1 (not-first y x ys a.0 differ, behind-first x y xs ys low i.0 a.1) in absurd (omega arith)
    ]

-- ---- margins with a number

-- a cell shows blanks and then a digit
abbrev is_numbered : Cell → Bool
is_numbered c = begins_with_digit (unindented c.text)

digit-begins : (d : ℕ) (t : List ℕ) → d < 10 → begins_with_digit (digit_glyph false d ∷ t) ≡ true
unfolding begins_with_digit
digit-begins d t h =
    let is : digit_glyph false d ≡ 48 + d = cond-true (nat_lt d 10) (48 + d) (87 + d) (lt-ltb d 10 h) in
    let low = le-leb 48 (48 + d) (omega arith) in
    let high = le-leb (48 + d) 57 (omega arith) in
    rw (is, low, high) refl

digits-begin : (k n d : ℕ) (t : List ℕ) → d < 10 → (u : List ℕ) → begins_with_digit (digits_onto k 10 false n (digit_glyph false d ∷ t) ++ u) ≡ true
digits-begin zero n d t h u = digit-begins d (t ++ u) h
digits-begin (suc k) n d t h u =
    let less : n % 10 < 10 = omega arith in
    let more : List ℕ = digit_glyph false (n % 10) ∷ digit_glyph false d ∷ t in
    cond_both (n / 10 == 0) more (digits_onto k 10 false (n / 10) more) (λ s. begins_with_digit (s ++ u) ≡ true)
    (λ _. digit-begins (n % 10) (digit_glyph false d ∷ t ++ u) less) (λ _. digits-begin k (n / 10) (n % 10) (digit_glyph false d ∷ t) less u)

pub decimal-begins : (n : ℕ) (u : List ℕ) → begins_with_digit (decimal n ++ u) ≡ true
unfolding digits
decimal-begins n u =
    let less : n % 10 < 10 = omega arith in
    cond_both (n / 10 == 0) (digit_glyph false (n % 10) ∷ []) (digits_onto 63 10 false (n / 10) (digit_glyph false (n % 10) ∷ []))
    (λ s. begins_with_digit (s ++ u) ≡ true)
    (λ _. digit-begins (n % 10) u less) (λ _. digits-begin 63 (n / 10) (n % 10) [] less u)

-- ---- the lines of a placing

-- the source rows of the shown lines, group by group from group a on
abbrev lines_from : Placing → ℕ → List Section → List ℕ
lines_from p a ss = joined (λ e. map (p.source_row e.0) (shown_lines e.1)) (enumerate_from a ss)

-- what a placing says of a group's lines
record IsGroup (rows : List (List Cell)) (groups : List Section) (p : Placing) (e : ℕ × Section) : Type 0 where
  low : p.start e.0 ≤ p.start (e.0 + 1)
  rises : Rises (map (p.source_row e.0) (shown_lines e.1))
  lines : AllByRecursion (λ l. (p.start e.0 ≤ p.source_row e.0 l) × (p.source_row e.0 l < p.start (e.0 + 1))
      × (is_numbered (cell_at rows (p.source_row e.0 l) 1) ≡ true)) (shown_lines e.1)

module _ (rows : List (List Cell)) (groups : List Section) (p : Placing) where
  -- a source row has its number in the margin
  source-numbered : (s : Section) (l n : ℕ) → is_source_row rows groups p s l n ≡ true → is_numbered (cell_at rows n 1) ≡ true
  unfolding is_source_row has_margin
  source-numbered s l n e =
      let number : List ℕ = decimal (printed_number s.display_offset l) in
      let bar : List ℕ = glyph_text s.sheet.switches.char_set Vbar in
      let margin = two-true (has_margin rows groups p s (number ++ codes " " ++ bar) n) _ e in
      let front = two-true _ _ margin.0 in
      let two = two-true _ (is_text (unindented (cell_at rows n 1).text) (number ++ codes " " ++ bar)) front.0 in
      let text = text-equal (unindented (cell_at rows n 1).text) (number ++ codes " " ++ bar) two.1 in
      let group = Rattle.std.proofs.Common.append_assoc number (codes " ") bar in
      ap begins_with_digit (text ∙ group) ∙ decimal-begins (printed_number s.display_offset l) (codes " " ++ bar)

  line-from : (g : ℕ) (s : Section) (l : ℕ) → is_line_placed rows groups p g s l ≡ true
      → (p.start g ≤ p.source_row g l) × (p.source_row g l < p.start (g + 1)) × (is_numbered (cell_at rows (p.source_row g l) 1) ≡ true)
  unfolding is_line_placed is_in_group
  line-from g s l e =
      let all = two-true (is_in_group rows groups p g (p.source_row g l) && is_source_row rows groups p s l (p.source_row g l)) _ e in
      let both = two-true (is_in_group rows groups p g (p.source_row g l)) (is_source_row rows groups p s l (p.source_row g l)) all.0 in
      let in_group = two-true (nat_le (p.start g) (p.source_row g l)) (nat_lt (p.source_row g l) (p.start (g + 1))) both.0 in
      (leb-true _ _ in_group.0, ltb-true _ _ in_group.1, source-numbered s l (p.source_row g l) both.1)

  group-from : (e : ℕ × Section) → is_group_placed rows groups p e.0 e.1 ≡ true → IsGroup rows groups p e
  unfolding is_group_placed
  group-from e h =
      let a = two-true _ _ h in
      let b = two-true _ _ a.0 in
      let c = two-true _ _ b.0 in
      let d = two-true _ _ c.0 in
      record {
        low = leb-true _ _ d.0;
        rises = rises-from _ d.1;
        lines = all-weaker _ _ (shown_lines e.1) (λ l x. line-from e.0 e.1 l x) (list_all-from _ _ c.1);
      }

  -- ---- all lines

  -- from group a on the lines rise from the first row of that group on, up to the last row
  lines-rise : (a : ℕ) (ss : List Section) → AllByRecursion (IsGroup rows groups p) (enumerate_from a ss)
      → Rises (lines_from p a ss) × AllByRecursion (λ n. (p.start a ≤ n) × (n < p.start (a + length ss)) × (is_numbered (cell_at rows n 1) ≡ true)) (lines_from p a ss)
  unfolding joined
  lines-rise a [] h = (tt, tt)
  lines-rise a (s ∷ ss) h =
      let here = h.0 in
      let low = here.low in
      let rest = lines-rise (a + 1) ss h.1 in
      let end : a + 1 + length ss ≡ a + suc (length ss) = omega arith in
      let last = starts-rise (a + 1) ss h.1 in
      let same = ap p.start end in
      let first : AllByRecursion (λ n. (p.start a ≤ n) × (n < p.start (a + 1)) × (is_numbered (cell_at rows n 1) ≡ true)) (map (p.source_row a) (shown_lines s)) =
      all-map _ (p.source_row a) (shown_lines s) here.lines in (
        increasing-append (λ (n m : ℕ). n < m) (λ n. n < p.start (a + 1)) (λ n. p.start (a + 1) ≤ n) _ _ (λ n m x y. omega arith)
            (all-weaker _ _ _ (λ n x. x.1) first) (all-weaker _ _ _ (λ n x. x.0) rest.1) here.rises rest.0,
        all-append _ (map (p.source_row a) (shown_lines s)) _
            (all-weaker _ _ _ (λ n x. let less = x.1 in (x.0, omega (arith, less, last, same), x.2)) first)
            (all-weaker _ _ _ (λ n x. let from = x.0 in let less = x.1 in (omega (arith, from, low), omega (arith, less, same), x.2)) rest.1),
      )
    where
      starts-rise : (b : ℕ) (ts : List Section) → AllByRecursion (IsGroup rows groups p) (enumerate_from b ts) → p.start b ≤ p.start (b + length ts)
      starts-rise b [] k = let z : b ≡ b + 0 = omega arith in let same = ap p.start z in omega (arith, same)
      starts-rise b (t ∷ ts) k =
          let here = k.0.low in
          let more = starts-rise (b + 1) ts k.1 in
          let z : b + 1 + length ts ≡ b + suc (length ts) = omega arith in
          let same = ap p.start z in omega (arith, here, more, same)

  -- as many as there are lines
  lines-count : (a : ℕ) (ss : List Section) → length (lines_from p a ss) ≡ total (λ (s : Section). length (shown_lines s)) ss
  unfolding joined total
  lines-count a [] = refl
  lines-count a (s ∷ ss) =
      Rattle.std.proofs.lemmas.List.length-append (map (p.source_row a) (shown_lines s)) (lines_from p (a + 1) ss)
      ∙ (λ i. length-map (shown_lines s) (p.source_row a) i + lines-count (a + 1) ss i)

  record IsPlaced : Type 0 where
    first : p.start 0 ≡ 1
    last : p.start (length groups) ≡ length rows
    each : AllByRecursion (IsGroup rows groups p) (enumerate_from 0 groups)

  placed-from : is_placing rows groups p ≡ true → IsPlaced
  unfolding is_placing
  placed-from h =
      let a = two-true _ _ h in
      let b = two-true _ _ a.0 in
      let c = two-true _ _ b.0 in
      record { first = eqb-true _ _ c.0; last = eqb-true _ _ c.1; each = all-weaker _ _ _ (λ e x. group-from e x) (list_all-from _ _ b.1) }

-- ---- margins without a number

-- no stroke begins with a digit
glyph-unnumbered : (set : CharSet) (glyph : Glyph) → begins_with_digit (unindented (glyph_text set glyph)) ≡ false
unfolding glyph_text glyph_code lib.Utf8.encode unindented begins_with_digit
glyph-unnumbered Unicode Blank = refl
glyph-unnumbered Ascii Blank = refl
glyph-unnumbered Unicode glyph = refl
glyph-unnumbered Ascii glyph = refl

pub glyph-no-digit : (set : CharSet) (glyph : Glyph) → begins_with_digit (glyph_text set glyph) ≡ false
unfolding glyph_text glyph_code lib.Utf8.encode begins_with_digit
glyph-no-digit Unicode Blank = refl
glyph-no-digit Ascii Blank = refl
glyph-no-digit Unicode glyph = refl
glyph-no-digit Ascii glyph = refl

-- nor does nothing
nothing-unnumbered : begins_with_digit (unindented []) ≡ false
unfolding unindented begins_with_digit
nothing-unnumbered = refl

gap-bare : (set : CharSet) → BeginsBare (glyph_text set VbarGap)
unfolding glyph_text glyph_code lib.Utf8.encode
gap-bare Unicode = record { first = 0xE2; rest = 0x94 ∷ 0x86 ∷ []; is = refl; bare = λ e. omega arith }
gap-bare Ascii = record { first = 0x3A; rest = []; is = refl; bare = λ e. omega arith }

-- nor do blanks in front of one
spaced-unnumbered : (set : CharSet) (glyph : Glyph) (n : ℕ) → BeginsBare (glyph_text set glyph)
    → begins_with_digit (unindented (spaces n ++ glyph_text set glyph)) ≡ false
spaced-unnumbered set glyph n h = ap begins_with_digit (unindented-spaces n (glyph_text set glyph) h) ∙ glyph-no-digit set glyph

-- a row that is no source row
abbrev IsOther : Row → Type 0
IsOther (source l) = ⊥
IsOther x = Unit {0}

margin-unnumbered : (set : CharSet) (w display_offset : ℕ) (x : Row) → IsOther x → begins_with_digit (unindented (margin_text set w display_offset x)) ≡ false
unfolding margin_text
margin-unnumbered set w display_offset (source l) h = absurd h
margin-unnumbered set w display_offset (gap l) h = spaced-unnumbered set VbarGap (w + 1) (gap-bare set)
margin-unnumbered set w display_offset x h = spaced-unnumbered set Vbar (w + 1) (vbar-bare set)

tail-unnumbered : (palette : Palette) (set : CharSet) (w : ℕ) (is_last : Bool)
    → is_numbered (slice_index_or (map (cell_of palette) (tail_pieces set w is_last)) 1 no_cell) ≡ false
unfolding tail_pieces spacer_pieces
tail-unnumbered palette set w false = glyph-unnumbered set Vbar
tail-unnumbered palette set w true = nothing-unnumbered

pub row-unnumbered : (palette : Palette) (t : Texts) (w : ℕ) (s : Section) (x : Row) → IsOther x
    → is_numbered (slice_index_or (map (cell_of palette) (row_pieces t w s x)) 1 no_cell) ≡ false
unfolding row_pieces group_header_pieces spacer_pieces margin_pieces
row-unnumbered palette t w s group_header h = glyph-unnumbered s.sheet.switches.char_set (if s.is_first then Ltop else Lcross)
row-unnumbered palette t w s spacer h = glyph-unnumbered s.sheet.switches.char_set Vbar
row-unnumbered palette t w s tail h = tail-unnumbered palette s.sheet.switches.char_set w s.is_last
row-unnumbered palette t w s x h = margin-unnumbered s.sheet.switches.char_set w s.display_offset x h

-- ---- a picture

pub section-at : (ss : List Section) (m : ℕ) → m < length ss → (s : Section) × (slice_get ss m ≡ Some s)
section-at [] m h = absurd (omega arith)
section-at (s ∷ ss) zero h = (s, refl)
section-at (s ∷ ss) (suc m) h = section-at ss m (omega arith)

-- row n stands in group g, which is s
pub record IsWithin (v : Picture) (n : ℕ) : Type 0 where
  pub group : ℕ
  pub section : Section
  pub there : slice_get v.sections group ≡ Some section
  pub low : start_of v group ≤ n
  pub high : n < start_of v (suc group)

module _ (v : Picture) where
  pub group-of : (n m : ℕ) → m ≤ length v.sections → 1 ≤ n → n < start_of v m → IsWithin v n
  group-of n zero few low high = let first = start-first v.texts v.sections in absurd (omega arith)
  group-of n (suc m) few low high = elim (cases_lt n (start_of v m)) [
    | inl less ↦ group-of n m (omega arith) low less
    | inr least ↦ let s = section-at v.sections m (omega arith) in record { group = m; section = s.0; there = s.1; low = least; high = high }
  ]

  -- its cell behind the blank
  cell-one : {g : ℕ} {s : Section} {k : ℕ} {x : Row} → RowAt v g s k x
      → cell_at (rows_of v) (number v g s x) 1 ≡ slice_index_or (map (cell_of v.palette) (row_pieces v.texts v.width s x)) 1 no_cell
  unfolding cell_at
  cell-one is = ap (λ row. slice_index_or row 1 no_cell) (row-read v is)

  -- a source row is one of the lines
  line-there : (g : ℕ) (s : Section) (k l : ℕ) → RowAt v g s k (source l) → Has (lines_from (placing_of v) 0 v.sections) (number v g s (source l))
  unfolding shown_lines
  line-there g s k l is =
      let name = name-of v is in
      let h : IsShownLine v g s l = record { group = is.group; low = name.0; high = name.1; seen = name.2 } in
      let line = has-filter (λ l. not (is_hidden_line s.sheet l)) _ _ l (group-line-at s.sheet l name.0 name.1) (ap not name.2) in
      subst (Has (lines_from (placing_of v) 0 v.sections)) (source-is v h)
      (has-joined (λ e. map ((placing_of v).source_row e.0) (shown_lines e.1)) (enumerate_from 0 v.sections) g (g, s) _ (numbered-at _ g s is.group)
      (has-map ((placing_of v).source_row g) (shown_lines s) line.place l line.there))

  -- so is each row with a number
  numbered-there : (n : ℕ) → 1 ≤ n → n < length (rows_of v) → is_numbered (cell_at (rows_of v) n 1) ≡ true → Has (lines_from (placing_of v) 0 v.sections) n
  numbered-there n low high shows =
      let last = start-last v.texts v.sections (row_cells v.palette v.texts v.width) v.header in
      let w = group-of n (length v.sections) (omega arith) low (omega arith) in
      let row = row-there v w.group n w.section w.there w.low w.high in
      subst (Has (lines_from (placing_of v) 0 v.sections)) row.3 (go w.group w.section row.0 row.1 row.2 (rw row.3 shows))
    where
      go : (g : ℕ) (s : Section) (k : ℕ) (x : Row) → RowAt v g s k x → is_numbered (cell_at (rows_of v) (number v g s x) 1) ≡ true
          → Has (lines_from (placing_of v) 0 v.sections) (number v g s x)
      go g s k (source l) is e = line-there g s k l is
      go g s k x is e = absurd (true≢false (sym e ∙ ap is_numbered (cell-one is) ∙ row-unnumbered v.palette v.texts v.width s x tt))

  -- so a placing finds the lines that the names of the rows give
  pub only-lines : (p : Placing) → is_placing (rows_of v) v.sections p ≡ true → lines_from p 0 v.sections ≡ lines_from (placing_of v) 0 v.sections
  unfolding cell_at row_at
  only-lines p e =
      let h = placed-from (rows_of v) v.sections p e in
      let k = placed-from (rows_of v) v.sections (placing_of v) (rows-placed v) in
      let mine = lines-rise (rows_of v) v.sections p 0 v.sections h.each in
      let named = lines-rise (rows_of v) v.sections (placing_of v) 0 v.sections k.each in
      let first = h.first in
      let last = h.last in
      let z : 0 + length v.sections ≡ length v.sections = omega arith in
      let end = ap p.start z in
      same-rising (lines_from (placing_of v) 0 v.sections) (lines_from p 0 v.sections) mine.0 named.0
      (all-weaker _ _ _ (λ n x. let low = x.0 in let high = x.1 in numbered-there n (omega arith) (omega (arith, end)) x.2) mine.1)
      (lines-count (rows_of v) v.sections p 0 v.sections ∙ sym (lines-count (rows_of v) v.sections (placing_of v) 0 v.sections))

-- equal lists of lines are equal line by line
pub lines-agree : (p q : Placing) (ss : List Section) → lines_from p 0 ss ≡ lines_from q 0 ss → (g : ℕ) (s : Section) (j l : ℕ) → slice_get ss g ≡ Some s
    → slice_get (shown_lines s) j ≡ Some l → p.source_row g l ≡ q.source_row g l
lines-agree p q ss e g s j l d f =
    let lines : Placing → ℕ × Section → List ℕ = λ p e. map (p.source_row e.0) (shown_lines e.1) in
    let at : (p : Placing) → slice_get (lines_from p 0 ss) (total (λ e. length (lines p e)) (take g (enumerate_from 0 ss)) + j) ≡ Some (p.source_row g l) =
    λ p. at-part (lines p) (enumerate_from 0 ss) g j (g, s) (p.source_row g l) (numbered-at ss g s d)
    (slice_get-map (p.source_row g) (shown_lines s) j ∙ ap (option_map (p.source_row g)) f) in
    let size : (p : Placing) → total (λ (e : ℕ × Section). length (lines p e)) (take g (enumerate_from 0 ss))
    ≡ total (λ (e : ℕ × Section). length (shown_lines e.1)) (take g (enumerate_from 0 ss)) =
    λ p. λ i. total (λ (e : ℕ × Section). length-map (shown_lines e.1) (p.source_row e.0) i) (take g (enumerate_from 0 ss)) in
    let same : Some (p.source_row g l) ≡ Some (q.source_row g l) =
    sym (at p) ∙ (λ i. slice_get (e i) ((size p ∙ sym (size q)) i + j)) ∙ at q in
    cc

-- so each two placings of a picture find the same row for each line
pub same-lines : (v : Picture) (p q : Placing) → is_placing (rows_of v) v.sections p ≡ true → is_placing (rows_of v) v.sections q ≡ true
    → AgreeOnLines v.sections p q
same-lines v p q d e g s l f has =
    lines-agree p q v.sections (only-lines v p d ∙ sym (only-lines v q e)) g s has.0 l f (slice_get_read (shown_lines s) (length (shown_lines s)) has.0 l refl has.1 (sym has.2))
