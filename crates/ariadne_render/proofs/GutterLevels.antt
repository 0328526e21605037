-- The rows of a gutter that a horizontal goes through: what each column shows, and runs of it that are not yet written.
use Rattle.std.proofs.Common.{◌≡◌, ℕ, zero, suc, ◌+◌, ◌-◌, ◌*◌, ◌<◌, ◌≤◌, true, false, List, [], ◌++◌, replicate, length, get_or}
use Rattle.std.proofs.Common.{refl, sym, ap, ◌∙◌, arith, append_assoc, eq-eqb, ◌==◌, nat_lt, inl, inr}
use Rattle.std.proofs.lemmas.Bool.{ne_eqb, cases_Bool, lt-ltb, le-ltb}
use Rattle.std.proofs.lemmas.List.{append-nil, get_or_past, replicate-append-replicate}
use Rattle.ariadne_color.specs.Colors.{painted}
use Rattle.ariadne_picture.specs.declared.cell.Glyph.{Glyph}
use Rattle.ariadne_picture.specs.declared.cell.Glyph.TheVariants.{Blank, Hbar, Vbar, Xbar, Rarrow}
use Rattle.ariadne_picture.specs.declared.cell.Ink.{Ink}
use Rattle.ariadne_picture.specs.declared.cell.Paint.{Paint}
use Rattle.ariadne_picture.specs.declared.label_info.LabelInfo.{LabelInfo}
use Rattle.ariadne_picture.specs.declared.label_info.LineLabel.{LineLabel}
use Rattle.ariadne_picture.specs.Canvas.{color_of}
use Rattle.ariadne_picture.specs.Cells.{ink_of, margin_glyph, margin_ink, paint_of, turn_glyph}
use Rattle.ariadne_picture.specs.Pieces.{column_size, glyph_text, stroke}
use Rattle.ariadne_picture.specs.Print.{pieces_bytes}
use Rattle.ariadne_render.specs.Pages.{PageFields, PenFields, Adds, Draws}
use Rattle.ariadne_render.specs.Gutters.{GutterFields, bar_in, bar_of, bar_ink, bars_ink, column_bytes, columns_bytes, margin_row_ink, turn_row_ink}
use Rattle.ariadne_render.proofs.Bytes.{pieces_bytes_none, pieces_bytes-append}
use Rattle.ariadne_render.proofs.GutterBytes.{ink-bytes, ink-alike, column-some}
use Rattle.ariadne_render.proofs.Drawn.{adds-append, adds_same, page_kept}
use Rattle.ariadne_render.proofs.GutterPen.{columns-more}
use Rattle.ariadne_render.proofs.GutterText.{joined-range_same}

-- ---- runs

-- the bytes of n cells of a stroke
abbrev pub run_bytes : PageFields → Glyph → Paint → ℕ → List ℕ
run_bytes page glyph paint n = pieces_bytes page.palette (replicate n (stroke page.switches.char_set glyph paint))

-- a run and a run behind it
pub run-append : (page : PageFields) (glyph : Glyph) (paint : Paint) (m n : ℕ)
    → run_bytes page glyph paint m ++ run_bytes page glyph paint n ≡ run_bytes page glyph paint (m + n)
run-append page glyph paint m n =
    let cell = stroke page.switches.char_set glyph paint in
    sym (pieces_bytes-append page.palette (replicate m cell) (replicate n cell)) ∙ ap (pieces_bytes page.palette) (replicate-append-replicate m n cell)

-- a column of alike cells is a run
pub run-column : (page : PageFields) (glyph : Glyph) (a : LabelInfo)
    → run_bytes page glyph (paint_of a) (column_size page.switches) ≡ column_bytes page (ink_of glyph glyph a)
unfolding column_bytes
run-column page glyph a =
    ap (pieces_bytes page.palette) (sym (ink-alike page.switches.char_set (ink_of glyph glyph a) (column_size page.switches) refl refl))

-- another is a stroke and a run
pub turn-column : (page : PageFields) (first rest : Glyph) (a : LabelInfo)
    → painted (color_of page.palette (paint_of a)) (glyph_text page.switches.char_set first)
    ++ run_bytes page rest (paint_of a) (column_size page.switches - 1) ≡ column_bytes page (ink_of first rest a)
unfolding column_bytes
turn-column page first rest a =
    sym (ink-bytes page.palette page.switches.char_set (ink_of first rest a) (column_size page.switches) (column-some page.switches).0)

-- ---- the source row of a line with a margin label

module _ (g : GutterFields) (m : LineLabel) (own : m.gutter_column < length g.bars) where
  -- what stands before its column
  pub margin-before : (i : ℕ) → i < m.gutter_column → margin_row_ink g m i ≡ bars_ink Vbar g i
  unfolding margin_row_ink margin_ink bars_ink bar_of bar_ink
  margin-before i h =
      let other : (m.gutter_column == i) ≡ false = ne_eqb m.gutter_column i (λ e. omega arith) in
      let inside : (i == length g.bars) ≡ false = ne_eqb i (length g.bars) (λ e. omega arith) in
      let before : nat_lt m.gutter_column i ≡ false = le-ltb m.gutter_column i (omega arith) in
      elim (cases_Bool (bar_in g.bars i)) [
        | inl on ↦ rw (on, other) refl
        | inr off ↦ rw (off, inside, other, before) refl
      ]

  -- where it leaves its column or enters it
  pub margin-own : margin_row_ink g m m.gutter_column ≡ ink_of (margin_glyph m.side) Hbar m.info
  unfolding margin_row_ink margin_ink
  margin-own =
      let same : (m.gutter_column == m.gutter_column) ≡ true = eq-eqb m.gutter_column m.gutter_column refl in
      let inside : (m.gutter_column == length g.bars) ≡ false = ne_eqb m.gutter_column (length g.bars) (λ e. omega arith) in
      elim (cases_Bool (bar_in g.bars m.gutter_column)) [
        | inl on ↦ rw (on, same, inside) refl
        | inr off ↦ rw (off, inside, same) refl
      ]

  -- a bar behind it crosses over its horizontal
  pub margin-bar : (i : ℕ) → m.gutter_column < i → bar_in g.bars i ≡ true → margin_row_ink g m i ≡ bars_ink Vbar g i
  unfolding margin_row_ink
  margin-bar i h on =
      let other : (m.gutter_column == i) ≡ false = ne_eqb m.gutter_column i (λ e. omega arith) in
      rw (on, other) refl

  -- which is seen in the other columns
  pub margin-level : (i : ℕ) → m.gutter_column < i → i < length g.bars → bar_in g.bars i ≡ false → margin_row_ink g m i ≡ ink_of Hbar Hbar m.info
  unfolding margin_row_ink margin_ink
  margin-level i h within off =
      let other : (m.gutter_column == i) ≡ false = ne_eqb m.gutter_column i (λ e. omega arith) in
      let inside : (i == length g.bars) ≡ false = ne_eqb i (length g.bars) (λ e. omega arith) in
      let behind : nat_lt m.gutter_column i ≡ true = lt-ltb m.gutter_column i h in
      rw (off, inside, other, behind) refl

  -- and ends in an arrow head
  pub margin-head : margin_row_ink g m (length g.bars) ≡ ink_of Rarrow Blank m.info
  unfolding margin_row_ink margin_ink bar_in
  margin-head =
      let off : get_or g.bars (length g.bars) false ≡ false = get_or_past g.bars (length g.bars) false (omega arith) in
      let last : (length g.bars == length g.bars) ≡ true = eq-eqb (length g.bars) (length g.bars) refl in
      rw (off, last) refl

-- ---- the arrow row of the start or the end of a gutter label

module _ (g : GutterFields) (x : LineLabel) where
  -- what stands before its column
  pub turn-before : (i : ℕ) → i < x.gutter_column → turn_row_ink g x i ≡ bars_ink Vbar g i
  unfolding turn_row_ink
  turn-before i h =
      let other : (x.gutter_column == i) ≡ false = ne_eqb x.gutter_column i (λ e. omega arith) in
      let before : nat_lt x.gutter_column i ≡ false = le-ltb x.gutter_column i (omega arith) in
      rw (other, before) refl

  -- where it turns
  pub turn-own : turn_row_ink g x x.gutter_column ≡ ink_of (turn_glyph x.side) Hbar x.info
  unfolding turn_row_ink
  turn-own = let same : (x.gutter_column == x.gutter_column) ≡ true = eq-eqb x.gutter_column x.gutter_column refl in rw same refl

  -- a bar behind it is crossed
  pub turn-bar : (i : ℕ) → x.gutter_column < i → bar_in g.bars i ≡ true → g.page.switches.cross_gap ≡ false
      → turn_row_ink g x i ≡ ink_of Xbar Hbar x.info
  unfolding turn_row_ink
  turn-bar i h on crossed =
      let other : (x.gutter_column == i) ≡ false = ne_eqb x.gutter_column i (λ e. omega arith) in
      let behind : nat_lt x.gutter_column i ≡ true = lt-ltb x.gutter_column i h in
      rw (other, behind, on, crossed) refl

  -- the other columns show its horizontal
  pub turn-level : (i : ℕ) → x.gutter_column < i → bar_in g.bars i ≡ false → turn_row_ink g x i ≡ ink_of Hbar Hbar x.info
  unfolding turn_row_ink
  turn-level i h off =
      let other : (x.gutter_column == i) ≡ false = ne_eqb x.gutter_column i (λ e. omega arith) in
      let behind : nat_lt x.gutter_column i ≡ true = lt-ltb x.gutter_column i h in
      rw (other, behind, off) refl

  -- and so do all columns behind it where bars are not crossed
  pub turn-gap : (i : ℕ) → x.gutter_column < i → g.page.switches.cross_gap ≡ true → turn_row_ink g x i ≡ ink_of Hbar Hbar x.info
  unfolding turn_row_ink
  turn-gap i h gap =
      let other : (x.gutter_column == i) ≡ false = ne_eqb x.gutter_column i (λ e. omega arith) in
      let behind : nat_lt x.gutter_column i ≡ true = lt-ltb x.gutter_column i h in
      elim (cases_Bool (bar_in g.bars i)) [
        | inl on ↦ rw (other, behind, on, gap) refl
        | inr off ↦ rw (other, behind, off) refl
      ]

-- ---- a run that is not yet written

-- with it the pen would have added these bytes
abbrev pub Owes : PenFields → PenFields → List ℕ → List ℕ → Type 0
Owes a b run bytes = Adds a (record b { bytes = b.bytes ++ run }) bytes

-- it is written
pub owes-paid : (a b c : PenFields) (run bytes : List ℕ) → Owes a b run bytes → Adds b c run → Adds a c bytes
owes-paid a b c run bytes h k = k ∙ h

-- nothing is owed
pub owes-none : (a b : PenFields) (bytes : List ℕ) → Adds a b bytes → Owes a b [] bytes
owes-none a b bytes h = (λ i. record b { bytes = append-nil b.bytes i }) ∙ h

-- something is written and a run is owed
pub owes-then : (a b c : PenFields) (bytes more run : List ℕ) → Adds a b bytes → Adds b c more → Owes a c run (bytes ++ (more ++ run))
owes-then a b c bytes more run h k =
    ap (λ (p : PenFields). record p { bytes = p.bytes ++ run }) (adds-append a b c bytes more h k)
    ∙ (λ i. record a { bytes = (append_assoc a.bytes (bytes ++ more) run ∙ ap (λ t. a.bytes ++ t) (append_assoc bytes more run)) i })

-- more is owed
pub owes-more : (a b : PenFields) (run more bytes : List ℕ) → Owes a b run bytes → Owes a b (run ++ more) (bytes ++ more)
owes-more a b run more bytes h =
    (λ i. record b { bytes = sym (append_assoc b.bytes run more) i })
    ∙ ap (λ (p : PenFields). record p { bytes = p.bytes ++ more }) h ∙ (λ i. record a { bytes = append_assoc a.bytes bytes more i })

-- the same in other words
pub owes-same : (a b : PenFields) (run owed bytes done : List ℕ) → run ≡ owed → bytes ≡ done → Owes a b run bytes → Owes a b owed done
owes-same a b run owed bytes done e f h =
    (λ i. record b { bytes = b.bytes ++ sym e i }) ∙ h ∙ (λ i. record a { bytes = a.bytes ++ f i })

-- ---- a row with a horizontal, as it is written

-- no cell is owed
run-none : (page : PageFields) (paint : Paint) → [] ≡ run_bytes page Hbar paint 0
run-none page paint = sym (pieces_bytes_none page.palette)

-- columns that show the same are written alike
columns-same : (page : PageFields) (f g : ℕ → Ink) (n : ℕ) → ((i : ℕ) → i < n → f i ≡ g i) → columns_bytes page f n ≡ columns_bytes page g n
unfolding columns_bytes
columns-same page f g n e = joined-range_same _ _ 0 n (λ i low high. ap (column_bytes page) (e i (omega arith)))

-- what is owed is owed on the same page
owes-page : (a b : PenFields) (run bytes : List ℕ) → Owes a b run bytes → b.page ≡ a.page
owes-page a b run bytes h = ap (λ (p : PenFields). p.page) h

-- the columns before its own are written, and the first cell of its own
pub turned : (g : GutterFields) (ink_at : ℕ → Ink) (own : ℕ) (a : LabelInfo) (first glyph : Glyph) (pen b c : PenFields) (n : ℕ) → pen.page ≡ g.page
    → glyph ≡ first → n ≡ column_size g.page.switches → ((i : ℕ) → i < own → ink_at i ≡ bars_ink Vbar g i) → ink_at own ≡ ink_of first Hbar a
    → Adds pen b (columns_bytes g.page (bars_ink Vbar g) own)
    → Adds b c (painted (color_of b.page.palette (paint_of a)) (glyph_text b.page.switches.char_set glyph))
    → Owes pen c (run_bytes g.page Hbar (paint_of a) (n - 1)) (columns_bytes g.page ink_at (own + 1))
turned g ink_at own a first glyph pen b c n page same size before here h k =
    let pages : b.page ≡ g.page = page_kept pen b _ h ∙ page in
    let run = run_bytes g.page Hbar (paint_of a) in
    let front = columns-same g.page ink_at (bars_ink Vbar g) own before in
    let corner : painted (color_of b.page.palette (paint_of a)) (glyph_text b.page.switches.char_set glyph) ++ run (n - 1) ≡ column_bytes g.page (ink_at own) =
    (λ i. painted (color_of (pages i).palette (paint_of a)) (glyph_text (pages i).switches.char_set (same i)) ++ run (size i - 1))
    ∙ turn-column g.page first Hbar a ∙ ap (column_bytes g.page) (sym here) in
    owes-same pen c (run (n - 1)) (run (n - 1)) _ _ refl ((λ i. sym front i ++ corner i) ∙ columns-more g.page ink_at own)
    (owes-then pen b c (columns_bytes g.page (bars_ink Vbar g) own) _ (run (n - 1)) h k)

-- what is owed is written
pub level-written : (page : PageFields) (paint : Paint) (pen b c : PenFields) (n : ℕ) (bytes : List ℕ) → pen.page ≡ page
    → Owes pen b (run_bytes page Hbar paint n) bytes → Draws b c (replicate n (stroke b.page.switches.char_set Hbar paint)) → Adds pen c bytes
level-written page paint pen b c n bytes same h k =
    let pages = owes-page pen b _ bytes h ∙ same in
    owes-paid pen b c (run_bytes page Hbar paint n) bytes h (adds_same b c _ _ (ap (λ (q : PageFields). run_bytes q Hbar paint n) pages) k)

-- a column more is owed
pub level-more : (page : PageFields) (ink_at : ℕ → Ink) (a : LabelInfo) (pen b : PenFields) (level n i : ℕ) → n ≡ column_size page.switches
    → ink_at i ≡ ink_of Hbar Hbar a → Owes pen b (run_bytes page Hbar (paint_of a) level) (columns_bytes page ink_at i)
    → Owes pen b (run_bytes page Hbar (paint_of a) (level + n)) (columns_bytes page ink_at (i + 1))
level-more page ink_at a pen b level n i size here h =
    let run = run_bytes page Hbar (paint_of a) in
    let column : run n ≡ column_bytes page (ink_at i) = ap run size ∙ run-column page Hbar a ∙ ap (column_bytes page) (sym here) in
    owes-same pen b (run level ++ run n) (run (level + n)) (columns_bytes page ink_at i ++ run n) (columns_bytes page ink_at (i + 1))
    (run-append page Hbar (paint_of a) level n) (ap (λ t. columns_bytes page ink_at i ++ t) column ∙ columns-more page ink_at i)
    (owes-more pen b (run level) (run n) (columns_bytes page ink_at i) h)

-- columns in a row are owed
pub level-all : (page : PageFields) (ink_at : ℕ → Ink) (a : LabelInfo) (pen b : PenFields) (level n i k : ℕ) → n ≡ column_size page.switches
    → ((j : ℕ) → i ≤ j → ink_at j ≡ ink_of Hbar Hbar a) → Owes pen b (run_bytes page Hbar (paint_of a) level) (columns_bytes page ink_at i)
    → Owes pen b (run_bytes page Hbar (paint_of a) (level + k * n)) (columns_bytes page ink_at (i + k))
level-all page ink_at a pen b level n i zero size level_at h =
    let e : level ≡ level + 0 * n = omega arith in
    let f : i ≡ i + 0 = omega arith in
    owes-same pen b _ _ _ _ (ap (run_bytes page Hbar (paint_of a)) e) (ap (columns_bytes page ink_at) f) h
level-all page ink_at a pen b level n i (suc k) size level_at h =
    let e : (level + n) + k * n ≡ level + suc k * n = omega arith in
    let f : (i + 1) + k ≡ i + suc k = omega arith in
    owes-same pen b _ _ _ _ (ap (run_bytes page Hbar (paint_of a)) e) (ap (columns_bytes page ink_at) f)
    (level-all page ink_at a pen b (level + n) n (i + 1) k size (λ j low. level_at j (omega arith))
    (level-more page ink_at a pen b level n i size (level_at i (omega arith)) h))

-- a column is written, and nothing is owed
pub level-over : (page : PageFields) (ink_at : ℕ → Ink) (paint : Paint) (here : Ink) (pen b c : PenFields) (i : ℕ) → ink_at i ≡ here
    → Adds pen b (columns_bytes page ink_at i) → Adds b c (column_bytes page here)
    → Owes pen c (run_bytes page Hbar paint 0) (columns_bytes page ink_at (i + 1))
level-over page ink_at paint here pen b c i shown h k =
    let more = ap (λ x. columns_bytes page ink_at i ++ column_bytes page x) (sym shown) ∙ columns-more page ink_at i in
    owes-same pen c [] (run_bytes page Hbar paint 0) _ (columns_bytes page ink_at (i + 1)) (run-none page paint) more
    (owes-none pen c (columns_bytes page ink_at i ++ column_bytes page here) (adds-append pen b c _ _ h k))

-- the first cell of a column is written, and the others are owed
pub level-crossed : (page : PageFields) (ink_at : ℕ → Ink) (a : LabelInfo) (first : Glyph) (pen b c : PenFields) (i n : ℕ) → b.page ≡ page
    → n ≡ column_size page.switches → ink_at i ≡ ink_of first Hbar a → Adds pen b (columns_bytes page ink_at i)
    → Adds b c (painted (color_of b.page.palette (paint_of a)) (glyph_text b.page.switches.char_set first))
    → Owes pen c (run_bytes page Hbar (paint_of a) (n - 1)) (columns_bytes page ink_at (i + 1))
level-crossed page ink_at a first pen b c i n same size here h k =
    let run = run_bytes page Hbar (paint_of a) in
    let cross : painted (color_of b.page.palette (paint_of a)) (glyph_text b.page.switches.char_set first) ++ run (n - 1) ≡ column_bytes page (ink_at i) =
    (λ j. painted (color_of (same j).palette (paint_of a)) (glyph_text (same j).switches.char_set first) ++ run (size j - 1))
    ∙ turn-column page first Hbar a ∙ ap (column_bytes page) (sym here) in
    owes-same pen c (run (n - 1)) (run (n - 1)) _ _ refl (ap (λ t. columns_bytes page ink_at i ++ t) cross ∙ columns-more page ink_at i)
    (owes-then pen b c (columns_bytes page ink_at i) _ (run (n - 1)) h k)
