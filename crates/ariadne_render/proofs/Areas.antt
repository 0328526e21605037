-- The places of a row below a line: a stretch with one stroke is one run, and stretches stand one behind the other.
use Rattle.std.proofs.Common.{◌≡◌, ℕ, Option, zero, suc, ◌+◌, ◌-◌, ◌<◌, ◌≤◌, List, [], ◌∷◌, ◌++◌, replicate, Some, None, refl, sym, ap, ◌∙◌, subst, arith}
use Rattle.std.proofs.Common.{add-zero, lit<}
use Rattle.std.specs.List.{range_with_len}
use Rattle.std.proofs.lemmas.List.{append-nil, replicate-append-replicate}
use Rattle.std.proofs.lemmas.Str.{encode_ascii}
use Rattle.ariadne_color.specs.Colors.{painted}
use Rattle.ariadne_picture.specs.declared.cell.Glyph.{Glyph}
use Rattle.ariadne_picture.specs.declared.cell.Glyph.TheVariants.{Blank}
use Rattle.ariadne_picture.specs.declared.cell.Ink.{Ink}
use Rattle.ariadne_picture.specs.declared.cell.Paint.{Paint}
use Rattle.ariadne_picture.specs.declared.cell.Paint.TheVariants.{Plain}
use Rattle.ariadne_picture.specs.declared.switches.CharSet.{CharSet}
use Rattle.ariadne_picture.specs.declared.switches.Switches.{Switches}
use Rattle.ariadne_picture.specs.Lists.{joined, total}
use Rattle.ariadne_picture.specs.Columns.{Layout, arrow_len, width, column_of}
use Rattle.ariadne_picture.specs.Cells.{ink, blanks, glyph_code}
use Rattle.ariadne_picture.specs.Pieces.{Piece, area_pieces, glyph_text, ink_pieces, spaces, stroke}
use Rattle.ariadne_picture.specs.Canvas.{Palette}
use Rattle.ariadne_picture.specs.Print.{pieces_bytes}
use Rattle.ariadne_picture.proofs.Lists.Joined.{joined-append, joined-one}
use Rattle.ariadne_picture.proofs.Rows.LineBlock.{range-append}
use Rattle.ariadne_layout.specs.declared.table.LineTable.{LineTable}
use Rattle.ariadne_layout.specs.declared.verticals.Vertical.{Vertical}
use Rattle.ariadne_layout.specs.Tables.{AreColumns, IsTable, column_in, seen_vertical}
use Rattle.ariadne_layout.proofs.PlaceColumns.{column_of-between}
use Rattle.ariadne_render.specs.Pages.{PageFields, PenFields, Adds, Draws}
use Rattle.ariadne_render.specs.declared.area.Backdrop.{Backdrop}
use Rattle.ariadne_render.specs.Areas.{seen_ink, places_pieces, DrawsPlaces, DrawsOver}
use Rattle.ariadne_render.proofs.Bytes.{pieces_bytes_first, pieces_bytes_none, plain_bytes}
use Rattle.ariadne_render.proofs.Drawn.{draws-append}

-- ---- the columns of places

-- the difference of two columns is the sum of the widths between them
pub columns_between : (switches : Switches) (y : Layout) (len : ℕ) (columns : List ℕ) (from to : ℕ)
    → AreColumns switches y len columns → from ≤ to → to ≤ len
    → column_in columns to - column_in columns from ≡ total (width switches y) (range_with_len from (to - from))
columns_between switches y len columns from to h order within =
    let e : from + (to - from) ≡ to = omega arith in
    let more = column_of-between switches y from (to - from) in
    let last : column_of switches y to ≡ column_of switches y from + total (width switches y) (range_with_len from (to - from)) =
    ap (column_of switches y) (sym e) ∙ more in
    let a : column_in columns from ≡ column_of switches y from = h from (omega arith) in
    let b : column_in columns to ≡ column_of switches y to = h to within in
    omega arith

-- the width of a single place
total_one : (w : ℕ → ℕ) (k : ℕ) → total w (k ∷ []) ≡ w k
unfolding total
total_one w k = add-zero (w k)

-- ---- one stroke

-- a place with one stroke has as many copies of it as columns
ink_copies : (set : CharSet) (g : Glyph) (p : Paint) (n : ℕ) → ink_pieces set (ink g p g p) n ≡ replicate n (stroke set g p)
unfolding ink_pieces
ink_copies set g p zero = refl
ink_copies set g p (suc n) = refl

-- places with one stroke are one run of it
one_run : (set : CharSet) (g : Glyph) (p : Paint) (w : ℕ → ℕ) (xs : List ℕ)
    → joined (λ k. ink_pieces set (ink g p g p) (w k)) xs ≡ replicate (total w xs) (stroke set g p)
unfolding joined total
one_run set g p w [] = refl
one_run set g p w (x ∷ xs) =
    let c : Piece = stroke set g p in
    (λ i. ink_copies set g p (w x) i ++ one_run set g p w xs i) ∙ replicate-append-replicate (w x) (total w xs) c

-- a plain blank is a blank
pub blank_text : (set : CharSet) → glyph_text set Blank ≡ 32 ∷ []
unfolding glyph_text glyph_code
blank_text set = encode_ascii 32 (lit< tt)

-- a run of plain blanks is so many blanks
pub spaces_bytes : (p : Palette) (set : CharSet) (n : ℕ) → pieces_bytes p (replicate n (stroke set Blank Plain)) ≡ spaces n
unfolding spaces
spaces_bytes p set zero = pieces_bytes_none p
spaces_bytes p set (suc n) =
    let c : Piece = stroke set Blank Plain in
    let here : painted _ c.text ≡ 32 ∷ [] = plain_bytes p (glyph_text set Blank) ∙ blank_text set in
    pieces_bytes_first p c (replicate n c) ∙ λ i. here i ++ spaces_bytes p set n i

-- ---- places

-- functions that agree on a range
joined_on : {X : Type 0} (f g : ℕ → List X) (a n : ℕ) → ((k : ℕ) → a ≤ k → k < a + n → f k ≡ g k)
    → joined f (range_with_len a n) ≡ joined g (range_with_len a n)
unfolding joined
joined_on f g a zero e = refl
joined_on f g a (suc n) e =
    let here : f a ≡ g a = e a (omega arith) (omega arith) in
    let later : joined f (range_with_len (a + 1) n) ≡ joined g (range_with_len (a + 1) n) =
    joined_on f g (a + 1) n (λ k low high. e k (omega arith) (omega arith)) in
    λ i. here i ++ later i

-- inks that agree on the places
places_same : (switches : Switches) (y : Layout) (f g : ℕ → Ink) (from to : ℕ) → ((k : ℕ) → from ≤ k → k < to → f k ≡ g k)
    → places_pieces switches y f from to ≡ places_pieces switches y g from to
unfolding places_pieces
places_same switches y f g from to e =
    joined_on (λ k. ink_pieces switches.char_set (f k) (width switches y k)) (λ k. ink_pieces switches.char_set (g k) (width switches y k))
    from (to - from) (λ k low high. ap (λ t. ink_pieces switches.char_set t (width switches y k)) (e k low (omega arith)))

-- no places
places_none : (switches : Switches) (y : Layout) (f : ℕ → Ink) (from : ℕ) → places_pieces switches y f from from ≡ []
unfolding places_pieces joined
places_none switches y f from =
    let part : ℕ → List Piece = λ k. ink_pieces switches.char_set (f k) (width switches y k) in
    let e : from - from ≡ 0 = omega arith in
    ap (λ n. joined part (range_with_len from n)) e

-- a single place
places_one : (switches : Switches) (y : Layout) (f : ℕ → Ink) (k : ℕ)
    → places_pieces switches y f k (k + 1) ≡ ink_pieces switches.char_set (f k) (width switches y k)
unfolding places_pieces
places_one switches y f k =
    let part : ℕ → List Piece = λ k. ink_pieces switches.char_set (f k) (width switches y k) in
    let e : (k + 1) - k ≡ 1 = omega arith in
    ap (λ n. joined part (range_with_len k n)) e ∙ joined-one part k

-- places and those behind them
places_more : (switches : Switches) (y : Layout) (f : ℕ → Ink) (i j k : ℕ) → i ≤ j → j ≤ k
    → places_pieces switches y f i k ≡ places_pieces switches y f i j ++ places_pieces switches y f j k
unfolding places_pieces
places_more switches y f i j k low high =
    let part : ℕ → List Piece = λ k. ink_pieces switches.char_set (f k) (width switches y k) in
    let n : (j - i) + (k - j) ≡ k - i = omega arith in
    let m : i + (j - i) ≡ j = omega arith in
    let cut : range_with_len i (k - i) ≡ range_with_len i (j - i) ++ range_with_len j (k - j) =
    ap (range_with_len i) (sym n) ∙ range-append i (j - i) (k - j) ∙ ap (λ b. range_with_len i (j - i) ++ range_with_len b (k - j)) m in
    ap (joined part) cut ∙ joined-append part (range_with_len i (j - i)) (range_with_len j (k - j))

-- places with one stroke
places_run : (switches : Switches) (y : Layout) (len : ℕ) (columns : List ℕ) (g : Glyph) (p : Paint) (from to : ℕ)
    → AreColumns switches y len columns → from ≤ to → to ≤ len
    → places_pieces switches y (λ _. ink g p g p) from to
    ≡ replicate (column_in columns to - column_in columns from) (stroke switches.char_set g p)
unfolding places_pieces
places_run switches y len columns g p from to h order within =
    one_run switches.char_set g p (width switches y) (range_with_len from (to - from))
    ∙ ap (λ n. replicate n (stroke switches.char_set g p)) (sym (columns_between switches y len columns from to h order within))

-- ---- what is written

-- no place is written at first
pub draws_none : (a : PenFields) (table : LineTable) (f : ℕ → Ink) (from : ℕ) → DrawsPlaces a a table f from from
draws_none a table f from = record {
  page = refl;
  drawn = λ y h.
      let p : Palette = a.page.palette in
      let nothing : pieces_bytes p (places_pieces a.page.switches y f from from) ≡ [] =
      ap (pieces_bytes p) (places_none a.page.switches y f from) ∙ pieces_bytes_none p in
      ap (λ (t : List ℕ). record a { bytes = t }) (sym (ap (λ t. a.bytes ++ t) nothing ∙ append-nil a.bytes));
}

-- places written behind others
pub draws_more : (a b c : PenFields) (table : LineTable) (f : ℕ → Ink) (i j k : ℕ) → i ≤ j → j ≤ k
    → DrawsPlaces a b table f i j → DrawsPlaces b c table f j k → DrawsPlaces a c table f i k
draws_more a b c table f i j k low high d e = record {
  page = e.page ∙ d.page;
  drawn = λ y h.
      let s : Switches = a.page.switches in
      let there : AreColumns b.page.switches y table.len table.columns =
      subst (λ (q : PageFields). AreColumns q.switches y table.len table.columns) (sym d.page) h in
      let behind : Draws b c (places_pieces s y f j k) =
      subst (λ (q : PageFields). Draws b c (places_pieces q.switches y f j k)) d.page (e.drawn y there) in
      subst (Draws a c) (sym (places_more s y f i j k low high))
      (draws-append a b c (places_pieces s y f i j) (places_pieces s y f j k) (d.drawn y h) behind);
}

-- inks that agree on the places
pub draws_same : (a b : PenFields) (table : LineTable) (f g : ℕ → Ink) (from to : ℕ) → ((k : ℕ) → from ≤ k → k < to → f k ≡ g k)
    → DrawsPlaces a b table f from to → DrawsPlaces a b table g from to
draws_same a b table f g from to e d = record {
  page = d.page;
  drawn = λ y h. subst (Draws a b) (places_same a.page.switches y f g from to e) (d.drawn y h);
}

-- a run of one stroke
pub draws_run : (a b : PenFields) (table : LineTable) (g : Glyph) (p : Paint) (from to n : ℕ) → from ≤ to → to ≤ table.len
    → n ≡ column_in table.columns to - column_in table.columns from
    → Draws a b (replicate n (stroke a.page.switches.char_set g p)) → DrawsPlaces a b table (λ _. ink g p g p) from to
draws_run a b table g p from to n order within e d = record {
  page = ap (λ (q : PenFields). q.page) d;
  drawn = λ y h.
      let c : Piece = stroke a.page.switches.char_set g p in
      subst (Draws a b)
      (ap (λ k. replicate k c) e ∙ sym (places_run a.page.switches y table.len table.columns g p from to h order within)) d;
}

-- blanks
pub draws_spaces : (a b : PenFields) (table : LineTable) (from to n : ℕ) → from ≤ to → to ≤ table.len
    → n ≡ column_in table.columns to - column_in table.columns from
    → Adds a b (spaces n) → DrawsPlaces a b table (λ _. blanks) from to
draws_spaces a b table from to n order within e d =
    draws_run a b table Blank Plain from to n order within e
    (subst (Adds a b) (sym (spaces_bytes a.page.palette a.page.switches.char_set n)) d)

-- a single place
pub draws_one : (a b : PenFields) (table : LineTable) (f : ℕ → Ink) (k n : ℕ) → k < table.len
    → n ≡ column_in table.columns (k + 1) - column_in table.columns k
    → Draws a b (ink_pieces a.page.switches.char_set (f k) n) → DrawsPlaces a b table f k (k + 1)
draws_one a b table f k n within e d = record {
  page = ap (λ (q : PenFields). q.page) d;
  drawn = λ y h.
      let s : Switches = a.page.switches in
      let one : (k + 1) - k ≡ 1 = omega arith in
      let here : column_in table.columns (k + 1) - column_in table.columns k ≡ width s y k =
      columns_between s y table.len table.columns k (k + 1) h (omega arith) (omega arith)
      ∙ ap (λ m. total (width s y) (range_with_len k m)) one ∙ total_one (width s y) k in
      subst (Draws a b) (ap (ink_pieces s.char_set (f k)) (e ∙ here) ∙ sym (places_one s y f k)) d;
}

-- ---- verticals over a backdrop

-- places at none of which a vertical is seen
pub draws_unseen : (a b : PenFields) (table : LineTable) (backdrop : Backdrop) (from to : ℕ)
    → ((k : ℕ) → from ≤ k → k < to → seen_vertical table.verticals k ≡ None)
    → DrawsPlaces a b table (λ _. seen_ink backdrop None) from to → DrawsOver a b table backdrop from to
draws_unseen a b table backdrop from to e d =
    draws_same a b table (λ _. seen_ink backdrop None) (λ k. seen_ink backdrop (seen_vertical table.verticals k)) from to
    (λ k low high. ap (seen_ink backdrop) (sym (e k low high))) d

-- places whose backdrop hides the verticals
pub draws_hidden : (a b : PenFields) (table : LineTable) (backdrop : Backdrop) (from to : ℕ)
    → ((v : Option Vertical) → seen_ink backdrop v ≡ seen_ink backdrop None)
    → DrawsPlaces a b table (λ _. seen_ink backdrop None) from to → DrawsOver a b table backdrop from to
draws_hidden a b table backdrop from to e d =
    draws_same a b table (λ _. seen_ink backdrop None) (λ k. seen_ink backdrop (seen_vertical table.verticals k)) from to
    (λ k low high. sym (e (seen_vertical table.verticals k))) d

-- the place of a vertical
pub draws_vertical : (a b : PenFields) (table : LineTable) (backdrop : Backdrop) (v : Vertical) (here : Ink) (n : ℕ) → v.place < table.len
    → seen_vertical table.verticals v.place ≡ Some v → here ≡ seen_ink backdrop (Some v)
    → n ≡ column_in table.columns (v.place + 1) - column_in table.columns v.place
    → Draws a b (ink_pieces a.page.switches.char_set here n) → DrawsOver a b table backdrop v.place (v.place + 1)
draws_vertical a b table backdrop v here n within seen same e d =
    let over : ℕ → Ink = λ k. seen_ink backdrop (seen_vertical table.verticals k) in
    draws_one a b table over v.place n within e
    (subst (λ (t : Ink). Draws a b (ink_pieces a.page.switches.char_set t n)) (same ∙ ap (seen_ink backdrop) (sym seen)) d)

-- ---- parts of a row

-- places with one backdrop, whose inks are those of a row
pub draws_row : (a b : PenFields) (table : LineTable) (backdrop : Backdrop) (f : ℕ → Ink) (from to : ℕ)
    → ((k : ℕ) → from ≤ k → k < to → f k ≡ seen_ink backdrop (seen_vertical table.verticals k))
    → DrawsOver a b table backdrop from to → DrawsPlaces a b table f from to
draws_row a b table backdrop f from to e d =
    draws_same a b table (λ k. seen_ink backdrop (seen_vertical table.verticals k)) f from to (λ k low high. sym (e k low high)) d

-- all places of a line are its text area
pub draws_area : (a b : PenFields) (y : Layout) (r : ℕ) (table : LineTable) (f : ℕ → Ink) → IsTable a.page.switches y r table
    → DrawsPlaces a b table f 0 table.len → Draws a b (area_pieces a.page.switches y f)
unfolding area_pieces places_pieces
draws_area a b y r table f t d =
    let s : Switches = a.page.switches in
    let e : table.len - 0 ≡ arrow_len s y = omega (arith, t.len) in
    subst (λ (n : ℕ). Draws a b (joined (λ k. ink_pieces s.char_set (f k) (width s y k)) (range_with_len 0 n))) e (d.drawn y t.columns)
