-- The cells of a row: how long its parts are, and which piece stands in the first cell of a place or of a gutter column.
use Rattle.std.proofs.Common.{◌≡◌, ℕ, zero, suc, ◌+◌, ◌-◌, ◌*◌, ◌<◌, ◌≤◌, Bool, true, false, List, [], ◌∷◌, ◌++◌, take, length, replicate, Some, refl}
use Rattle.std.proofs.Common.{sym, ap, ◌∙◌, arith, if◌then◌else◌, append_assoc}
use Rattle.std.specs.Prelude.{slice_get}
use Rattle.std.specs.List.{AllByRecursion, range_with_len}
use Rattle.std.proofs.lemmas.Bool.{cond_both}
use Rattle.std.proofs.lemmas.List.{length-append, length-replicate, take_at}
use Rattle.std.proofs.lemmas.List.FromFn.{length-range_with_len}
use Rattle.ariadne_base.specs.Locations.{upto}
use Rattle.ariadne_picture.specs.declared.switches.CharSet.{CharSet}
use Rattle.ariadne_picture.specs.declared.switches.Switches.{Switches}
use Rattle.ariadne_picture.specs.declared.cell.Ink.{Ink}
use Rattle.ariadne_picture.specs.Lists.{joined, total}
use Rattle.ariadne_picture.specs.Ranks.{Sheet, multi_line_labels}
use Rattle.ariadne_picture.specs.Rows.{Row, source, alternate, arrow}
use Rattle.ariadne_picture.specs.Columns.{Layout, layout_of, width, column_of, arrow_len}
use Rattle.ariadne_picture.specs.Cells.{column_ink, alternate_place, arrow_place}
use Rattle.ariadne_picture.specs.Pieces.{Piece, Texts, Section, stroke, ink_pieces, area_pieces, margin_pieces, column_size, gutter_len}
use Rattle.ariadne_picture.specs.Pieces.{gutter_pieces, shown_pieces, message_pieces, rest_pieces, row_pieces, text_pieces}
use Rattle.ariadne_picture.specs.Canvas.{Cell}
use Rattle.ariadne_picture.specs.Placing.Group.{column_cell, text_cell}
use Rattle.ariadne_picture.specs.Placing.Rows.{Placing}
use Rattle.ariadne_picture.proofs.Lists.ListFacts.{all-joined, all-every}
use Rattle.ariadne_picture.proofs.Lists.Occurrences.{total-same}
use Rattle.ariadne_picture.proofs.Rows.RowsThere.{range-at}
use Rattle.ariadne_picture.proofs.Rows.RowNumbers.{at-back, at-part, length-joined}
use Rattle.ariadne_picture.proofs.Rows.LineBlock.{range-append}
use Rattle.ariadne_picture.proofs.Cells.LineColumns.{column_of-total}

-- ---- the cells of one ink

-- as many as wanted
pub length-ink : (set : CharSet) (ink : Ink) (n : ℕ) → length (ink_pieces set ink n) ≡ n
unfolding ink_pieces
length-ink set ink zero = refl
length-ink set ink (suc n) = ap suc (length-replicate n (stroke set ink.rest ink.rest_paint))

-- the first is its head
pub ink-head : (set : CharSet) (ink : Ink) (n : ℕ) → 0 < n → slice_get (ink_pieces set ink n) 0 ≡ Some (stroke set ink.first ink.first_paint)
unfolding ink_pieces
ink-head set ink zero h = absurd (omega arith)
ink-head set ink (suc n) h = refl

-- an element of equal ones
replicate-at : {X : Type 0} (n o : ℕ) (x : X) → o < n → slice_get (replicate n x) o ≡ Some x
replicate-at zero o x h = absurd (omega arith)
replicate-at (suc n) zero x h = refl
replicate-at (suc n) (suc o) x h = replicate-at n o x (omega arith)

-- the others are its tail
pub ink-tail : (set : CharSet) (ink : Ink) (n o : ℕ) → suc o < n
    → slice_get (ink_pieces set ink n) (suc o) ≡ Some (stroke set ink.rest ink.rest_paint)
unfolding ink_pieces
ink-tail set ink zero o h = absurd (omega arith)
ink-tail set ink (suc n) o h = replicate-at n o (stroke set ink.rest ink.rest_paint) (omega arith)

-- what holds of equal elements
pub all-replicate : {X : Type 0} (P : X → Type 0) (n : ℕ) (x : X) → P x → AllByRecursion P (replicate n x)
all-replicate P zero x h = tt
all-replicate P (suc n) x h = (h, all-replicate P n x h)

-- each takes one column
pub ink-columns : (set : CharSet) (ink : Ink) (n : ℕ) → AllByRecursion (λ (p : Piece). p.columns ≡ 1) (ink_pieces set ink n)
unfolding ink_pieces
ink-columns set ink zero = tt
ink-columns set ink (suc n) = (refl, all-replicate (λ (p : Piece). p.columns ≡ 1) n (stroke set ink.rest ink.rest_paint) refl)

-- ---- the cells of inks joined

-- the first numbers of a range
pub take-upto : (k n : ℕ) → k ≤ n → take k (upto n) ≡ upto k
take-upto k n h =
    let e : n ≡ k + (n - k) = omega arith in
    ap (λ m. take k (upto m)) e ∙ ap (take k) (range-append 0 k (n - k))
    ∙ take_at (upto k) (range_with_len (0 + k) (n - k)) k (length-range_with_len 0 k)

-- a sum of equal numbers
pub total-const : (c a n : ℕ) → total (λ (i : ℕ). c) (range_with_len a n) ≡ n * c
unfolding total
total-const c a zero = let z : 0 ≡ 0 * c = grind arith in z
total-const c a (suc n) = let e = total-const c (a + 1) n in let f : suc n * c ≡ c + n * c = grind arith in omega (arith, e, f)

module _ (set : CharSet) (ink_at : ℕ → Ink) (size : ℕ → ℕ) where
  -- the cells of n places, where place k has so many cells of its ink
  abbrev pub inks : ℕ → List Piece
  inks n = joined (λ k. ink_pieces set (ink_at k) (size k)) (upto n)

  -- as many cells as their sizes say
  pub length-inks : (n : ℕ) → length (inks n) ≡ total size (upto n)
  length-inks n =
      length-joined (λ k. ink_pieces set (ink_at k) (size k)) (upto n)
      ∙ total-same (λ k. length (ink_pieces set (ink_at k) (size k))) size (λ k. length-ink set (ink_at k) (size k)) (upto n)

  -- cell o of place k
  pub inks-at : (n k o : ℕ) (p : Piece) → k < n → slice_get (ink_pieces set (ink_at k) (size k)) o ≡ Some p
      → slice_get (inks n) (total size (upto k) + o) ≡ Some p
  inks-at n k o p h e =
      let f : ℕ → List Piece = λ k. ink_pieces set (ink_at k) (size k) in
      let same : total (λ k. length (f k)) (take k (upto n)) ≡ total size (upto k) =
      ap (total (λ k. length (f k))) (take-upto k n (omega arith))
      ∙ total-same (λ k. length (f k)) size (λ k. length-ink set (ink_at k) (size k)) (upto k) in
      let there : slice_get (upto n) k ≡ Some k = range-at 0 n k h ∙ ap Some (let z : 0 + k ≡ k = omega arith in z) in
      ap (λ m. slice_get (inks n) (m + o)) (sym same) ∙ at-part f (upto n) k o k p there e

  -- the first cell of place k
  pub inks-first : (n k : ℕ) → k < n → 0 < size k → slice_get (inks n) (total size (upto k)) ≡ Some
      (stroke set (ink_at k).first (ink_at k).first_paint)
  inks-first n k h some =
      let z : total size (upto k) ≡ total size (upto k) + 0 = omega arith in
      ap (slice_get (inks n)) z ∙ inks-at n k 0 (stroke set (ink_at k).first (ink_at k).first_paint) h (ink-head set (ink_at k) (size k) some)

  -- each takes one column
  pub inks-columns : (n : ℕ) → AllByRecursion (λ (p : Piece). p.columns ≡ 1) (inks n)
  inks-columns n =
      all-joined (λ (p : Piece). p.columns ≡ 1) (λ (k : ℕ). Unit {0}) (λ k. ink_pieces set (ink_at k) (size k)) (upto n)
      (λ k _. ink-columns set (ink_at k) (size k)) (all-every (λ (k : ℕ). Unit {0}) (λ k. tt) (upto n))

-- ---- the text area

-- an area has the cells of its places
pub length-area : (switches : Switches) (y : Layout) (ink_at : ℕ → Ink)
    → length (area_pieces switches y ink_at) ≡ column_of switches y (arrow_len switches y)
unfolding area_pieces
length-area switches y ink_at =
    length-inks switches.char_set ink_at (width switches y) (arrow_len switches y) ∙ sym (column_of-total switches y (arrow_len switches y))

-- the first cell of place k
pub area-first : (switches : Switches) (y : Layout) (ink_at : ℕ → Ink) (k : ℕ) → k < arrow_len switches y → 0 < width switches y k
    → slice_get (area_pieces switches y ink_at) (column_of switches y k) ≡ Some (stroke switches.char_set (ink_at k).first (ink_at k).first_paint)
unfolding area_pieces
area-first switches y ink_at k h some =
    ap (slice_get (area_pieces switches y ink_at)) (column_of-total switches y k)
    ∙ inks-first switches.char_set ink_at (width switches y) (arrow_len switches y) k h some

-- each takes one column
pub area-columns : (switches : Switches) (y : Layout) (ink_at : ℕ → Ink)
    → AllByRecursion (λ (p : Piece). p.columns ≡ 1) (area_pieces switches y ink_at)
unfolding area_pieces
area-columns switches y ink_at = inks-columns switches.char_set ink_at (width switches y) (arrow_len switches y)

-- ---- the gutter

-- a gutter has the cells of its columns
pub length-gutter : (s : Sheet) (x : Row) → length (gutter_pieces s x) ≡ gutter_len s * column_size s.switches
unfolding gutter_pieces
length-gutter s x =
    length-inks s.switches.char_set (column_ink s x) (λ (i : ℕ). column_size s.switches) (gutter_len s)
    ∙ total-const (column_size s.switches) 0 (gutter_len s)

-- cell o of column i
pub gutter-at : (s : Sheet) (x : Row) (i o : ℕ) (p : Piece) → i < gutter_len s
    → slice_get (ink_pieces s.switches.char_set (column_ink s x i) (column_size s.switches)) o ≡ Some p
    → slice_get (gutter_pieces s x) (i * column_size s.switches + o) ≡ Some p
unfolding gutter_pieces
gutter-at s x i o p h e =
    ap (λ m. slice_get (gutter_pieces s x) (m + o)) (sym (total-const (column_size s.switches) 0 i))
    ∙ inks-at s.switches.char_set (column_ink s x) (λ (i : ℕ). column_size s.switches) (gutter_len s) i o p h e

-- a column has a cell
pub column-some : (switches : Switches) → 0 < column_size switches
unfolding column_size
column-some switches = cond_both switches.compact 1 2 (λ n. 0 < n) (λ _. omega arith) (λ _. omega arith)

-- each takes one column
pub gutter-columns : (s : Sheet) (x : Row) → AllByRecursion (λ (p : Piece). p.columns ≡ 1) (gutter_pieces s x)
unfolding gutter_pieces
gutter-columns s x = inks-columns s.switches.char_set (column_ink s x) (λ (i : ℕ). column_size s.switches) (gutter_len s)

-- ---- a row of a line, up to its text and from there on

-- how long a margin is
pub length-margin : (switches : Switches) (w display_offset : ℕ) (x : Row)
    → length (margin_pieces switches w display_offset x) ≡ (if switches.compact then 2 else 3)
unfolding margin_pieces
length-margin switches w display_offset x = size switches.compact
  where
    size : (compact : Bool) → suc (suc (length {A = Piece} (if compact then [] else Rattle.ariadne_picture.specs.Pieces.blank_piece ∷ []))) ≡
        (if compact then 2 else 3)
    size true = refl
    size false = refl

-- the margin and the gutter
abbrev pub front_pieces : ℕ → Section → Row → List Piece
front_pieces w s x = margin_pieces s.sheet.switches w s.display_offset x ++ gutter_pieces s.sheet x

module _ (canvas : List (List Cell)) (ss : List Section) (p : Placing) where
  -- the text begins behind them
  pub length-front : (w : ℕ) (s : Section) (x : Row) → length (front_pieces w s x) ≡ text_cell s
  unfolding text_cell column_cell
  length-front w s x =
      length-append (margin_pieces s.sheet.switches w s.display_offset x) (gutter_pieces s.sheet x)
      ∙ (λ i. length-margin s.sheet.switches w s.display_offset x i + length-gutter s.sheet x i)

  -- cell o of gutter column i
  pub column-at : (w : ℕ) (s : Section) (x : Row) (i o : ℕ) (q : Piece) → i < gutter_len s.sheet
      → slice_get (ink_pieces s.sheet.switches.char_set (column_ink s.sheet x i) (column_size s.sheet.switches)) o ≡ Some q
      → slice_get (front_pieces w s x) (column_cell s i + o) ≡ Some q
  unfolding column_cell
  column-at w s x i o q h e =
      let margin = margin_pieces s.sheet.switches w s.display_offset x in
      let n : (if s.sheet.switches.compact then 2 else 3) + i * column_size s.sheet.switches + o ≡ length margin +
      (i * column_size s.sheet.switches + o) =
      let m = length-margin s.sheet.switches w s.display_offset x in omega (arith, m) in
      ap (slice_get (front_pieces w s x)) n ∙ at-back margin (gutter_pieces s.sheet x) (i * column_size s.sheet.switches + o)
      ∙ gutter-at s.sheet x i o q h e

  -- the first cell of gutter column i
  pub column-first : (w : ℕ) (s : Section) (x : Row) (i : ℕ) → i < gutter_len s.sheet
      → slice_get (front_pieces w s x) (column_cell s i) ≡ Some
      (stroke s.sheet.switches.char_set (column_ink s.sheet x i).first (column_ink s.sheet x i).first_paint)
  column-first w s x i h =
      let z : column_cell s i ≡ column_cell s i + 0 = omega arith in
      ap (slice_get (front_pieces w s x)) z
      ∙ column-at w s x i 0 (stroke s.sheet.switches.char_set (column_ink s.sheet x i).first (column_ink s.sheet x i).first_paint) h
      (ink-head s.sheet.switches.char_set (column_ink s.sheet x i) (column_size s.sheet.switches) (column-some s.sheet.switches))

-- the pieces of the three kinds of row that a shown line has
pub source-parts : (t : Texts) (w : ℕ) (s : Section) (l : ℕ) → row_pieces t w s (source l) ≡ front_pieces w s (source l)
    ++ shown_pieces t.switches (multi_line_labels s.sheet.labels) (layout_of s.sheet l)
unfolding row_pieces rest_pieces text_pieces
source-parts t w s l =
    sym (append_assoc (margin_pieces s.sheet.switches w s.display_offset (source l)) (gutter_pieces s.sheet (source l))
    (shown_pieces t.switches (multi_line_labels s.sheet.labels) (layout_of s.sheet l)))

pub alternate-parts : (t : Texts) (w : ℕ) (s : Section) (l r : ℕ) → row_pieces t w s (alternate l r) ≡ front_pieces w s (alternate l r)
    ++ area_pieces t.switches (layout_of s.sheet l) (alternate_place t.multiline_arrows t.switches (layout_of s.sheet l) r)
unfolding row_pieces rest_pieces text_pieces
alternate-parts t w s l r =
    sym (append_assoc (margin_pieces s.sheet.switches w s.display_offset (alternate l r)) (gutter_pieces s.sheet (alternate l r))
    (area_pieces t.switches (layout_of s.sheet l) (alternate_place t.multiline_arrows t.switches (layout_of s.sheet l) r)))

-- the text of an arrow row: its places and its message
abbrev pub arrow_text : Texts → Section → ℕ → ℕ → List Piece
arrow_text t s l r =
    area_pieces t.switches (layout_of s.sheet l) (arrow_place t.switches (layout_of s.sheet l) r (slice_get (layout_of s.sheet l).labels r))
    ++ message_pieces t (slice_get (layout_of s.sheet l).labels r)

pub arrow-parts : (t : Texts) (w : ℕ) (s : Section) (l r : ℕ) → row_pieces t w s (arrow l r) ≡ front_pieces w s (arrow l r) ++ arrow_text t s l r
unfolding row_pieces rest_pieces text_pieces
arrow-parts t w s l r =
    sym (append_assoc (margin_pieces s.sheet.switches w s.display_offset (arrow l r)) (gutter_pieces s.sheet (arrow l r)) (arrow_text t s l r))
