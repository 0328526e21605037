-- What a gutter keeps: its text may be cut where columns begin, and a column that is changed changes it alone.
use Rattle.std.proofs.Common.{◌≡◌, ◌≢◌, ℕ, ◌+◌, ◌-◌, ◌*◌, ◌<◌, ◌≤◌, Bool, true, false, cond, List, [], ◌++◌, map, replicate, length}
use Rattle.std.proofs.Common.{take, get_or, set, None, Some, refl, sym, ap, ◌∙◌, arith, subst, zero-add, inl, inr, if◌then◌else◌, ◌==◌}
use Rattle.std.specs.Bool.{then_some}
use Rattle.std.specs.List.{range_with_len, slice_range, replace_range}
use Rattle.std.specs.Str.{IsCharBoundary}
use Rattle.std.proofs.lemmas.Bool.{cond-true, cond-false, ne_eqb, eq-eqb, cases_lt, true≢false}
use Rattle.std.proofs.lemmas.List.{length-set, get_or-set_same, get_or-set_other, length-append, get_or_past, get_or_read, get_or-replicate, length-replicate}
use Rattle.std.proofs.lemmas.List.FromFn.{length-map-range_with_len, get_or-map-range_with_len, fill_by_all}
use Rattle.ariadne_base.specs.Locations.{upto}
use Rattle.ariadne_picture.specs.declared.cell.Glyph.TheVariants.{Vbar}
use Rattle.ariadne_picture.specs.Cells.{blanks}
use Rattle.ariadne_picture.specs.Lists.{joined}
use Rattle.ariadne_picture.specs.Pieces.{column_size, spaces}
use Rattle.ariadne_picture.proofs.Lists.Joined.{joined-upto_more}
use Rattle.ariadne_render.specs.Gutters.{GutterFields, bar_in, columns, bar_of, bar_ink, bars_ink, column_bytes, columns_bytes, start_of, IsReady}
use Rattle.ariadne_render.proofs.GutterBytes.{headed-column, blank-columns}
use Rattle.ariadne_render.proofs.GutterText.{IsHeaded, cut-at, column-there, front-there, joined-range_same, joined-split, column-replaced, kept-before, moved-behind}

-- ---- columns

-- with a gutter label there is a column more than gutter labels
pub columns-some : (g : GutterFields) (i : ℕ) → i < length g.bars → columns g ≡ length g.bars + 1
unfolding columns
columns-some g i h = cond-false _ 0 (length g.bars + 1) (ne_eqb (length g.bars) 0 (λ e. omega (arith, e)))

-- without one there is none
pub columns-none : (g : GutterFields) → length g.bars ≡ 0 → columns g ≡ 0
unfolding columns
columns-none g e = cond-true _ 0 (length g.bars + 1) (eq-eqb (length g.bars) 0 e)

-- the bytes of a column of a row that has bars alone
abbrev bar_bytes : GutterFields → ℕ → List ℕ
bar_bytes g i = column_bytes g.page (bars_ink Vbar g i)

-- each begins with the first byte of a character
headed : (g : GutterFields) (i : ℕ) → IsHeaded (bar_bytes g i)
unfolding bars_ink
headed g i = headed-column g.page (bar_of g i)

-- ---- what is ready

-- what is ready for a gutter's fields is so for what is seen of it
pub ready-for : (v g : GutterFields) (bytes offsets : List ℕ) → v ≡ g → IsReady v bytes offsets → IsReady g bytes offsets
ready-for v g bytes offsets e r = subst (λ (x : GutterFields). IsReady x bytes offsets) e r

-- and for bytes and offsets that are the same
pub ready-same : (g : GutterFields) (bytes offsets same_bytes same_offsets : List ℕ) → same_bytes ≡ bytes → same_offsets ≡ offsets
    → IsReady g bytes offsets → IsReady g same_bytes same_offsets
ready-same g bytes offsets same_bytes same_offsets b o r =
    record { positions = r.positions; text = b ∙ r.text; starts = o ∙ r.starts }

module _ (g : GutterFields) (bytes offsets : List ℕ) (ready : IsReady g bytes offsets) where
  -- there is an offset for each column
  pub offsets-len : length offsets ≡ columns g
  offsets-len = ap length ready.starts ∙ length-map-range_with_len (start_of g) 0 (columns g)

  -- it is where the column begins
  pub offset-read : (i x : ℕ) → i < columns g → x ≡ get_or offsets i x → x ≡ start_of g i
  offset-read i x h e =
      e ∙ ap (λ t. get_or t i x) ready.starts ∙ get_or-map-range_with_len (start_of g) 0 (columns g) i i x h (zero-add i)

  -- read with another default too
  pub offset-at : (i : ℕ) → i < columns g → get_or offsets i 0 ≡ start_of g i
  offset-at i h = ap (λ t. get_or t i 0) ready.starts ∙ get_or-map-range_with_len (start_of g) 0 (columns g) i i 0 h (zero-add i)

  -- there the text may be cut
  pub text-cut : (i : ℕ) → i ≤ columns g → IsCharBoundary bytes (start_of g i)
  unfolding start_of columns_bytes
  text-cut i h =
      subst (λ t. IsCharBoundary t (start_of g i)) (sym ready.text) (cut-at (bar_bytes g) i (columns g) (λ k less. headed g k) h)

  -- before it stand the columns before
  pub text-front : (i : ℕ) → i < columns g → slice_range bytes 0 (start_of g i) ≡ columns_bytes g.page (bars_ink Vbar g) i
  unfolding start_of columns_bytes
  text-front i h =
      let z : start_of g i - 0 ≡ start_of g i = omega arith in
      (λ j. take (z j) (ready.text j)) ∙ front-there (bar_bytes g) i (columns g) h

  -- and up to the next one stands the column
  pub text-column : (i : ℕ) → i < columns g → slice_range bytes (start_of g i) (start_of g (i + 1)) ≡ column_bytes g.page (bars_ink Vbar g i)
  unfolding start_of columns_bytes
  text-column i h = ap (λ t. slice_range t (start_of g i) (start_of g (i + 1))) ready.text ∙ column-there (bar_bytes g) i (columns g) h

-- a column ends where the next one begins
pub start-next : (g : GutterFields) (i : ℕ) → start_of g (i + 1) ≡ start_of g i + length (column_bytes g.page (bars_ink Vbar g i))
unfolding start_of columns_bytes
start-next g i = ap length (joined-upto_more (bar_bytes g) i) ∙ length-append (joined (bar_bytes g) (upto i)) (bar_bytes g i)

-- without columns there is nothing
pub ready-none : (g : GutterFields) (bytes offsets : List ℕ) → g.positions ≡ [] → g.bars ≡ [] → bytes ≡ [] → offsets ≡ [] → IsReady g bytes offsets
unfolding columns_bytes joined
ready-none g bytes offsets p b t o =
    let none : columns g ≡ 0 = columns-none g (ap length b) in
    record {
      positions = ap length p ∙ sym (ap length b);
      text = t ∙ sym (ap (columns_bytes g.page (bars_ink Vbar g)) none);
      starts = o ∙ sym (ap (λ n. map (start_of g) (upto n)) none);
    }

-- ---- whose bar stands

-- where a bar stands it is that of the column's label
pub bar-stands : (g : GutterFields) (i x : ℕ) → get_or g.bars i false ≡ true → length g.positions ≡ length g.bars → x ≡ get_or g.positions i x
    → Some x ≡ bar_of g i
unfolding bar_of bar_in
bar-stands g i x on same read =
    let inside : i < length g.positions = elim (cases_lt i (length g.bars)) [
      | inl less ↦ omega arith
      | inr more ↦ absurd (true≢false (sym on ∙ get_or_past g.bars i false more))
    ] in
    ap Some (get_or_read g.positions i x inside read 0) ∙ sym (cond-true (get_or g.bars i false) (Some (get_or g.positions i 0)) None on)

-- where none stands there is none
pub bar-stands_not : (g : GutterFields) (i : ℕ) → get_or g.bars i false ≡ false → None ≡ bar_of g i
unfolding bar_of bar_in
bar-stands_not g i off = sym (cond-false (get_or g.bars i false) (Some (get_or g.positions i 0)) None off)

-- ---- a bar is set

-- a value where a test holds
then-some-is : (b : Bool) (x : ℕ) → then_some b x ≡ cond b (Some x) None
then-some-is true x = refl
then-some-is false x = refl

module _ (g : GutterFields) (i : ℕ) (b : Bool) (inside : i < length g.bars) where
  -- the gutter with the bar in column i set
  abbrev after : GutterFields
  after = record g { bars = set g.bars i b }

  -- it has as many columns
  columns-after : columns after ≡ columns g
  unfolding columns
  columns-after = ap (λ n. if n == 0 then 0 else n + 1) (length-set g.bars i b)

  -- the bar stands, or stands no more
  pub bar-after : then_some b (get_or g.positions i 0) ≡ bar_of after i
  unfolding bar_of bar_in
  bar-after =
      then-some-is b (get_or g.positions i 0)
      ∙ ap (λ x. cond x (Some (get_or g.positions i 0)) None) (sym (get_or-set_same g.bars i b false inside))

  -- the other columns stay
  others-after : (k : ℕ) → k ≢ i → bar_bytes g k ≡ bar_bytes after k
  unfolding bars_ink bar_of bar_in
  others-after k other =
      ap (λ x. column_bytes g.page (bar_ink Vbar (cond x (Some (get_or g.positions k 0)) None))) (sym (get_or-set_other g.bars i k b false other))

  -- so what was ready is so again, with the new column in the place of the old one and the offsets behind it moved
  pub ready-set : (bytes offsets moved : List ℕ) → IsReady g bytes offsets → length moved ≡ length offsets
      → ((k : ℕ) → k < i + 1 → get_or moved k 0 ≡ get_or offsets k 0)
      → ((k : ℕ) → i + 1 ≤ k → k < length offsets → get_or moved k 0
      ≡ get_or offsets k 0 + length (column_bytes g.page (bars_ink Vbar after i)) - (start_of g (i + 1) - start_of g i))
      → IsReady after (replace_range bytes (start_of g i) (start_of g (i + 1)) (column_bytes g.page (bars_ink Vbar after i))) moved
  unfolding start_of columns_bytes
  ready-set bytes offsets moved ready len before behind =
      let n = columns g in
      let some = columns-some g i inside in
      let within : i < n = omega arith in
      let old_len = offsets-len g bytes offsets ready in
      record {
        positions = ready.positions ∙ sym (length-set g.bars i b);
        text =
            ap (λ t. replace_range t (start_of g i) (start_of g (i + 1)) (bar_bytes after i)) ready.text
            ∙ column-replaced (bar_bytes g) (bar_bytes after) i n within others-after ∙ ap (λ m. joined (bar_bytes after) (upto m)) (sym columns-after);
        starts =
            fill_by_all (start_of after) moved n 0 (len ∙ old_len) (λ k h. elim (cases_lt i k) [
              | inl less ↦
                  let moves = behind k (omega arith) (omega arith) in
                  let more = moved-behind (bar_bytes g) (bar_bytes after) i n within others-after k less in
                  let next = start-next g i in
                  let was = offset-at g bytes offsets ready k h in
                  omega (arith, moves, more, next, was)
              | inr least ↦
                  before k (omega arith) ∙ offset-at g bytes offsets ready k h ∙ ap length (kept-before (bar_bytes g) (bar_bytes after) i n within others-after k (omega arith))
            ])
            ∙ ap (λ m. map (start_of after) (upto m)) (sym columns-after);
      }

-- a column ends no later than those behind it begin
pub start-holds : (g : GutterFields) (i k : ℕ) → i < k → start_of g (i + 1) ≤ start_of g k
unfolding start_of columns_bytes
start-holds g i k h =
    let behind = joined (bar_bytes g) (range_with_len (i + 1) (k - i - 1)) in
    let parts = ap length (joined-split (bar_bytes g) i k h) ∙ length-append (joined (bar_bytes g) (upto i)) (bar_bytes g i ++ behind) in
    let two = length-append (bar_bytes g i) behind in
    let next = start-next g i in
    omega (arith, parts, two, next)

-- ---- no bar stands

-- a bar of a list of bars that do not stand does not
off-everywhere : (n i : ℕ) → get_or (replicate n false) i false ≡ false
off-everywhere n i = elim (cases_lt i n) [
  | inl less ↦ get_or-replicate n i false false less
  | inr more ↦ get_or_past (replicate n false) i false (let len = length-replicate n false in omega (arith, len))
]

module _ (g : GutterFields) (n : ℕ) (off : g.bars ≡ replicate n false) where
  -- every column is blank
  free : (i : ℕ) → bar_bytes g i ≡ column_bytes g.page blanks
  unfolding bars_ink bar_of bar_in bar_ink
  free i =
      ap (λ b. column_bytes g.page (bar_ink Vbar (cond b (Some (get_or g.positions i 0)) None)))
      (ap (λ t. get_or t i false) off ∙ off-everywhere n i)

  -- so the row is one of blanks
  free-columns : (m : ℕ) → columns_bytes g.page (bars_ink Vbar g) m ≡ spaces (m * column_size g.page.switches)
  unfolding columns_bytes
  free-columns m = joined-range_same (bar_bytes g) (λ i. column_bytes g.page blanks) 0 m (λ i low high. free i) ∙ blank-columns g.page 0 m

  -- and its columns begin at the multiples of their size
  free-start : (m : ℕ) → start_of g m ≡ m * column_size g.page.switches
  unfolding start_of spaces
  free-start m = ap length (free-columns m) ∙ length-replicate (m * column_size g.page.switches) 32

  -- which is what a gutter begins with
  pub ready-free : (bytes offsets : List ℕ) (m size : ℕ) → length g.positions ≡ n → m ≡ columns g → size ≡ column_size g.page.switches
      → bytes ≡ spaces (m * size) → offsets ≡ map (λ k. k * size) (upto m) → IsReady g bytes offsets
  ready-free bytes offsets m size len count same b o =
      let bars_len : length g.bars ≡ n = ap length off ∙ length-replicate n false in
      record {
        positions = len ∙ sym bars_len;
        text = b ∙ (λ i. spaces (count i * same i)) ∙ sym (free-columns (columns g));
        starts = o ∙ (λ i. map (λ k. k * same i) (upto (count i))) ∙ ap (λ f. map f (upto (columns g))) (λ i k. sym (free-start k) i);
      }

-- ---- whether a bar stands

-- a bar that was read is that of its column
pub bar-read : (g : GutterFields) (i : ℕ) (x : Bool) → i < length g.bars → x ≡ get_or g.bars i x → x ≡ bar_in g.bars i
unfolding bar_in
bar-read g i x h e = get_or_read g.bars i x h e false

-- past the last label none stands
pub bar-past : (g : GutterFields) (i : ℕ) → length g.bars ≤ i → bar_in g.bars i ≡ false
unfolding bar_in
bar-past g i h = get_or_past g.bars i false h
