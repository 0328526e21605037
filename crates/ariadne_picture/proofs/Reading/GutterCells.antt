-- The cells of the gutter of a row: the first one of each column, and all behind the first one of a column.
use Rattle.std.proofs.Common.{◌≡◌, ℕ, zero, suc, ◌+◌, ◌-◌, ◌*◌, ◌/◌, ◌%◌, ◌<◌, ◌≤◌, Bool, true, false, refl, sym, ap, ◌∙◌, subst, arith, inl, inr, ◌⊎◌}
use Rattle.std.proofs.Common.{if◌then◌else◌, List}
use Rattle.std.proofs.lemmas.Bool.{cases_Bool, cases_lt}
use Rattle.std.proofs.lemmas.Option.{slice_get_within}
use Rattle.ariadne_picture.specs.declared.switches.Switches.{Switches}
use Rattle.ariadne_picture.specs.declared.label_info.LabelInfo.{LabelInfo}
use Rattle.ariadne_picture.specs.declared.cell.Glyph.{Glyph}
use Rattle.ariadne_picture.specs.declared.cell.Glyph.TheVariants.{Hbar}
use Rattle.ariadne_picture.specs.Ranks.{gutter_labels}
use Rattle.ariadne_picture.specs.Rows.{Row}
use Rattle.ariadne_picture.specs.Cells.{column_ink}
use Rattle.ariadne_picture.specs.Pieces.{Piece, Section, column_size, gutter_len}
use Rattle.ariadne_picture.specs.Placing.Cells.{is_glyph, is_level}
use Rattle.ariadne_picture.specs.Placing.Group.{set_of, column_cell, text_cell, arrow_column}
use Rattle.ariadne_picture.specs.Placing.Rows.{gutter_cell, cell_at}
use Rattle.ariadne_picture.specs.Placing.GutterEnds.{is_level_right_of}
use Rattle.ariadne_picture.proofs.Lists.Elements.{all-range, list_all-true}
use Rattle.ariadne_picture.proofs.Cells.RowCells.{ink-tail, column-at, column-first}
use Rattle.ariadne_picture.proofs.Cells.GutterInks.{gutter-some}
use Rattle.ariadne_picture.proofs.Reading.HeadPlaces.{IsGutterLabelOf}
use Rattle.ariadne_picture.proofs.Cells.InkCells.{IsLevel, ink_cell, shows-glyph, shows-level}
use Rattle.ariadne_picture.proofs.Reading.Pictures.{rows_of, Picture, read, number}
use Rattle.ariadne_picture.proofs.Reading.TextRows.{IsTextRow, front-at}

-- the first cell of column i in row n shows a glyph
abbrev pub column_shows : Picture → Section → ℕ → ℕ → Glyph → Bool
column_shows v s n i glyph = is_glyph (set_of s) glyph (gutter_cell (rows_of v) s n i)

-- cell c of columns of n cells each, of which there are len behind the first base cells: the second one of column i, or
-- one of a later column
record IsColumnCell (n base len i c : ℕ) : Type 0 where
  pub column : ℕ
  pub offset : ℕ
  pub is : c ≡ base + column * n + offset
  pub small : offset < n
  pub behind : ((column ≡ i) × (offset ≡ 1)) ⊎ (i < column)
  pub few : column < len

-- so stands each cell behind the first one of column i, as columns have one cell or two
columns-behind : (n base len i c : ℕ) → (n ≡ 1) ⊎ (n ≡ 2) → base + i * n + 1 ≤ c → c < base + len * n → IsColumnCell n base len i c
columns-behind n base len i c (inl e) =
    subst (λ n. base + i * n + 1 ≤ c → c < base + len * n → IsColumnCell n base len i c) (sym e) (λ low high.
    record { column = c - base; offset = 0; is = omega arith; small = omega arith; behind = inr (omega arith); few = omega arith })
columns-behind n base len i c (inr e) =
    subst (λ n. base + i * n + 1 ≤ c → c < base + len * n → IsColumnCell n base len i c) (sym e) (λ low high.
    record {
      column = (c - base) / 2;
      offset = (c - base) % 2;
      is = omega arith;
      small = omega arith;
      behind = elim (cases_lt i ((c - base) / 2)) [ inl more ↦ inr more | inr same ↦ inl (omega arith, omega arith) ];
      few = omega arith;
    })

-- a column has one cell in a compact picture, else two
column-sizes : (switches : Switches) → (column_size switches ≡ 1) ⊎ (column_size switches ≡ 2)
unfolding column_size
column-sizes switches = elim (cases_Bool switches.compact) [ inl one ↦ inl (rw one refl) | inr two ↦ inr (rw two refl) ]

module _ (v : Picture) {g : ℕ} {s : Section} {x : Row} {text : List Piece} (r : IsTextRow v g s x text) where
  -- the first cell of a column shows its ink
  pub gutter-cell : (i : ℕ) → i < gutter_len s.sheet → gutter_cell (rows_of v) s (number v g s x) i ≡ ink_cell v s (column_ink s.sheet x i)
  gutter-cell i few = front-at v r (column_cell s i) _ (read v column-first v.width s x i few)

  -- so it shows the glyph of the ink
  pub gutter-glyph : (i : ℕ) {glyph : Glyph} → i < gutter_len s.sheet → (column_ink s.sheet x i).first ≡ glyph
      → column_shows v s (number v g s x) i glyph ≡ true
  gutter-glyph i {glyph} few e = rw (gutter-cell i few) (shows-glyph v s _ _ e)

  -- a second cell shows the other glyph of its ink
  pub second-glyph : (i : ℕ) {glyph : Glyph} → i < gutter_len s.sheet → s.sheet.switches.compact ≡ false → (column_ink s.sheet x i).rest ≡ glyph
      → is_glyph (set_of s) glyph (cell_at (rows_of v) (number v g s x) (column_cell s i + 1)) ≡ true
  unfolding column_size
  second-glyph i {glyph} few loose e =
      let two : 1 < column_size s.sheet.switches = rw loose (omega arith) in
      let q = ink-tail (set_of s) (column_ink s.sheet x i) (column_size s.sheet.switches) 0 two in
      ap (is_glyph (set_of s) glyph) (front-at v r (column_cell s i + 1) _ (read v column-at v.width s x i 1 _ few q))
      ∙ shows-glyph v s _ _ e

  -- all cells behind the first one of column i are level, where its tail and all inks of later columns are
  pub level-right : (i : ℕ) → (column_ink s.sheet x i).rest ≡ Hbar
      → ((j : ℕ) → i < j → j < gutter_len s.sheet → IsLevel (column_ink s.sheet x j).first × ((column_ink s.sheet x j).rest ≡ Hbar))
      → read v is_level_right_of s i (number v g s x) ≡ true
  unfolding is_level_right_of column_cell text_cell
  level-right i tail f =
      list_all-true _ _ (all-range _ (base + i * size + 1) (base + gutter_len s.sheet * size - (base + i * size + 1)) (λ j less.
      one _ (columns-behind size base (gutter_len s.sheet) i (base + i * size + 1 + j) (column-sizes s.sheet.switches) (omega arith) (omega arith))))
    where
      base : ℕ
      base = if s.sheet.switches.compact then 2 else 3

      size : ℕ
      size = column_size s.sheet.switches

      level : ℕ → Type 0
      level c = is_level (set_of s) (cell_at (rows_of v) (number v g s x) c) ≡ true

      tail_level : (j o : ℕ) → j < gutter_len s.sheet → suc o < size → (column_ink s.sheet x j).rest ≡ Hbar → level (base + j * size + suc o)
      tail_level j o few small e =
          let q = ink-tail (set_of s) (column_ink s.sheet x j) size o small in
          ap (is_level (set_of s)) (front-at v r _ _ (read v column-at v.width s x j (suc o) _ few q))
          ∙ shows-level v s _ _ (inl e)

      at_offset : (j o : ℕ) → o < size → j < gutter_len s.sheet → i < j → level (base + j * size + o)
      at_offset j zero small few more =
          let z : base + j * size + 0 ≡ base + j * size = omega arith in
          subst level (sym z) (ap (is_level (set_of s)) (gutter-cell j few) ∙ shows-level v s _ _ (f j more few).0)
      at_offset j (suc o) small few more = tail_level j o few small (f j more few).1

      one : (c : ℕ) → IsColumnCell size base (gutter_len s.sheet) i c → level c
      one c h = subst level (sym h.is) (elim h.behind [
        | inl e ↦
            rw (e.0, e.1) (tail_level i 0 (rw e.0 at h.few) (rw e.1 at h.small) tail)
        | inr more ↦ at_offset h.column h.offset h.small h.few more
      ])

module _ {v : Picture} {g : ℕ} {s : Section} {i : ℕ} {a : LabelInfo} (o : IsGutterLabelOf v g s i a) where
  -- the column of a gutter label stands before that of arrow heads, which is the gutter's last
  pub few : i < arrow_column s
  few = slice_get_within (gutter_labels s.sheet.labels) i a o.owned

  pub arrow-few : arrow_column s < gutter_len s.sheet
  arrow-few = let size = gutter-some s.sheet i a o.owned in omega (arith, size)

  pub column-few : i < gutter_len s.sheet
  column-few = let less = few in let last = arrow-few in omega (arith, less, last)

  -- so a row with a gutter shows the glyph of its ink there
  pub own-glyph : {x : Row} {text : List Piece} {glyph : Glyph} → IsTextRow v g s x text → (column_ink s.sheet x i).first ≡ glyph
      → column_shows v s (number v g s x) i glyph ≡ true
  own-glyph r = gutter-glyph v r i column-few
