-- The arrow row of a line label: what stands before its own place, there, and behind it.
use Rattle.std.proofs.Common.{◌≡◌, ℕ, ◌+◌, ◌-◌, ◌<◌, ◌≤◌, true, false, Some, sym, ap, ◌∙◌, subst, arith}
use Rattle.std.specs.Prelude.{nat_lt}
use Rattle.std.proofs.lemmas.Bool.{lt-ltb, le-ltb}
use Rattle.ariadne_picture.specs.declared.cell.Glyph.TheVariants.{Hbar}
use Rattle.ariadne_picture.specs.declared.cell.Ink.{Ink}
use Rattle.ariadne_picture.specs.declared.label_info.LineLabel.{LineLabel}
use Rattle.ariadne_picture.specs.declared.switches.Switches.{Switches}
use Rattle.ariadne_picture.specs.Columns.{Layout}
use Rattle.ariadne_picture.specs.Ranks.{is_margin}
use Rattle.ariadne_picture.specs.Strokes.{is_crossed}
use Rattle.ariadne_picture.specs.Cells.{arrow_place, corner_glyph, ink_of}
use Rattle.ariadne_picture.specs.Pieces.{area_pieces, ink_pieces}
use Rattle.ariadne_layout.specs.declared.table.LineTable.{LineTable}
use Rattle.ariadne_layout.specs.Tables.{IsTable, column_in, seen_vertical}
use Rattle.ariadne_render.specs.Pages.{PenFields, Draws}
use Rattle.ariadne_render.specs.declared.area.Backdrop.{Backdrop}
use Rattle.ariadne_render.specs.Areas.{DrawsOver, DrawsPlaces, backdrop_before, backdrop_behind, seen_ink}
use Rattle.ariadne_render.proofs.Areas.{draws_area, draws_more, draws_one, draws_row}
use Rattle.ariadne_render.proofs.SeenInks.{arrow_before, arrow_own, arrow_behind, margin_crossed, margin_uncrossed}

module _ (a : PenFields) (y : Layout) (r : ℕ) (table : LineTable) (t : IsTable a.page.switches y r table) (x : LineLabel)
    (s : Switches) (same : s ≡ a.page.switches) (before behind : Backdrop) (is_before : before ≡ backdrop_before s r x x.side)
    (is_behind : behind ≡ backdrop_behind s r x x.side) where
  -- the inks of the row
  abbrev row : ℕ → Ink
  row k = arrow_place a.page.switches y r (Some x) k

  -- the backdrop before the own place is that of the page's switches
  before_on_page : (k : ℕ) → seen_ink (backdrop_before a.page.switches r x x.side) (seen_vertical table.verticals k)
      ≡ seen_ink before (seen_vertical table.verticals k)
  before_on_page k =
      ap (λ o. seen_ink o (seen_vertical table.verticals k)) (sym (is_before ∙ ap (λ (q : Switches). backdrop_before q r x x.side) same))

  -- and so is that behind it
  behind_on_page : (k : ℕ) → seen_ink (backdrop_behind a.page.switches r x x.side) (seen_vertical table.verticals k)
      ≡ seen_ink behind (seen_vertical table.verticals k)
  behind_on_page k =
      ap (λ o. seen_ink o (seen_vertical table.verticals k)) (sym (is_behind ∙ ap (λ (q : Switches). backdrop_behind q r x x.side) same))

  -- a place before the own one
  ink_before : (k : ℕ) → k < x.place → row k ≡ seen_ink before (seen_vertical table.verticals k)
  ink_before k h = arrow_before a.page.switches y r table t x k h ∙ before_on_page k

  -- a place behind it
  ink_behind : (k : ℕ) → x.place < k → row k ≡ seen_ink behind (seen_vertical table.verticals k)
  ink_behind k h = arrow_behind a.page.switches y r table t x k h ∙ behind_on_page k

  -- where the own place is past the row
  pub arrow_cut : (b : PenFields) (place : ℕ) → place ≡ table.len → place ≤ x.place → DrawsOver a b table before 0 place
      → Draws a b (area_pieces a.page.switches y row)
  arrow_cut b place e past d =
      draws_area a b y r table row t
      (subst (DrawsPlaces a b table row 0) e (draws_row a b table before row 0 place (λ k low high. ink_before k (omega arith)) d))

  -- where it has a corner
  pub arrow_turned : (b c d : PenFields) (place n : ℕ) (corner : Ink) → is_margin y.margin x ≡ false → place ≡ x.place → place < table.len
      → corner ≡ ink_of (corner_glyph x.side) Hbar x.info → n ≡ column_in table.columns (place + 1) - column_in table.columns place
      → DrawsOver a b table before 0 place → Draws b c (ink_pieces b.page.switches.char_set corner n)
      → DrawsOver c d table behind (place + 1) table.len → Draws a d (area_pieces a.page.switches y row)
  arrow_turned b c d place n corner m e within is width front own back =
      let here : corner ≡ row place = is ∙ sym (ap row e ∙ arrow_own a.page.switches y r table t x m) in
      let first : DrawsPlaces a b table row 0 place = draws_row a b table before row 0 place (λ k low high. ink_before k (omega arith)) front in
      let turn : DrawsPlaces b c table row place (place + 1) =
      draws_one b c table row place n within width (subst (λ (o : Ink). Draws b c (ink_pieces b.page.switches.char_set o n)) here own) in
      let last : DrawsPlaces c d table row (place + 1) table.len =
      draws_row c d table behind row (place + 1) table.len (λ k low high. ink_behind k (omega arith)) back in
      draws_area a d y r table row t
      (draws_more a c d table row 0 (place + 1) table.len (omega arith) (omega arith)
      (draws_more a b c table row 0 place (place + 1) (omega arith) (omega arith) first turn) last)

  -- where it leaves the gutter beside the source row
  pub arrow_at_margin : (b c : PenFields) (end : ℕ) → is_margin y.margin x ≡ true → end ≤ table.len
      → ((k : ℕ) → k < table.len → is_crossed x.side x.place k ≡ nat_lt k end)
      → DrawsOver a b table before 0 end → DrawsOver b c table behind end table.len → Draws a c (area_pieces a.page.switches y row)
  arrow_at_margin b c end m within crossed front back =
      let first : DrawsPlaces a b table row 0 end =
      draws_row a b table before row 0 end
      (λ k low high. margin_crossed a.page.switches y r table t x m k (crossed k (omega arith) ∙ lt-ltb k end high) ∙ before_on_page k)
      front in
      let last : DrawsPlaces b c table row end table.len =
      draws_row b c table behind row end table.len
      (λ k low high. margin_uncrossed a.page.switches y r table t x m k (crossed k high ∙ le-ltb k end low) ∙ behind_on_page k)
      back in
      draws_area a c y r table row t (draws_more a b c table row 0 end table.len (omega arith) within first last)
