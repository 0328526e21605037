-- The clause on gutter bars: the column of a gutter label has strokes from its head to its corner, and
-- none elsewhere.
use Rattle.std.specs.Prelude.{ℕ, ◌+◌, ◌-◌, Bool, ◌&&◌, ◌||◌, ◌==◌, nat_le, nat_lt, if◌then◌else◌, List}
use Rattle.std.specs.Prelude.{length, drop, filter}
use Rattle.std.specs.List.{list_all, list_any}
use Rattle.ariadne_picture.specs.declared.switches.CharSet.{CharSet}
use Rattle.ariadne_picture.specs.declared.label_info.LabelInfo.{LabelInfo}
use Rattle.ariadne_picture.specs.declared.cell.Glyph.TheVariants.{Hbar, Vbar, VbarGap, Rarrow, Ltop}
use Rattle.ariadne_picture.specs.declared.cell.Glyph.TheVariants.{Lbot, Lcross}
use Rattle.ariadne_picture.specs.Lists.{all_numbered, any_numbered}
use Rattle.ariadne_picture.specs.Ranks.{gutter_labels}
use Rattle.ariadne_picture.specs.Pieces.{Section, glyph_text}
use Rattle.ariadne_picture.specs.Canvas.{Cell}
use Rattle.ariadne_picture.specs.Placing.Cells.{is_text, is_blank, is_glyph, is_level}
use Rattle.ariadne_picture.specs.Placing.Group.{set_of, shown_lines, arrow_column, text_cell}
use Rattle.ariadne_picture.specs.Placing.Rows.{Placing, between, row_at, cell_at, gutter_cell}

-- the first text ends in the second
unfoldable pub ends_in : List ℕ → List ℕ → Bool
ends_in text end = is_text (drop (length text - length end) text) end

module _ (canvas : List (List Cell)) (sections : List Section) (p : Placing) where
  -- row n reaches over the gutter
  abbrev pub has_gutter : Section → ℕ → Bool
  has_gutter s n = nat_le (text_cell s) (length (row_at canvas n))

  -- the rows of a group that have gutter cells
  unfoldable pub gutter_rows : ℕ → Section → List ℕ
  gutter_rows g s =
      filter (λ n. is_blank (cell_at canvas n 0) && has_gutter s n) (between (p.start g) (p.start (g + 1)))

  -- row n stands in place of hidden lines, and shows that
  unfoldable pub is_gap_row : CharSet → ℕ → Bool
  is_gap_row set n =
      is_blank (cell_at canvas n 0) && ends_in (cell_at canvas n 1).text (glyph_text set VbarGap)

  module _ (g : ℕ) (s : Section) where
    -- row n, from the head of gutter label i, which is a, to its corner, has a stroke of it; a horizontal
    -- is that of the head or the message of a gutter label before i
    unfoldable pub is_bar : ℕ → LabelInfo → ℕ → Bool
    is_bar i a n =
        let set = set_of s in
        let c = gutter_cell canvas s n i in
        if n == p.head_row g i then is_glyph set Ltop c
        else if n == p.message_row a.position then is_glyph set Lbot c
        else if list_any (λ l. p.source_row g l == n) (shown_lines s)
        then is_glyph set Vbar c || is_glyph set Lcross c
        else if is_gap_row set n then is_glyph set VbarGap c
        else is_glyph set Vbar c || (any_numbered (λ m b.
        nat_lt m i && ((p.head_row g m == n) || (p.message_row b.position == n))) (gutter_labels s.sheet.labels)
        && is_level set c)

    -- its column has strokes in these rows, and elsewhere blanks, or horizontals of others
    unfoldable pub is_column_traced : ℕ → LabelInfo → Bool
    is_column_traced i a =
        let first = p.head_row g i in
        let last = p.message_row a.position in
        list_all (λ n. has_gutter s n && is_bar i a n) (between first (last + 1))
        && list_all (λ n.
        let c = gutter_cell canvas s n i in
        (nat_le first n && nat_le n last) || is_blank c || is_glyph (set_of s) Hbar c) (gutter_rows g s)

    -- the column of arrow heads has no bar
    unfoldable pub is_last_column_free : Bool
    is_last_column_free =
        (arrow_column s == 0)
        || list_all (λ n.
        let c = gutter_cell canvas s n (arrow_column s) in
        is_blank c || is_glyph (set_of s) Hbar c || is_glyph (set_of s) Rarrow c) (gutter_rows g s)

  -- the clause
  unfoldable pub has_gutter_bars : Bool
  has_gutter_bars =
      all_numbered (λ g s.
      all_numbered (is_column_traced g s) (gutter_labels s.sheet.labels) && is_last_column_free g s) sections
