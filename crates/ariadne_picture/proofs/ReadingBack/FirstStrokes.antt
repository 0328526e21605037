-- Behind the gutter of the arrow row of a message stands a stroke or a blank, and no such cell in bare rows, helps and
-- notes.
use Rattle.ariadne_picture.specs.ReadBack.Rows.{Known}
use Rattle.std.proofs.Common.{◌≡◌, ℕ, zero, suc, ◌+◌, ◌<◌, ◌≤◌, Bool, true, false, not, ◌&&◌, ◌==◌, List, [], ◌∷◌, ◌++◌, length, Option, Some, None}
use Rattle.std.proofs.Common.{refl, sym, ap, ◌∙◌, arith, inl, inr, append_assoc}
use Rattle.std.specs.Prelude.{slice_get}
use Rattle.std.specs.List.{list_any}
use Rattle.std.proofs.lemmas.Bool.{cond_both, cases_lt, lt-ltb}
use Rattle.std.proofs.lemmas.List.{append-nil, get_or_past, length-map}
use Rattle.ariadne_picture.specs.declared.switches.CharSet.{CharSet}
use Rattle.ariadne_picture.specs.declared.switches.CharSet.TheVariants.{Unicode, Ascii}
use Rattle.ariadne_picture.specs.declared.switches.Switches.{Switches}
use Rattle.ariadne_picture.specs.declared.cell.Glyph.TheVariants.{Blank, Vbar, Uarrow}
use Rattle.ariadne_picture.specs.declared.cell.Ink.{Ink}
use Rattle.ariadne_picture.specs.declared.label_info.LineLabel.{LineLabel}
use Rattle.ariadne_picture.specs.declared.label_info.Side.{Side}
use Rattle.ariadne_picture.specs.declared.label_info.Side.TheVariants.{Inline, Starts, Ends}
use Rattle.ariadne_picture.specs.Ranks.{is_inline, is_start}
use Rattle.ariadne_picture.specs.Rows.{Aside, help, note, arrow, bare, blank, piece}
use Rattle.ariadne_picture.specs.Columns.{Layout, layout_of, column_of, width}
use Rattle.ariadne_picture.specs.Strokes.{is_crossed, vertical_at}
use Rattle.ariadne_picture.specs.Cells.{glyph_code, corner_glyph, arrow_ink}
use Rattle.ariadne_picture.specs.Pieces.{Piece, Section, blank_piece, plain_text, spaces, glyph_text, margin_pieces, gutter_pieces}
use Rattle.ariadne_picture.specs.Pieces.{row_pieces, rest_pieces, text_pieces, aside_pieces, aside_prefix, aside_line, aside_name, message_at}
use Rattle.ariadne_picture.specs.Canvas.{Cell}
use Rattle.ariadne_picture.specs.Placing.Cells.{no_cell, is_text, is_glyph}
use Rattle.ariadne_picture.specs.Placing.Group.{set_of, column_cell, text_cell, place_cell, has_cell}
use Rattle.ariadne_picture.specs.Placing.Rows.{row_at, cell_at}
use Rattle.ariadne_picture.specs.ReadBack.Rows.{arrow_glyphs, text_begin, has_strokes}
use Rattle.ariadne_picture.proofs.Lists.Elements.{Has, list_any-true}
use Rattle.ariadne_picture.proofs.Rows.RowNumbers.{at-back}
use Rattle.ariadne_picture.proofs.Cells.InkCells.{ink_cell, shows-glyph}
use Rattle.ariadne_picture.proofs.Cells.RowCells.{length-area, length-margin}
use Rattle.ariadne_picture.proofs.Parts.{has_corner, arrow_ink_by}
use Rattle.ariadne_picture.proofs.Reading.Pictures.{Picture, RowAt, rows_of, number}
use Rattle.ariadne_picture.proofs.Reading.MessageRows.{message-shown}
use Rattle.ariadne_picture.proofs.Reading.PlaceCells.{label-cell}
use Rattle.ariadne_picture.proofs.Reading.ShownLine.{IsArrowRow, arrow-at, places_of}
use Rattle.ariadne_picture.proofs.Reading.TextRows.{IsTextRow, area, arrow_inks, arrow-text, row-read, row-length, text-at}

-- ---- what an arrow row shows at a place

corner-shown : (side : Side) → Has arrow_glyphs (corner_glyph side)
unfolding corner_glyph
corner-shown Inline = record { place = 5; there = refl }
corner-shown Starts = record { place = 6; there = refl }
corner-shown Ends = record { place = 7; there = refl }

place-shown : (switches : Switches) (r : ℕ) (x : LineLabel) (corner crossed : Bool) (up : Option LineLabel)
    → Has arrow_glyphs (arrow_ink_by switches r x corner crossed up).first
unfolding arrow_ink
place-shown switches r x true crossed up = corner-shown x.side
place-shown switches r x false true None = record { place = 1; there = refl }
place-shown switches r x false true (Some w) =
    cond_both switches.cross_gap _ _ (λ (ink : Ink). Has arrow_glyphs ink.first) (λ _. record { place = 1; there = refl }) (λ _. record { place = 3; there = refl })
place-shown switches r x false false None = record { place = 0; there = refl }
place-shown switches r x false false (Some w) =
    cond_both (not (is_inline w.side) && (r == 0) && switches.compact) Uarrow Vbar (Has arrow_glyphs)
    (λ _. record { place = 4; there = refl }) (λ _. record { place = 2; there = refl })

-- a cell shows one of these
abbrev pub shows_some : CharSet → Cell → Bool
shows_some set c = list_any (λ glyph. is_glyph set glyph c) arrow_glyphs

blank-shown : (set : CharSet) (c : Cell) → c.text ≡ 32 ∷ [] → shows_some set c ≡ true
unfolding is_glyph glyph_text glyph_code lib.Utf8.encode
blank-shown set c e = list_any-true (λ glyph. is_glyph set glyph c) arrow_glyphs 0 Blank refl (is set)
  where
    is : (set : CharSet) → is_glyph set Blank c ≡ true
    is Unicode = ap (λ t. is_text t (32 ∷ [])) e
    is Ascii = ap (λ t. is_text t (32 ∷ [])) e

-- ---- cells that show none

none-past : (set : CharSet) → shows_some set no_cell ≡ false
unfolding is_glyph glyph_text glyph_code lib.Utf8.encode
none-past Unicode = refl
none-past Ascii = refl

-- two blanks or more are none
none-wide : (set : CharSet) (w : ℕ) (t : List ℕ) → list_any (λ glyph. is_text (spaces (w + 2) ++ t) (glyph_text set glyph)) arrow_glyphs ≡ false
unfolding spaces glyph_text glyph_code lib.Utf8.encode
none-wide Unicode w t = let z : w + 2 ≡ suc (suc w) = omega arith in rw z refl
none-wide Ascii w t = let z : w + 2 ≡ suc (suc w) = omega arith in rw z refl

-- nor are the words in front of helps and notes
none-word : (set : CharSet) (a : Aside) (t : List ℕ) → list_any (λ glyph. is_text (aside_name a ++ t) (glyph_text set glyph)) arrow_glyphs ≡ false
unfolding aside_name glyph_text glyph_code lib.Utf8.encode
none-word Unicode help t = refl
none-word Ascii help t = refl
none-word Unicode note t = refl
none-word Ascii note t = refl

-- ---- the first place with a cell

record FirstPlace (switches : Switches) (y : Layout) (n : ℕ) : Type 0 where
  pub place : ℕ
  pub few : place < n
  pub begins : column_of switches y place ≡ 0
  pub some : 0 < width switches y place

first-place : (switches : Switches) (y : Layout) (n : ℕ) → 0 < column_of switches y n → FirstPlace switches y n
unfolding column_of width
first-place switches y zero h = absurd (omega arith)
first-place switches y (suc n) h = elim (cases_lt 0 (column_of switches y n)) [
  | inl some ↦
      let f = first-place switches y n some in
      let few = f.few in
      record { place = f.place; few = omega (arith, few); begins = f.begins; some = f.some }
  | inr none ↦ record { place = n; few = omega arith; begins = omega arith; some = omega arith }
]

-- ---- the rows of a picture

-- the cell behind the gutter of row n
abbrev pub behind : Picture → Section → ℕ → Cell
behind v s n = cell_at (rows_of v) n (text_cell s)

-- tells whether the row has strokes
pub strokes-by : (v : Picture) (sources : List Known) (g : ℕ) (s : Section) (n : ℕ) → slice_get v.sections g ≡ Some s
    → text_begin (rows_of v) sources v.texts.switches n ≡ text_cell s
    → has_strokes (rows_of v) sources v.texts.switches n ≡ shows_some (set_of s) (behind v s n)
unfolding has_strokes
strokes-by v sources g s n e begin =
    let set = ap (λ (switches : Switches). switches.char_set) (v.drawn.same_switches g s e) in
    λ i. list_any (λ glyph. is_glyph (sym set i) glyph (cell_at (rows_of v) n (begin i))) arrow_glyphs

-- an ink that begins with one of the glyphs shows it
ink-shown : (v : Picture) (s : Section) (ink : Ink) → Has arrow_glyphs ink.first → shows_some (set_of s) (ink_cell v s ink) ≡ true
ink-shown v s ink h =
    list_any-true (λ glyph. is_glyph (set_of s) glyph (ink_cell v s ink)) arrow_glyphs h.place ink.first h.there
    (shows-glyph v s ink.first ink.first_paint refl)

-- a row that ends before it shows none
ends-before : (v : Picture) (s : Section) (n : ℕ) → length (row_at (rows_of v) n) ≤ text_cell s → shows_some (set_of s) (behind v s n) ≡ false
unfolding cell_at
ends-before v s n short =
    ap (shows_some (set_of s)) (get_or_past (row_at (rows_of v) n) (text_cell s) no_cell short) ∙ none-past (set_of s)

module _ (v : Picture) {g : ℕ} {s : Section} where
  -- the arrow row of a message shows a stroke or a blank there
  pub arrow-shows-some : {l r : ℕ} {x : LineLabel} → IsArrowRow v g s l r x → is_start x.side ≡ false → shows_some (set_of s) (behind v s (number v g s (arrow l r))) ≡ true
  unfolding layout_of place_cell has_cell
  arrow-shows-some {l} {r} {x} q off =
      let switches = s.sheet.switches in
      let y = layout_of s.sheet l in
      let places = area s l (arrow_inks s l r) in
      let message = plain_text (message_at v.texts x.info.position) in
      let n = number v g s (arrow l r) in
      elim (cases_lt 0 (column_of switches y (places_of s l))) [
        | inl some ↦
            let f = first-place switches y (places_of s l) some in
            let ink : Ink = arrow_ink_by switches r x (has_corner y.margin x f.place) (is_crossed x.side x.place f.place) (vertical_at y r f.place) in
            let shown : Has arrow_glyphs ink.first = place-shown switches r x _ _ (vertical_at y r f.place) in
            let z : text_cell s + column_of switches y f.place ≡ text_cell s = omega (arith, f.begins) in
            let cell = ap (λ c. cell_at (rows_of v) n c) (sym z) ∙ label-cell v q f.place f.few (lt-ltb 0 (width switches y f.place) f.some) in
            ap (shows_some (set_of s)) cell ∙ ink-shown v s ink shown
        | inr none ↦
            let text : IsTextRow v g s (arrow l r) (places ++ blank_piece ∷ message ∷ []) =
            rw (message-shown v.texts _ x q.there off) at (arrow-text v (arrow-at v q)) in
            let size = length-area switches y (arrow_inks s l r) in
            let z : text_cell s + (length places + 0) ≡ text_cell s = omega (arith, size, none) in
            let cell = ap (λ c. cell_at (rows_of v) n c) (sym z) ∙ text-at v text (length places + 0) blank_piece (at-back places (blank_piece ∷ message ∷ []) 0) in
            blank-shown (set_of s) (behind v s n) (ap (λ (c : Cell). c.text) cell)
      ]

  module _ {k : ℕ} where
    -- as a bare row does
    pub bare-shows-none : {l : ℕ} → RowAt v g s k (bare l) → shows_some (set_of s) (behind v s (number v g s (bare l))) ≡ false
    unfolding row_pieces rest_pieces text_cell column_cell
    bare-shows-none {l} is =
        let switches = s.sheet.switches in
        let size = ap length (row-read v is) ∙ length-map _ _ ∙ ap length (append-nil (margin_pieces switches v.width s.display_offset (bare l)))
        ∙ length-margin switches v.width s.display_offset (bare l) in
        ends-before v s (number v g s (bare l)) (omega (arith, size))

    -- and the row above a help or a note
    pub blank-shows-none : {a : Aside} {m : ℕ} → RowAt v g s k (blank a m) → shows_some (set_of s) (behind v s (number v g s (blank a m))) ≡ false
    unfolding row_pieces rest_pieces text_pieces
    blank-shows-none {a} {m} is =
        let margin = margin_pieces s.sheet.switches v.width s.display_offset (blank a m) in
        let text : IsTextRow v g s (blank a m) [] =
        record { index = k; is = is; parts = sym (append_assoc margin (gutter_pieces s.sheet (blank a m)) []) } in
        let size = row-length v text in
        ends-before v s (number v g s (blank a m)) (omega (arith, size))

    aside-text : (a : Aside) (m q : ℕ) → RowAt v g s k (piece a m q) → IsTextRow v g s (piece a m q) (aside_pieces v.texts a m q)
    unfolding row_pieces rest_pieces text_pieces
    aside-text a m q is =
        let margin = margin_pieces s.sheet.switches v.width s.display_offset (piece a m q) in
        record { index = k; is = is; parts = sym (append_assoc margin (gutter_pieces s.sheet (piece a m q)) _) }

    aside-shows-none : (a : Aside) (m q : ℕ) → RowAt v g s k (piece a m q) → (p : Piece) → slice_get (aside_pieces v.texts a m q) 0 ≡ Some p
        → list_any (λ glyph. is_text p.text (glyph_text (set_of s) glyph)) arrow_glyphs ≡ false
        → shows_some (set_of s) (behind v s (number v g s (piece a m q))) ≡ false
    unfolding is_glyph
    aside-shows-none a m q is p there none =
        let z : text_cell s + 0 ≡ text_cell s = omega arith in
        ap (λ c. shows_some (set_of s) (cell_at (rows_of v) (number v g s (piece a m q)) c)) (sym z)
        ∙ ap (shows_some (set_of s)) (text-at v (aside-text a m q is) 0 p there) ∙ none

    -- a help or a note begins with its word, or with blanks
    pub piece-shows-none : (a : Aside) (m q : ℕ) → RowAt v g s k (piece a m q) → shows_some (set_of s) (behind v s (number v g s (piece a m q))) ≡ false
    unfolding aside_pieces aside_prefix
    piece-shows-none a m zero is = aside-shows-none a m zero is _ refl (none-word (set_of s) a _)
    piece-shows-none a m (suc q) is =
        aside-shows-none a m (suc q) is _ refl (none-wide (set_of s) (length (aside_prefix v.texts a m)) (aside_line v.texts a m (suc q)))
