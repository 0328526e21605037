-- What the rows of a picture are is told by their margins: group headers, rows that show a line, and rows that
-- stand below lines.
use Rattle.ariadne_picture.specs.ReadBack.Rows.{Known}
use Rattle.std.proofs.Common.{◌≡◌, ℕ, ◌+◌, Bool, true, false, not, ◌&&◌, List, [], ◌∷◌, ◌++◌, map, refl, sym, ap, ◌∙◌, arith, append_assoc}
use Rattle.std.specs.Prelude.{slice_index_or, decimal, codes}
use Rattle.std.proofs.lemmas.Bool.{true≢false, false_from_ne_true}
use Rattle.ariadne_picture.specs.declared.switches.CharSet.{CharSet}
use Rattle.ariadne_picture.specs.declared.switches.CharSet.TheVariants.{Unicode, Ascii}
use Rattle.ariadne_picture.specs.declared.switches.Switches.{Switches}
use Rattle.ariadne_picture.specs.declared.cell.Glyph.TheVariants.{Vbar, VbarGap, Lbox}
use Rattle.ariadne_picture.specs.Groups.{printed_number}
use Rattle.ariadne_picture.specs.Rows.{Row, group_header, spacer, source, gap, tail}
use Rattle.ariadne_picture.specs.Cells.{glyph_code}
use Rattle.ariadne_picture.specs.Pieces.{Texts, Section, spaces, glyph_text, margin_text, margin_pieces, row_pieces, group_header_pieces}
use Rattle.ariadne_picture.specs.Pieces.{spacer_pieces, tail_pieces}
use Rattle.ariadne_picture.specs.Canvas.{Cell, Palette, cell_of}
use Rattle.ariadne_picture.specs.Placing.Cells.{no_cell, is_text, is_blank, is_glyph}
use Rattle.ariadne_picture.specs.Placing.Rows.{cell_at}
use Rattle.ariadne_picture.specs.Placing.Together.{unindented}
use Rattle.ariadne_picture.specs.ReadBack.Rows.{begins_with_digit, margin_of, is_heading, shows_line, is_below_lines}
use Rattle.ariadne_picture.proofs.Lists.Elements.{pointwise-same}
use Rattle.ariadne_picture.proofs.Cells.MarginTexts.{BeginsBare, unindented-spaces, vbar-bare, source-margin}
use Rattle.ariadne_picture.proofs.Reading.Pictures.{Picture, RowAt, rows_of, number}
use Rattle.ariadne_picture.proofs.Reading.TextRows.{row-read}
use Rattle.ariadne_picture.proofs.Reading.GutterRows.{wide-text, level-text}
use Rattle.ariadne_picture.proofs.OneReading.LinesFound.{text-equal, decimal-begins, glyph-no-digit, row-unnumbered}

-- ---- the kinds of rows, by their names

abbrev pub names_heading : Row → Bool
names_heading group_header = true
names_heading x = false

abbrev pub names_line : Row → Bool
names_line (source l) = true
names_line x = false

-- a row that stands below lines, or in place of them without a broken bar
abbrev pub names_below : Row → Bool
names_below group_header = false
names_below spacer = false
names_below (source l) = false
names_below (gap l) = false
names_below tail = false
names_below x = true

-- a row with a margin
abbrev names_margin : Row → Bool
names_margin group_header = false
names_margin spacer = false
names_margin tail = false
names_margin x = true

-- ---- margins

-- what begins with a digit is no bar
number-no-bar : (set : CharSet) (t : List ℕ) → begins_with_digit t ≡ true → is_text t (glyph_text set Vbar) ≡ false
number-no-bar set t digit =
    false_from_ne_true _ (λ same.
    true≢false (sym digit ∙ ap begins_with_digit (text-equal t (glyph_text set Vbar) same) ∙ glyph-no-digit set Vbar))

-- nor is a broken bar
gap-no-bar : (set : CharSet) → is_text (glyph_text set VbarGap) (glyph_text set Vbar) ≡ false
unfolding glyph_text glyph_code lib.Utf8.encode
gap-no-bar Unicode = refl
gap-no-bar Ascii = refl

gap-bare : (set : CharSet) → BeginsBare (glyph_text set VbarGap)
unfolding glyph_text glyph_code lib.Utf8.encode
gap-bare Unicode = record { first = 0xE2; rest = 0x94 ∷ 0x86 ∷ []; is = refl; bare = λ e. omega arith }
gap-bare Ascii = record { first = 0x3A; rest = []; is = refl; bare = λ e. omega arith }

-- a number behind blanks begins with a digit
source-digit : (set : CharSet) (w display_offset l : ℕ) → begins_with_digit (unindented (margin_text set w display_offset (source l))) ≡ true
source-digit set w display_offset l =
    let number = decimal (printed_number display_offset l) in
    ap begins_with_digit (source-margin set w display_offset l ∙ append_assoc number (codes " ") (glyph_text set Vbar))
    ∙ decimal-begins (printed_number display_offset l) (codes " " ++ glyph_text set Vbar)

-- a bar behind blanks is one
bar-is : (set : CharSet) (n : ℕ) → is_text (unindented (spaces n ++ glyph_text set Vbar)) (glyph_text set Vbar) ≡ true
bar-is set n =
    ap (λ t. is_text t (glyph_text set Vbar)) (unindented-spaces n (glyph_text set Vbar) (vbar-bare set))
    ∙ pointwise-same (glyph_text set Vbar)

-- the margin is a bar in the rows below lines, and in no other
margin-bar : (set : CharSet) (w display_offset : ℕ) (x : Row) → names_margin x ≡ true
    → is_text (unindented (margin_text set w display_offset x)) (glyph_text set Vbar) ≡ names_below x
unfolding margin_text
margin-bar set w display_offset group_header h = absurd (true≢false (sym h))
margin-bar set w display_offset spacer h = absurd (true≢false (sym h))
margin-bar set w display_offset tail h = absurd (true≢false (sym h))
margin-bar set w display_offset (source l) h =
    number-no-bar set (unindented (margin_text set w display_offset (source l))) (source-digit set w display_offset l)
margin-bar set w display_offset (gap l) h =
    ap (λ t. is_text t (glyph_text set Vbar)) (unindented-spaces (w + 1) (glyph_text set VbarGap) (gap-bare set)) ∙ gap-no-bar set
margin-bar set w display_offset x h = bar-is set (w + 1)

-- ---- the first cells of a row

tail-begins : (palette : Palette) (set : CharSet) (w : ℕ) (is_last : Bool)
    → is_blank (slice_index_or (map (cell_of palette) (tail_pieces set w is_last)) 0 no_cell) ≡ false
unfolding tail_pieces spacer_pieces
tail-begins palette set w false = wide-text w
tail-begins palette set w true = level-text set w

-- what has no cell shows no box
no-box : (set : CharSet) → is_glyph set Lbox no_cell ≡ false
unfolding is_glyph glyph_text glyph_code lib.Utf8.encode
no-box set = refl

tail-no-box : (palette : Palette) (set : CharSet) (w : ℕ) (is_last : Bool)
    → is_glyph set Lbox (slice_index_or (map (cell_of palette) (tail_pieces set w is_last)) 3 no_cell) ≡ false
unfolding tail_pieces spacer_pieces
tail-no-box palette set w false = no-box set
tail-no-box palette set w true = no-box set

module _ (palette : Palette) (t : Texts) (w : ℕ) (s : Section) where
  abbrev cell : Row → ℕ → Cell
  cell x c = slice_index_or (map (cell_of palette) (row_pieces t w s x)) c no_cell

  -- a row with a margin begins with one blank, and no other does
  begins : (x : Row) → is_blank (cell x 0) ≡ names_margin x
  unfolding row_pieces group_header_pieces spacer_pieces margin_pieces
  begins group_header = wide-text w
  begins spacer = wide-text w
  begins tail = tail-begins palette s.sheet.switches.char_set w s.is_last
  begins x = refl

  -- the margin follows
  margin-is : (x : Row) → names_margin x ≡ true → (cell x 1).text ≡ margin_text s.sheet.switches.char_set w s.display_offset x
  unfolding row_pieces margin_pieces
  margin-is group_header h = absurd (true≢false (sym h))
  margin-is spacer h = absurd (true≢false (sym h))
  margin-is tail h = absurd (true≢false (sym h))
  margin-is x h = refl

  line-told : (x : Row) → (names_margin x && begins_with_digit (unindented (cell x 1).text)) ≡ names_line x
  line-told group_header = refl
  line-told spacer = refl
  line-told tail = refl
  line-told (source l) =
      ap (λ t. begins_with_digit (unindented t)) (margin-is (source l) refl)
      ∙ source-digit s.sheet.switches.char_set w s.display_offset l
  line-told x = row-unnumbered palette t w s x tt

  below-told : (x : Row)
      → (names_margin x && is_text (unindented (cell x 1).text) (glyph_text s.sheet.switches.char_set Vbar)) ≡ names_below x
  below-told group_header = refl
  below-told spacer = refl
  below-told tail = refl
  below-told x =
      ap (λ t. is_text (unindented t) (glyph_text s.sheet.switches.char_set Vbar)) (margin-is x refl)
      ∙ margin-bar s.sheet.switches.char_set w s.display_offset x refl

  heading-told : (x : Row) → (not (names_margin x) && is_glyph s.sheet.switches.char_set Lbox (cell x 3)) ≡ names_heading x
  unfolding row_pieces group_header_pieces spacer_pieces is_glyph
  heading-told group_header = pointwise-same (glyph_text s.sheet.switches.char_set Lbox)
  heading-told spacer = no-box s.sheet.switches.char_set
  heading-told tail = tail-no-box palette s.sheet.switches.char_set w s.is_last
  heading-told x = refl

-- ---- the rows of a picture

module _ (v : Picture) (sources : List Known) {g : ℕ} {s : Section} {k : ℕ} {x : Row} (is : RowAt v g s k x) where
  cell-is : (c : ℕ) → cell_at (rows_of v) (number v g s x) c ≡ cell v.palette v.texts v.width s x c
  unfolding cell_at
  cell-is c = ap (λ row. slice_index_or row c no_cell) (row-read v is)

  same-set : s.sheet.switches.char_set ≡ v.texts.switches.char_set
  same-set = ap (λ (switches : Switches). switches.char_set) (v.drawn.same_switches g s is.group)

  row-begins : is_blank (cell_at (rows_of v) (number v g s x) 0) ≡ names_margin x
  row-begins = ap is_blank (cell-is 0) ∙ begins v.palette v.texts v.width s x

  -- the rows that show lines are the source rows
  pub line-kind : shows_line (rows_of v) sources v.texts.switches (number v g s x) ≡ names_line x
  unfolding shows_line margin_of
  line-kind =
      (λ i. row-begins i && begins_with_digit (unindented (cell-is 1 i).text)) ∙ line-told v.palette v.texts v.width s x

  -- those below lines are the rows of labels, bare rows, helps and notes
  pub below-kind : is_below_lines (rows_of v) sources v.texts.switches (number v g s x) ≡ names_below x
  unfolding is_below_lines margin_of
  below-kind =
      (λ i. row-begins i && is_text (unindented (cell-is 1 i).text) (glyph_text (sym same-set i) Vbar))
      ∙ below-told v.palette v.texts v.width s x

  -- and the headings are the group headers
  pub heading-kind : is_heading (rows_of v) sources v.texts.switches (number v g s x) ≡ names_heading x
  unfolding is_heading
  heading-kind =
      (λ i. not (row-begins i) && is_glyph (sym same-set i) Lbox (cell-is 3 i)) ∙ heading-told v.palette v.texts v.width s x
