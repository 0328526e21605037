-- The pieces that each row of a group consists of: texts in one colour, or in none, with the
-- columns that they take. A piece tells whose colour it has, and not which.
use Rattle.std.specs.Prelude.{ℕ, zero, suc, ◌+◌, ◌-◌, Bool, true, false, ◌==◌, if◌then◌else◌, List}
use Rattle.std.specs.Prelude.{[], ◌∷◌, ◌++◌, length, map, replicate, Option, Some, None, filter}
use Rattle.std.specs.Prelude.{slice_index, slice_index_or, slice_get, option_map, option_to_list, unwrap_or, decimal}
use Rattle.std.specs.Prelude.{codes, encode_utf8}
use Rattle.std.specs.Char.{is_whitespace}
use Rattle.std.specs.Str.Lines.{lines}
use Rattle.ariadne_base.specs.Locations.{line_at, column_at, upto}
use Rattle.ariadne_picture.specs.declared.switches.CharSet.{CharSet}
use Rattle.ariadne_picture.specs.declared.switches.CharSet.TheVariants.{Unicode, Ascii}
use Rattle.ariadne_picture.specs.declared.label_info.LabelInfo.{LabelInfo}
use Rattle.ariadne_picture.specs.declared.label_info.LineLabel.{LineLabel}
use Rattle.ariadne_picture.specs.declared.cell.Glyph.{Glyph}
use Rattle.ariadne_picture.specs.declared.cell.Glyph.TheVariants.{Hbar, Vbar, VbarGap, Ltop, Rbot}
use Rattle.ariadne_picture.specs.declared.cell.Glyph.TheVariants.{Lbox, Rbox, Lcross}
use Rattle.ariadne_picture.specs.declared.cell.Paint.{Paint}
use Rattle.ariadne_picture.specs.declared.cell.Paint.TheVariants.{Plain, Margin}
use Rattle.ariadne_picture.specs.declared.cell.Paint.TheVariants.{SkippedMargin, Unimportant, Note}
use Rattle.ariadne_picture.specs.declared.cell.Ink.{Ink}
use Rattle.ariadne_picture.specs.Lists.{best, joined}
use Rattle.ariadne_picture.specs.declared.switches.Switches.{Switches}
use Rattle.ariadne_picture.specs.Groups.{printed_number}
use Rattle.ariadne_picture.specs.Ranks.{Sheet, is_start, multi_line_labels, gutter_labels}
use Rattle.ariadne_picture.specs.Rows.{Aside, help, note, Row, group_header, spacer, source}
use Rattle.ariadne_picture.specs.Rows.{alternate, arrow, gap, bare, piece, tail, rows}
use Rattle.ariadne_picture.specs.declared.sight.Sight.{Sight}
use Rattle.ariadne_picture.specs.declared.sight.Sight.TheVariants.{Seen, Marked, Unseen}
use Rattle.ariadne_picture.specs.Columns.{Layout, layout_of, text_columns, shown, shown_columns}
use Rattle.ariadne_picture.specs.Columns.{whole_column, sight_of, mark_columns, width, arrow_len}
use Rattle.ariadne_picture.specs.Strokes.{holds, is_preferred}
use Rattle.ariadne_picture.specs.Cells.{glyph_code, paint_of, alternate_place, arrow_place, column_ink}

-- a text, whose colour it has, and its columns
pub record Piece : Type 0 where
  pub text : List ℕ
  pub paint : Paint
  pub columns : ℕ

-- a text in one colour
abbrev pub painted_text : Paint → List ℕ → Piece
painted_text paint text = record { text = text; paint = paint; columns = text_columns text }

-- a text without colour
abbrev pub plain_text : List ℕ → Piece
plain_text text = painted_text Plain text

-- n blanks
unfoldable pub spaces : ℕ → List ℕ
spaces n = replicate n 32

-- one blank
abbrev pub blank_piece : Piece
blank_piece = record { text = 32 ∷ []; paint = Plain; columns = 1 }

-- the bytes of a stroke
unfoldable pub glyph_text : CharSet → Glyph → List ℕ
glyph_text set glyph = encode_utf8 (glyph_code set glyph)

-- a stroke of one column
abbrev pub stroke : CharSet → Glyph → Paint → Piece
stroke set glyph paint = record { text = glyph_text set glyph; paint = paint; columns = 1 }

-- the cells of a place or column of n columns
unfoldable pub ink_pieces : CharSet → Ink → ℕ → List Piece
ink_pieces set ink zero = []
ink_pieces set ink (suc n) =
    stroke set ink.first ink.first_paint ∷ replicate n (stroke set ink.rest ink.rest_paint)

-- ---- the text of a source row

-- the labels that may colour a character of a line, of a group with these multi-line labels
unfoldable pub painters : List LabelInfo → Layout → List LabelInfo
painters multi_line y =
    map (λ x. x.info) (option_to_list y.margin) ++ multi_line ++ map (λ x. x.info) y.labels

-- the colour of the preferred one of those whose span holds character k of the line
unfoldable pub char_paint : List LabelInfo → Layout → ℕ → Paint
char_paint multi_line y k =
    let painter = best is_preferred (filter (λ a. holds a (y.offset + k)) (painters multi_line y)) in
    unwrap_or (option_map paint_of painter) Unimportant

-- a character as it is shown: white space as a blank
unfoldable pub shown_text : ℕ → List ℕ
shown_text c = if is_whitespace c then 32 ∷ [] else encode_utf8 c

-- the shown character c that begins at column x: each blank of a tab is a cell of its own
unfoldable pub char_pieces : Switches → Paint → ℕ → ℕ → List Piece
char_pieces switches paint column c =
    let columns = shown_columns switches.tab_width column c in
    if c == 9 then replicate columns (record { text = 32 ∷ []; paint = paint; columns = 1 })
    else record { text = shown_text c; paint = paint; columns = columns } ∷ []

-- the mark in place of what is cut
unfoldable pub mark_text : CharSet → List ℕ
mark_text Unicode = encode_utf8 0x2026
mark_text Ascii = codes "..."

-- what is seen of place k of a line, whose character is c
unfoldable pub seen_pieces : Switches → Paint → Layout → ℕ → ℕ → Sight → List Piece
seen_pieces switches paint y k c Seen =
    char_pieces switches paint (whole_column switches.tab_width (shown y) k) c
seen_pieces switches paint y k c Marked =
    record { text = mark_text switches.char_set; paint = paint; columns = mark_columns switches.char_set } ∷ []
seen_pieces switches paint y k c Unseen = []

-- the cells of place k of a source row, whose character is c
unfoldable pub source_pieces : Switches → Paint → Layout → ℕ → ℕ → List Piece
source_pieces switches paint y k c = seen_pieces switches paint y k c (sight_of y k)

-- the text of a source row, place by place
unfoldable pub shown_pieces : Switches → List LabelInfo → Layout → List Piece
shown_pieces switches multi_line y =
    joined (λ k. source_pieces switches (char_paint multi_line y k) y k (slice_index (shown y) k))
    (upto (length (shown y)))

-- ---- the text area of an alternate or arrow row, whose place k has this ink

-- the places of such a row, from left to right
unfoldable pub area_pieces : Switches → Layout → (ℕ → Ink) → List Piece
area_pieces switches y ink_at =
    joined (λ k. ink_pieces switches.char_set (ink_at k) (width switches y k))
    (upto (arrow_len switches y))

-- ---- the parts of a row of a line; digits is the number width, display_offset the display offset

-- the text of a row's margin: the line's number, or blanks, and a bar
unfoldable pub margin_text : CharSet → ℕ → ℕ → Row → List ℕ
margin_text set digits display_offset (source l) =
    let number = decimal (printed_number display_offset l) in
    spaces (digits - length number) ++ number ++ codes " " ++ glyph_text set Vbar
margin_text set digits display_offset (gap l) = spaces (digits + 1) ++ glyph_text set VbarGap
margin_text set digits display_offset row = spaces (digits + 1) ++ glyph_text set Vbar

-- its colour
unfoldable pub margin_paint : Row → Paint
margin_paint (source l) = Margin
margin_paint row = SkippedMargin

-- the margin of a row: a blank, its text, and a blank if not compact
unfoldable pub margin_pieces : Switches → ℕ → ℕ → Row → List Piece
margin_pieces switches digits display_offset row =
    blank_piece ∷ record {
      text = margin_text switches.char_set digits display_offset row;
      paint = margin_paint row;
      columns = digits + 2;
    }
    ∷ (if switches.compact then [] else blank_piece ∷ [])

-- how many cells a gutter column has
unfoldable pub column_size : Switches → ℕ
column_size switches = if switches.compact then 1 else 2

-- the number of gutter columns: one for each gutter label and one for arrow heads
unfoldable pub gutter_len : Sheet → ℕ
gutter_len h = if length (gutter_labels h.labels) == 0 then 0 else length (gutter_labels h.labels) + 1

-- the gutter of a row, column by column
unfoldable pub gutter_pieces : Sheet → Row → List Piece
gutter_pieces h row =
    joined (λ i. ink_pieces h.switches.char_set (column_ink h row i) (column_size h.switches))
    (upto (gutter_len h))

-- ---- the rows of a group

-- what a report's picture reads beside the labels: its switches, its texts (first the code and the
-- word of the kind), and the message of the label at each position
pub record Texts : Type 0 where
  pub switches : Switches
  pub multiline_arrows : Bool
  pub kind_text : List ℕ
  pub message : Option (List ℕ)
  pub helps : List (List ℕ)
  pub notes : List (List ℕ)
  pub messages : List (List ℕ)

-- a group within the picture: its labels and lines, what its source is called, what is added to the
-- numbers of the lines, the offset that its header names, and where it stands
pub record Section : Type 0 where
  pub sheet : Sheet
  pub name : List ℕ
  pub display_offset : ℕ
  pub header_offset : Option ℕ
  pub is_first : Bool
  pub is_last : Bool

-- the numbers of the line and the column of an offset, if there is one
unfoldable pub location_text : List (List ℕ) → ℕ → Option ℕ → List ℕ
location_text ls display_offset None = codes "?:?"
location_text ls display_offset (Some o) =
    decimal (printed_number display_offset (line_at length ls o)) ++ codes ":"
    ++ decimal (column_at length ls o + 1)

-- what it says in its box: what its source is called, and a place in it
abbrev pub place_text : Section → List ℕ
place_text s =
    codes " " ++ s.name ++ codes ":" ++ location_text s.sheet.lines s.display_offset s.header_offset ++ codes " "

-- the first row of a group: where its source is pointed at
unfoldable pub group_header_pieces : Section → ℕ → List Piece
group_header_pieces s digits =
    let set = s.sheet.switches.char_set in
    plain_text (spaces (digits + 2)) ∷ stroke set (if s.is_first then Ltop else Lcross) Margin
    ∷ stroke set Hbar Margin ∷ stroke set Lbox Margin
    ∷ plain_text (place_text s) ∷ stroke set Rbox Margin ∷ []

-- the row below a group header, and between two groups
unfoldable pub spacer_pieces : CharSet → ℕ → List Piece
spacer_pieces set digits = plain_text (spaces (digits + 2)) ∷ stroke set Vbar Margin ∷ []

-- a text n times
unfoldable pub repeated : ℕ → List ℕ → List ℕ
repeated n text = joined (λ k. text) (upto n)

-- the last row of a group
unfoldable pub tail_pieces : CharSet → ℕ → Bool → List Piece
tail_pieces set digits false = spacer_pieces set digits
tail_pieces set digits true =
    painted_text Margin (repeated (digits + 2) (glyph_text set Hbar) ++ glyph_text set Rbot) ∷ []

-- what the label at a position says
unfoldable pub message_at : Texts → ℕ → List ℕ
message_at t k = slice_index_or t.messages k []

-- the message that a label shows in its arrow row
unfoldable pub message_pieces : Texts → Option LineLabel → List Piece
message_pieces t None = []
message_pieces t (Some x) =
    if is_start x.side then [] else blank_piece ∷ plain_text (message_at t x.info.position) ∷ []

-- the texts of the helps or of the notes
unfoldable pub aside_texts : Texts → Aside → List (List ℕ)
aside_texts t help = t.helps
aside_texts t note = t.notes

-- the word in front of one
unfoldable pub aside_name : Aside → List ℕ
aside_name help = codes "Help"
aside_name note = codes "Note"

-- the word in front of help or note number k, numbered where there are several
unfoldable pub aside_prefix : Texts → Aside → ℕ → List ℕ
aside_prefix t a k =
    aside_name a ++ (if length (aside_texts t a) == 1 then [] else codes " " ++ decimal (k + 1))

-- line n of help or note number k
unfoldable pub aside_line : Texts → Aside → ℕ → ℕ → List ℕ
aside_line t a k n = slice_index_or (lines (slice_index_or (aside_texts t a) k [])) n []

-- its first line stands behind that word, the others below the first
unfoldable pub aside_pieces : Texts → Aside → ℕ → ℕ → List Piece
aside_pieces t a k zero =
    painted_text Note (aside_prefix t a k) ∷ plain_text (codes ": " ++ aside_line t a k 0) ∷ []
aside_pieces t a k (suc n) =
    plain_text (spaces (length (aside_prefix t a k) + 2) ++ aside_line t a k (suc n)) ∷ []

-- what follows the gutter
unfoldable pub text_pieces : Texts → Section → Row → List Piece
text_pieces t s (source l) = shown_pieces t.switches (multi_line_labels s.sheet.labels) (layout_of s.sheet l)
text_pieces t s (alternate l r) =
    let y = layout_of s.sheet l in area_pieces t.switches y (alternate_place t.multiline_arrows t.switches y r)
text_pieces t s (arrow l r) =
    let y = layout_of s.sheet l in
    let x = slice_get y.labels r in
    area_pieces t.switches y (arrow_place t.switches y r x) ++ message_pieces t x
text_pieces t s (piece a k n) = aside_pieces t a k n
text_pieces t s row = []

-- what follows the margin; a bare row ends with that
unfoldable pub rest_pieces : Texts → Section → Row → List Piece
rest_pieces t s (bare l) = []
rest_pieces t s row = gutter_pieces s.sheet row ++ text_pieces t s row

-- a row of a group, by its name
unfoldable pub row_pieces : Texts → ℕ → Section → Row → List Piece
row_pieces t digits s group_header = group_header_pieces s digits
row_pieces t digits s spacer = spacer_pieces s.sheet.switches.char_set digits
row_pieces t digits s tail = tail_pieces s.sheet.switches.char_set digits s.is_last
row_pieces t digits s row = margin_pieces s.sheet.switches digits s.display_offset row ++ rest_pieces t s row

-- all rows of a group
unfoldable pub section_rows : Texts → ℕ → Section → List (List Piece)
section_rows t digits s = map (row_pieces t digits s) (rows s.sheet s.is_last t.helps t.notes)
