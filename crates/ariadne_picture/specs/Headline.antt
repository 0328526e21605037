-- What the headline says of the bytes of a report's picture. They are exactly the printed canvas of
-- the accepted labels. On it each accepted message has one row of its own, and strokes lead from it
-- to the label's attach character or gutter column, in the columns where the source row shows them.
-- In the text below a line and in the gutter no stroke stands elsewhere, and strokes have the colours
-- of their labels, as characters and underlines have. Where that is asked for, lines whose labels have no
-- message are underlined. Other rows show what is theirs, and no stroke in their text. What strokes lead to
-- is read in one way, but that the messages of twins may change places. And it can be read back: the rows,
-- with the sources and the switches alone, tell where each message's strokes lead to, and what headers say.
-- A cell takes the columns of its text, and the rows are the lines that are sent. Colours move nothing,
-- and offsets in bytes draw as the same offsets in characters.
use Rattle.std.specs.Prelude.{ℕ, ◌≡◌, Bool, true, List, Option}
use Rattle.ariadne_color.specs.declared.color.Color.{Color}
use Rattle.ariadne_picture.specs.declared.cell.Paint.{Paint}
use Rattle.ariadne_picture.specs.declared.cell.Paint.TheVariants.{Label}
use Rattle.ariadne_picture.specs.declared.label_info.LabelInfo.{LabelInfo}
use Rattle.ariadne_picture.specs.Report.{ReportFields, World}
use Rattle.ariadne_picture.specs.Pieces.{Section, Texts, message_at}
use Rattle.ariadne_picture.specs.Canvas.{Cell, canvas, color_of, palette_of, sections, texts_of}
use Rattle.ariadne_picture.specs.Print.{printed}
use Rattle.ariadne_picture.specs.Sent.{HaveColumnsOfTexts, HaveNoLineFeeds, RowsAreLines}
use Rattle.ariadne_picture.specs.Placing.{Placing, is_placing, has_message_rows, has_inline_traces}
use Rattle.ariadne_picture.specs.Placing.{has_ends_of_gutter_traces, has_gutter_bars, is_aligned}
use Rattle.ariadne_picture.specs.Blocks.{has_whole_blocks}
use Rattle.ariadne_picture.specs.Causes.{has_no_other_strokes}
use Rattle.ariadne_picture.specs.GutterCauses.{has_no_other_gutter_strokes}
use Rattle.ariadne_picture.specs.LabelColors.{has_label_colors}
use Rattle.ariadne_picture.specs.LoneLines.{has_lone_underlines}
use Rattle.ariadne_picture.specs.OtherRows.{has_other_rows}
use Rattle.ariadne_picture.specs.TextColors.{has_text_colors}
use Rattle.ariadne_picture.specs.ReadBack.{HaveShortNumbers, HaveWholeLines, IsReadBack, IsReadBackByGutters}
use Rattle.ariadne_picture.specs.Readings.{AgreeOnStrokes}
use Rattle.ariadne_picture.specs.Variants.{HaveNoEscapes, ColorsMoveNothing}
use Rattle.ariadne_picture.specs.Variants.{BytesDrawAsCharacters}

-- there are row numbers under which the rows belong together and this test holds of them
abbrev pub CanBeRead : List (List Cell) → List Section → (Placing → Bool) → Type 0
CanBeRead rows groups test =
    (placing : Placing) × (is_placing rows groups placing ≡ true) × (test placing ≡ true)

-- the finished rows are read by these row numbers: each of these tests holds of them
pub record IsReadBy (rows : List (List Cell)) (groups : List Section) (message_of : ℕ → List ℕ)
    (placing : Placing) : Type 0 where
  pub rows_belong_together : is_placing rows groups placing ≡ true
  pub blocks_are_whole : has_whole_blocks groups placing ≡ true
  pub each_message_has_one_row_of_its_own : has_message_rows rows groups placing message_of ≡ true
  pub strokes_lead_from_it_to_the_attach_character : has_inline_traces rows groups placing ≡ true
  pub or_to_both_ends_of_the_gutter_column : has_ends_of_gutter_traces rows groups placing ≡ true
  pub and_along_the_gutter_column : has_gutter_bars rows groups placing ≡ true
  pub in_the_columns_where_the_source_row_shows_them : is_aligned rows groups placing ≡ true
  pub and_no_stroke_stands_elsewhere : has_no_other_strokes rows groups placing ≡ true
  pub nor_in_the_gutter : has_no_other_gutter_strokes rows groups placing ≡ true

-- they can be read: there are such row numbers, under which the strokes of each label have its colour, where
-- a paint asks for colour color_of_paint, and so do the underlines of lines whose labels have no message,
-- other underlines and characters. The rows that no line has show what is theirs: the header, names and
-- places, helps and notes, and no stroke in the text
pub record IsTraced (rows : List (List Cell)) (groups : List Section) (t : Texts)
    (color_of_paint : Paint → Option Color) : Type 0 where
  pub placing : Placing
  pub reads : IsReadBy rows groups (message_at t) placing
  pub strokes_have_the_colors_of_their_labels :
      has_label_colors rows groups placing (λ k. color_of_paint (Label k)) ≡ true
  pub lines_without_messages_are_underlined :
      has_lone_underlines rows groups placing (λ k. color_of_paint (Label k)) ≡ true
  pub characters_and_underlines_have_theirs : has_text_colors rows groups placing color_of_paint ≡ true
  pub other_rows_show_what_is_theirs : has_other_rows rows groups placing t ≡ true

-- they are read in one way: row numbers that they are read by agree on source rows, on heads and on
-- messages
abbrev pub AreReadInOneWay : List (List Cell) → List Section → (ℕ → List ℕ) → Type 0
AreReadInOneWay rows groups message_of =
    (p q : Placing) → IsReadBy rows groups message_of p → IsReadBy rows groups message_of q
    → AgreeOnStrokes message_of groups p q

-- these bytes are the picture of a report whose accepted labels are infos
pub record Headline {S Id : Type 0} (w : World S Id) (r : ReportFields S) (infos : List LabelInfo)
    (bytes : List ℕ) : Type 0 where
  pub they_are_exactly_the_printed_canvas : bytes ≡ printed (canvas w r infos)
  pub each_message_is_traced : IsTraced (canvas w r infos) (sections w r infos)
      (texts_of r) (color_of (palette_of r))
  pub in_one_way : AreReadInOneWay (canvas w r infos) (sections w r infos) (message_at (texts_of r))
  pub and_can_be_read_back : HaveShortNumbers w → HaveWholeLines w r infos → IsReadBack w r infos
  pub by_their_gutters_also_where_lines_are_cut : HaveShortNumbers w → IsReadBackByGutters w r infos
  pub each_cell_takes_the_columns_of_its_text : HaveColumnsOfTexts (canvas w r infos)
  pub its_rows_are_the_lines_that_are_sent : HaveNoEscapes w r → HaveNoLineFeeds w r
      → RowsAreLines (canvas w r infos)
  pub colors_move_nothing : ColorsMoveNothing w r infos
  pub bytes_draw_as_characters : BytesDrawAsCharacters w r infos
