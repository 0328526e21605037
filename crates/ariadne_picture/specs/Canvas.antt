-- The picture of a report: its header, and the rows of its groups. The outline tells of each piece
-- whose colour it has; the canvas looks the colours up.
use Rattle.std.specs.Prelude.{ℕ, ◌+◌, Bool, false, ◌==◌, nat_le, if◌then◌else◌, List, [], ◌∷◌}
use Rattle.std.specs.Prelude.{◌++◌, length, map, Option, Some, None, slice_get, slice_index_or}
use Rattle.std.specs.Prelude.{unwrap_or, option_and_then, option_map, codes, chars, decimal}
use Rattle.std.specs.List.{enumerate_from}
use Rattle.ariadne_base.specs.Listing.{Listing, listed_lines}
use Rattle.ariadne_color.specs.declared.color.Color.{Color}
use Rattle.ariadne_color.specs.declared.color.Color.TheVariants.{Red, Yellow, Fixed}
use Rattle.ariadne_picture.specs.declared.label_info.LabelInfo.{LabelInfo}
use Rattle.ariadne_picture.specs.declared.cell.Paint.{Paint}
use Rattle.ariadne_picture.specs.declared.cell.Paint.TheVariants.{Plain, Label, Kind, Margin}
use Rattle.ariadne_picture.specs.declared.cell.Paint.TheVariants.{SkippedMargin, Unimportant, Note}
use Rattle.ariadne_picture.specs.Lists.{joined}
use Rattle.ariadne_picture.specs.Report.{ReportFields, World, switches_of, error, warning, advice}
use Rattle.ariadne_picture.specs.Report.{custom}
use Rattle.ariadne_picture.specs.Report as report
use Rattle.ariadne_picture.specs.Accept.{text_len, offset_in_chars}
use Rattle.ariadne_picture.specs.Groups.{ordered, groups_of, greatest, printed_number}
use Rattle.ariadne_picture.specs.Ranks.{Sheet, last_line}
use Rattle.ariadne_picture.specs.Pieces.{Piece, painted_text, plain_text, Texts, Section}
use Rattle.ariadne_picture.specs.Pieces.{section_rows}

-- a text in one colour, or in none, and the columns that it takes
pub record Cell : Type 0 where
  pub text : List ℕ
  pub color : Option Color
  pub columns : ℕ

-- the word that a kind begins its report with
abbrev pub kind_name : report.Kind → List ℕ
kind_name error = codes "Error"
kind_name warning = codes "Warning"
kind_name advice = codes "Advice"
kind_name (custom name color) = name

-- the colour of that word
abbrev pub kind_color : report.Kind → Color
kind_color error = Red
kind_color warning = Yellow
kind_color advice = Fixed 147
kind_color (custom name color) = color

-- a code in brackets, and a blank
abbrev pub code_text : Option (List ℕ) → List ℕ
code_text None = []
code_text (Some code) = codes "[" ++ code ++ codes "] "

-- the first row of a picture
unfoldable pub header_pieces : Texts → List Piece
header_pieces t = painted_text Kind t.kind_text ∷ plain_text (codes " " ++ unwrap_or t.message []) ∷ []

-- ---- colours

-- the colours of a report: whether there are any, that of its kind, and those of its labels
pub record Palette : Type 0 where
  pub is_on : Bool
  pub kind : Color
  pub labels : List (Option Color)

-- the colours that a report asks for
abbrev pub palette_of : {S : Type 0} → ReportFields S → Palette
palette_of r =
    record { is_on = r.config.color; kind = kind_color r.kind; labels = map (λ label. label.color) r.labels }

-- the colour that a paint asks for. Margins are line numbers and the strokes round the lines of a
-- group; those of rows without a line number are skipped ones; unimportant is source text outside of
-- all labels, and a note's paint that of the word in front of a help or a note
unfoldable pub paint_color : Palette → Paint → Option Color
paint_color palette Plain = None
paint_color palette (Label k) = slice_index_or palette.labels k None
paint_color palette Kind = Some palette.kind
paint_color palette Margin = Some (Fixed 246)
paint_color palette SkippedMargin = Some (Fixed 240)
paint_color palette Unimportant = Some (Fixed 249)
paint_color palette Note = Some (Fixed 115)

-- with colours off nothing has one
unfoldable pub color_of : Palette → Paint → Option Color
color_of palette paint = if palette.is_on then paint_color palette paint else None

-- a piece in its colour
abbrev pub cell_of : Palette → Piece → Cell
cell_of palette piece =
    record { text = piece.text; color = color_of palette piece.paint; columns = piece.columns }

-- ---- the whole picture

-- what a report's picture reads beside the labels
unfoldable pub texts_of : {S : Type 0} → ReportFields S → Texts
texts_of r = record {
  switches = switches_of r.config;
  multiline_arrows = r.config.multiline_arrows;
  kind_text = code_text r.code ++ kind_name r.kind ++ codes ":";
  message = r.message;
  helps = r.helps;
  notes = r.notes;
  messages = map (λ label. unwrap_or label.message []) r.labels;
}

module _ {S Id : Type 0} (w : World S Id) (r : ReportFields S) where
  -- the id of the label at position k
  unfoldable pub label_id : ℕ → Option Id
  label_id k = option_map (λ label. w.id_of label.span) (slice_get r.labels k)

  -- two labels' ids count as one
  unfoldable pub is_same_id : Option Id → Option Id → Bool
  is_same_id (Some id) (Some other) = w.is_same id other
  is_same_id id other = false

  -- the labels at two positions are over the same source
  unfoldable pub same_source : ℕ → ℕ → Bool
  same_source j k = is_same_id (label_id j) (label_id k)

  -- a group's source is that of its first label
  unfoldable pub group_id : List LabelInfo → Option Id
  group_id [] = None
  group_id (a ∷ group) = label_id a.position

  -- the source of a group
  unfoldable pub group_source : List LabelInfo → Listing
  group_source group =
      unwrap_or (option_and_then w.source_of (group_id group)) (record { text = []; display_offset = 0 })

  -- the offset that a group header names: the report's own start, if it is in this source, else
  -- that of the group's first label
  unfoldable pub header_offset : List LabelInfo → Option ℕ
  header_offset group =
      let text = chars (group_source group).text in
      let start = w.start_of r.span in
      if is_same_id (group_id group) (Some (w.id_of r.span)) then
      (if nat_le start (text_len r.config.index_type text)
      then offset_in_chars r.config.index_type text start else None)
      else option_map (λ a. a.start) (slice_get group 0)

  -- a group's labels over the lines of its source
  abbrev pub sheet_of : List LabelInfo → Sheet
  sheet_of group =
      record { switches = switches_of r.config; lines = listed_lines (group_source group); labels = group }

  -- group number k of n: its labels over the lines of its source, whose name the group header tells
  unfoldable pub section_of : ℕ → ℕ × List LabelInfo → Section
  section_of n e = record {
    sheet = sheet_of e.1;
    name = unwrap_or (option_and_then w.name_of (group_id e.1)) (codes "<unknown>");
    display_offset = (group_source e.1).display_offset;
    header_offset = header_offset e.1;
    is_first = e.0 == 0;
    is_last = e.0 + 1 == n;
  }

  -- the groups of these labels, from top to bottom
  unfoldable pub groups : List LabelInfo → List (List LabelInfo)
  groups infos = groups_of same_source (ordered infos)

  -- how many columns the greatest line number of all groups takes
  unfoldable pub number_width : List (List LabelInfo) → ℕ
  number_width gs =
      greatest (map (λ group.
      length (decimal (printed_number (group_source group).display_offset (last_line (sheet_of group))))) gs)

  -- the groups of these labels, each within the picture
  unfoldable pub sections : List LabelInfo → List Section
  sections infos = map (section_of (length (groups infos))) (enumerate_from 0 (groups infos))

  -- the rows of the picture of these labels, whose pieces tell whose colour they have
  unfoldable pub outline : List LabelInfo → List (List Piece)
  outline infos =
      header_pieces (texts_of r)
      ∷ joined (section_rows (texts_of r) (number_width (groups infos))) (sections infos)

  -- the canvas of these labels
  unfoldable pub canvas : List LabelInfo → List (List Cell)
  canvas infos = map (map (cell_of (palette_of r))) (outline infos)
