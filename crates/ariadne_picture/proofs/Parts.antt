-- Names that proofs have for parts of definitions, which stand in place there.
use Rattle.std.proofs.Common.{◌≡◌, ℕ, Bool, false, List, ◌∷◌, Option, length, ap}
use Rattle.std.specs.Prelude.{◌==◌, ◌&&◌, ◌||◌, not, nat_lt, if◌then◌else◌, slice_index, decimal, codes, unwrap_or, option_and_then}
use Rattle.std.specs.List.{enumerate_from}
use Rattle.std.specs.Option.{option_map_or}
use Rattle.ariadne_picture.specs.declared.label_info.LabelInfo.{LabelInfo}
use Rattle.ariadne_picture.specs.declared.label_info.LineLabel.{LineLabel}
use Rattle.ariadne_picture.specs.declared.label_info.Side.{Side}
use Rattle.ariadne_picture.specs.declared.cell.Ink.{Ink}
use Rattle.ariadne_picture.specs.declared.switches.Switches.{Switches}
use Rattle.ariadne_picture.specs.Lists.{joined, any_numbered}
use Rattle.ariadne_picture.specs.Report.{ReportFields, World}
use Rattle.ariadne_picture.specs.Groups.{printed_number}
use Rattle.ariadne_picture.specs.Ranks.{Sheet, last_line, gutter_labels, is_margin}
use Rattle.ariadne_picture.specs.Rows.{Row, before}
use Rattle.ariadne_picture.specs.Columns.{Layout, shown}
use Rattle.ariadne_picture.specs.Strokes.{Spot, corner, level, free, first_row, last_row, has_tee}
use Rattle.ariadne_picture.specs.Cells.{arrow_ink}
use Rattle.ariadne_picture.specs.Pieces.{Piece, Section, char_paint, source_pieces, section_rows}
use Rattle.ariadne_picture.specs.Canvas.{Cell, header_pieces, texts_of, group_id, groups, number_width, section_of, sections, outline}
use Rattle.ariadne_picture.specs.Placing.Rows.{Placing}
use Rattle.ariadne_picture.proofs.Lists.Joined.{joined-map}

-- how many digits the number of a group's last line has
abbrev pub number_len : ℕ → Sheet → ℕ
number_len display_offset h = length (decimal (printed_number display_offset (last_line h)))

-- a line label is the start, or the end, of gutter label i
abbrev pub is_end_of_gutter_label : (Side → Bool) → ℕ → LineLabel → Bool
is_end_of_gutter_label is_side i x = is_side x.side && (x.gutter_column == i)

-- a bar of gutter label i, if there is one, stands in this row
abbrev pub has_bar : Sheet → ℕ → Row → Option LabelInfo → Bool
has_bar s i row found =
    option_map_or (λ a. before (first_row s i a) row && before row (last_row s i a) && not (has_tee s a i row)) found false

-- the corner of a line label stands at place k of its arrow row
abbrev pub has_corner : Option LineLabel → LineLabel → ℕ → Bool
has_corner margin x k = (x.place == k) && not (is_margin margin x)

-- where a place stands: whether its label's corner is there, and whether its horizontal is
abbrev pub spot_by : Bool → Bool → Spot
spot_by at_corner crossed = if at_corner then corner else if crossed then level else free

-- what it shows then
abbrev pub arrow_ink_by : Switches → ℕ → LineLabel → Bool → Bool → Option LineLabel → Ink
arrow_ink_by switches r x at_corner crossed vertical = arrow_ink switches r x (spot_by at_corner crossed) vertical

-- the pieces of the character at place k
abbrev pub place_pieces : Switches → List LabelInfo → Layout → ℕ → List Piece
place_pieces switches multi_line y k =
    source_pieces switches (char_paint multi_line y k) y k (slice_index (shown y) k)

-- row n has the head or the message of a gutter label before i
abbrev pub is_crossed_in : List (List Cell) → List Section → Placing → ℕ → Section → ℕ → ℕ → Bool
is_crossed_in canvas sections p g s i n =
    any_numbered (λ m a. nat_lt m i && ((p.head_row g m == n) || (p.message_row a.position == n))) (gutter_labels s.sheet.labels)

module _ {S Id : Type 0} (w : World S Id) (r : ReportFields S) where
  -- what the source of a group is called in its header
  abbrev pub group_name : List LabelInfo → List ℕ
  group_name group = unwrap_or (option_and_then w.name_of (group_id w r group)) (codes "<unknown>")

  -- the outline, by the groups and their numbers
  pub outline-is : (infos : List LabelInfo) → outline w r infos
      ≡ header_pieces (texts_of r)
      ∷ joined (λ e. section_rows (texts_of r) (number_width w r (groups w r infos)) (section_of w r (length (groups w r infos)) e))
      (enumerate_from 0 (groups w r infos))
  unfolding outline sections
  outline-is infos =
      let gs = groups w r infos in
      ap (λ rows. header_pieces (texts_of r) ∷ rows)
      (joined-map (section_rows (texts_of r) (number_width w r gs)) (section_of w r (length gs)) (enumerate_from 0 gs))
