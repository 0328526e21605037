-- What the labels of a group ask of its rows. The group is section s.
use Rattle.std.specs.Prelude.{ℕ, ◌+◌, ◌*◌, Bool, not, ◌&&◌, ◌||◌, nat_lt, if◌then◌else◌, List, length, filter}
use Rattle.std.specs.List.{list_any}
use Rattle.ariadne_picture.specs.declared.switches.CharSet.{CharSet}
use Rattle.ariadne_picture.specs.declared.label_info.LabelInfo.{LabelInfo}
use Rattle.ariadne_picture.specs.declared.cell.Paint.TheVariants.{Plain}
use Rattle.ariadne_picture.specs.Lists.{joined_numbered}
use Rattle.ariadne_picture.specs.Ranks.{Sheet, gutter_labels, is_hidden_line, group_lines}
use Rattle.ariadne_picture.specs.Rows.{is_lone}
use Rattle.ariadne_picture.specs.Columns.{layout_of, shown, width, column_of}
use Rattle.ariadne_picture.specs.Pieces.{Piece, Section, column_size, gutter_len, source_pieces}

-- the cells of line l, without their colours: one for each character that is seen, one for each blank of a
-- tab, and one for each mark
unfoldable pub shown_cells : Sheet → ℕ → List Piece
shown_cells h l =
    let y = layout_of h l in joined_numbered (source_pieces h.switches Plain y) (shown y)

module _ (s : Section) where
  -- the character set of its strokes
  abbrev pub set_of : CharSet
  set_of = s.sheet.switches.char_set

  -- the lines that are shown
  unfoldable pub shown_lines : List ℕ
  shown_lines = filter (λ l. not (is_hidden_line s.sheet l)) (group_lines s.sheet)

  -- the labels that have a message
  unfoldable pub messages_of : List LabelInfo
  messages_of = filter (λ a. a.has_message) s.sheet.labels

  -- underlines are drawn below line l: one of its labels has a message, or it has underlines alone
  abbrev pub has_underlines : ℕ → Bool
  has_underlines l =
      s.sheet.switches.underlines && not s.sheet.switches.compact
      && (list_any (λ x. x.info.has_message) (layout_of s.sheet l).labels || is_lone s.sheet l)

  -- ---- the numbers of cells in a row

  -- the first of gutter column i, behind the margin
  unfoldable pub column_cell : ℕ → ℕ
  column_cell i = (if s.sheet.switches.compact then 2 else 3) + i * column_size s.sheet.switches

  -- the column of arrow heads: the last, behind those of the gutter labels
  abbrev pub arrow_column : ℕ
  arrow_column = length (gutter_labels s.sheet.labels)

  -- the first of the text
  unfoldable pub text_cell : ℕ
  text_cell = column_cell (gutter_len s.sheet)

  -- the first of place k below line l
  unfoldable pub place_cell : ℕ → ℕ → ℕ
  place_cell l k = text_cell + column_of s.sheet.switches (layout_of s.sheet l) k

  -- place k below line l has a cell
  unfoldable pub has_cell : ℕ → ℕ → Bool
  has_cell l k = nat_lt 0 (width s.sheet.switches (layout_of s.sheet l) k)
