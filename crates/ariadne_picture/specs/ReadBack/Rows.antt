-- What the rows of a finished picture are, as a reader finds it: by their margins, and by the lines of the
-- sources. No label is asked. Rows, cells, lines and groups count from 0.
use Rattle.std.specs.Prelude.{ℕ, zero, suc, ◌+◌, ◌*◌, ◌-◌, ◌%◌, Bool, false, not, ◌&&◌, ◌||◌, ◌==◌, nat_le}
use Rattle.std.specs.Prelude.{nat_lt, if◌then◌else◌, List, [], ◌∷◌, ◌++◌, length, filter, find, Option, Some, None, unwrap_or}
use Rattle.std.specs.Prelude.{slice_index_or, codes, decimal}
use Rattle.std.specs.List.{list_any}
use Rattle.ariadne_base.specs.Locations.{upto}
use Rattle.ariadne_base.specs.Listing.{Listing, listed_lines}
use Rattle.ariadne_picture.specs.declared.switches.Switches.{Switches}
use Rattle.ariadne_picture.specs.declared.cell.Glyph.{Glyph}
use Rattle.ariadne_picture.specs.declared.cell.Glyph.TheVariants.{Blank, Hbar, Vbar, Xbar, Uarrow}
use Rattle.ariadne_picture.specs.declared.cell.Glyph.TheVariants.{Lbot, Rbot, Mbot, Lbox}
use Rattle.ariadne_picture.specs.Groups.{printed_number}
use Rattle.ariadne_picture.specs.Ranks.{Sheet}
use Rattle.ariadne_picture.specs.Pieces.{column_size, glyph_text}
use Rattle.ariadne_picture.specs.Canvas.{Cell}
use Rattle.ariadne_picture.specs.Placing.Cells.{is_text, is_blank, is_glyph}
use Rattle.ariadne_picture.specs.Placing.Group.{shown_cells}
use Rattle.ariadne_picture.specs.Placing.Rows.{between, row_at, cell_at}
use Rattle.ariadne_picture.specs.Placing.Together.{unindented}

-- the last number before n of which a test holds, or 0
unfoldable pub last_before : (ℕ → Bool) → ℕ → ℕ
last_before test zero = 0
last_before test (suc n) = if test n then n else last_before test n

-- a text begins with a digit
unfoldable pub begins_with_digit : List ℕ → Bool
begins_with_digit [] = false
begins_with_digit (b ∷ text) = nat_le 48 b && nat_le b 57

-- what the reader is told of a group: its source, and how many gutter columns it has, or not even that
pub record Known : Type 0 where
  pub listing : Listing
  pub gutter : Option ℕ

-- the lines of a source, as those of a group without labels
unfoldable pub unlabelled : Switches → Listing → Sheet
unlabelled switches source = record { switches = switches; lines = listed_lines source; labels = [] }

-- what the places of an arrow row show
abbrev pub arrow_glyphs : List Glyph
arrow_glyphs = Blank ∷ Hbar ∷ Vbar ∷ Xbar ∷ Uarrow ∷ Lbot ∷ Rbot ∷ Mbot ∷ []

module _ (rows : List (List Cell)) (sources : List Known) (switches : Switches) where
  -- ---- by their margins

  -- the text of the margin of row n
  unfoldable pub margin_of : ℕ → List ℕ
  margin_of n = unindented (cell_at rows n 1).text

  -- row n is the header of a group: in place of a margin it has blanks, and then a box
  unfoldable pub is_heading : ℕ → Bool
  is_heading n = not (is_blank (cell_at rows n 0)) && is_glyph switches.char_set Lbox (cell_at rows n 3)

  -- row n shows a line: its margin has a number
  unfoldable pub shows_line : ℕ → Bool
  shows_line n = is_blank (cell_at rows n 0) && begins_with_digit (margin_of n)

  -- row n stands below lines: its margin is a bar
  unfoldable pub is_below_lines : ℕ → Bool
  is_below_lines n = is_blank (cell_at rows n 0) && is_text (margin_of n) (glyph_text switches.char_set Vbar)

  -- ---- where they stand

  -- the group of row n: below the first row of the picture so many group headers stand above it, but for its own
  unfoldable pub group_of : ℕ → ℕ
  group_of n = length (filter is_heading (between 1 n)) - 1

  -- the source of that group
  unfoldable pub source_of : ℕ → Known
  source_of n = slice_index_or sources (group_of n) (record { listing = record { text = []; display_offset = 0 }; gutter = None })

  -- the row of the line that row n shows, or stands below
  unfoldable pub line_row : ℕ → ℕ
  line_row n = last_before shows_line (suc n)

  -- that is one of its group
  unfoldable pub has_line : ℕ → Bool
  has_line n = nat_lt (last_before is_heading n) (line_row n)

  -- the margin of row n has the number of line l
  unfoldable pub has_number : ℕ → ℕ → Bool
  has_number n l =
      let number = decimal (printed_number (source_of n).listing.display_offset l) in
      is_text (margin_of n) (number ++ codes " " ++ glyph_text switches.char_set Vbar)

  -- the line that row n shows, or stands below
  unfoldable pub line_of : ℕ → ℕ
  line_of n = unwrap_or (find (has_number (line_row n)) (upto (length (listed_lines (source_of n).listing)))) 0

  -- the first cell of row n behind a gutter of so many columns; where their number is not told, as in the
  -- row of the line, which ends in the line's text
  unfoldable pub text_begin_by : ℕ → Option ℕ → ℕ
  text_begin_by n (Some columns) = (if switches.compact then 2 else 3) + columns * column_size switches
  text_begin_by n None =
      length (row_at rows (line_row n))
      - length (shown_cells (unlabelled switches (source_of n).listing) (line_of n))

  -- the first cell of row n behind its gutter
  unfoldable pub text_begin : ℕ → ℕ
  text_begin n = text_begin_by n (source_of n).gutter

  -- ---- the rows of labels

  -- behind the gutter of row n stands a stroke or a blank: helps and notes have none there, nor have bare rows
  unfoldable pub has_strokes : ℕ → Bool
  has_strokes n =
      list_any (λ glyph. is_glyph switches.char_set glyph (cell_at rows n (text_begin n))) arrow_glyphs

  -- row n is the arrow row of a label: if not compact, an alternate row stands above each
  unfoldable pub is_arrow_row : ℕ → Bool
  is_arrow_row n =
      is_below_lines n && has_line n && has_strokes n && (switches.compact || ((n - line_row n) % 2 == 0))
