-- The columns of a line: how wide each character of it is shown, and where it begins. Text below
-- the line has the same places, so that a stroke under a character stands under all of its columns.
-- A line that is too wide is cut: parts of it are shown, and a mark in place of each run of others.
-- Columns and places count from 0, where the text of the row begins.
use Rattle.std.specs.Prelude.{ℕ, zero, suc, ◌+◌, ◌-◌, ◌%◌, max, min, Bool, false, not, ◌||◌, ◌&&◌, ◌==◌, nat_le, nat_lt}
use Rattle.std.specs.Prelude.{if◌then◌else◌, List, [], ◌∷◌, ◌++◌, filter, length, map, Option, option_to_list}
use Rattle.std.specs.Prelude.{slice_get, slice_index, chars, unwrap_or}
use Rattle.std.specs.List.{list_all, list_any, prefix_len, range_with_len}
use Rattle.std.specs.Char.{is_whitespace}
use Rattle.std.specs.Str.{drop_trailing_whitespace}
use Rattle.unicode_width.specs.Width.{char_width}
use Rattle.ariadne_base.specs.Locations.{line_offset, line_text, upto}
use Rattle.ariadne_picture.specs.declared.label_info.LineLabel.{LineLabel}
use Rattle.ariadne_picture.specs.declared.sight.Part.{Part}
use Rattle.ariadne_picture.specs.declared.sight.Sight.{Sight}
use Rattle.ariadne_picture.specs.declared.sight.Sight.TheVariants.{Seen, Marked, Unseen}
use Rattle.ariadne_picture.specs.declared.switches.CharSet.{CharSet}
use Rattle.ariadne_picture.specs.declared.switches.CharSet.TheVariants.{Unicode, Ascii}
use Rattle.ariadne_picture.specs.Lists.{total}
use Rattle.ariadne_picture.specs.declared.switches.Switches.{Switches}
use Rattle.ariadne_picture.specs.Groups.{greatest}
use Rattle.ariadne_picture.specs.Ranks.{Sheet, margin_label, line_labels, is_inline}

-- ---- characters

-- the columns of a character that is printed as it is
unfoldable pub char_columns : ℕ → ℕ
char_columns c = unwrap_or (char_width false c) 1

-- the columns of a text that is printed as it is
unfoldable pub text_columns : List ℕ → ℕ
text_columns text = total char_columns (chars text)

-- the columns of the shown character c that begins at column x; a tab reaches to the next tab stop
unfoldable pub shown_columns : ℕ → ℕ → ℕ → ℕ
shown_columns tab_width column c =
    if c == 9 then tab_width - column % tab_width
    else if is_whitespace c then 1
    else char_columns c

-- ---- the characters of a line that are shown, where it is shown whole

-- the column that place k begins at: behind those of the place before it
unfoldable pub whole_column : ℕ → List ℕ → ℕ → ℕ
whole_column tab_width text zero = 0
whole_column tab_width text (suc k) =
    let n = whole_column tab_width text k in n + shown_columns tab_width n (slice_index text k)

-- the columns of place k
unfoldable pub whole_width : ℕ → List ℕ → ℕ → ℕ
whole_width tab_width text k =
    shown_columns tab_width (whole_column tab_width text k) (slice_index text k)

-- ---- where it is cut

-- place k goes on with the letter before it, as an accent does: it takes no columns
unfoldable pub goes_on : ℕ → List ℕ → ℕ → Bool
goes_on tab_width text k = nat_lt k (length text) && (whole_width tab_width text k == 0)

-- where the letter begins that place k is of
unfoldable pub letter_start : ℕ → List ℕ → ℕ → ℕ
letter_start tab_width text zero = 0
letter_start tab_width text (suc k) =
    if goes_on tab_width text (suc k) then letter_start tab_width text k else suc k

-- the first place from k on that goes on with no letter
unfoldable pub letter_end : ℕ → List ℕ → ℕ → ℕ
letter_end tab_width text k = k + prefix_len (goes_on tab_width text) (range_with_len k (length text - k))

-- one of these parts has place k
unfoldable pub is_in : List Part → ℕ → Bool
is_in parts k = list_any (λ p. nat_le p.from k && nat_lt k p.to) parts

-- of a line of which these parts are shown: a mark stands right before each part, unless there is
-- nothing to cut, and right behind the last
unfoldable pub sight_in : List Part → ℕ → Sight
sight_in parts k =
    if is_in parts k then Seen
    else if is_in parts (k + 1) || (nat_lt 0 k && is_in parts (k - 1) && list_all (λ p. nat_le p.to k) parts)
    then Marked
    else Unseen

-- the columns of the mark: one of U+2026, or three of full stops
unfoldable pub mark_columns : CharSet → ℕ
mark_columns Unicode = 1
mark_columns Ascii = 3

-- the columns of a place that has n where its line is shown whole
unfoldable pub columns_of : CharSet → Sight → ℕ → ℕ
columns_of set Seen n = n
columns_of set Marked n = mark_columns set
columns_of set Unseen n = 0

-- the columns of a text of which these parts are shown
unfoldable pub cut_columns : Switches → List ℕ → List Part → ℕ
cut_columns switches text parts =
    total (λ k. columns_of switches.char_set (sight_in parts k) (whole_width switches.tab_width text k))
    (upto (length text))

-- a part with n more places on either side, and with all of the letters at its ends
unfoldable pub widened_part : ℕ → List ℕ → ℕ → Part → Part
widened_part tab_width text n p = record {
  from = letter_start tab_width text (p.from - n);
  to = letter_end tab_width text (p.to + n);
}

unfoldable pub widened : ℕ → List ℕ → ℕ → List Part → List Part
widened tab_width text n parts = map (widened_part tab_width text n) parts

-- with n more places on either side of its parts the text takes no more columns than are asked for
unfoldable pub fits_with : Switches → List ℕ → List Part → ℕ → Bool
fits_with switches text parts n =
    nat_le (cut_columns switches text (widened switches.tab_width text n parts)) switches.width

-- the number of places that are shown on either side of these parts: the greatest with which, and with
-- each lesser one, the text fits; 0 if it doesn't fit with none
unfoldable pub context : Switches → List ℕ → List Part → ℕ
context switches text parts = prefix_len (fits_with switches text parts) (upto (length text)) - 1

-- the place that a label's strokes lead to
unfoldable pub place_part : LineLabel → Part
place_part x = record { from = x.place; to = x.place + 1 }

-- with it all that a label within the line spans
unfoldable pub span_part : ℕ → LineLabel → Part
span_part offset x =
    if is_inline x.side then record {
      from = min (x.info.start - offset) x.place;
      to = max (x.info.end - offset) (x.place + 1);
    }
    else place_part x

-- the labels that a line is cut round: those with a message, or all if none has one
unfoldable pub needed_labels : List LineLabel → List LineLabel
needed_labels labels =
    let told = filter (λ x. x.info.has_message) labels in if length told == 0 then labels else told

-- these parts, or the first place where there are none
unfoldable pub or_begin : List Part → List Part
or_begin [] = record { from = 0; to = 1 } ∷ []
or_begin (p ∷ parts) = p ∷ parts

-- the parts that have to be shown: what the labels span, if that fits, or else their places
unfoldable pub needed_parts : Switches → ℕ → List LineLabel → List ℕ → List Part
needed_parts switches offset labels text =
    let spans = or_begin (map (span_part offset) (needed_labels labels)) in
    if fits_with switches text spans 0 then spans else or_begin (map place_part (needed_labels labels))

-- the parts that are shown of a text that is cut
unfoldable pub parts_of : Switches → ℕ → List LineLabel → List ℕ → List Part
parts_of switches offset labels text =
    let needed = needed_parts switches offset labels text in
    widened switches.tab_width text (context switches text needed) needed

-- a text takes more columns than are asked for, and so is cut
unfoldable pub is_too_wide : Switches → List ℕ → Bool
is_too_wide switches text =
    nat_lt 0 switches.width && nat_lt switches.width (whole_column switches.tab_width text (length text))

-- what is seen of each of its places; a text that is shown whole has no list
unfoldable pub sights_of : Switches → ℕ → List LineLabel → List ℕ → List Sight
sights_of switches offset labels text =
    if is_too_wide switches text then map (sight_in (parts_of switches offset labels text)) (upto (length text)) else []

-- ---- a line

-- what is drawn at a line: its labels, and its characters, whose first has this offset in the
-- source, and what is seen of these, if not all
pub record Layout : Type 0 where
  pub margin : Option LineLabel
  pub labels : List LineLabel
  pub offset : ℕ
  pub text : List ℕ
  pub sights : List Sight

-- what a group draws at line l
unfoldable pub layout_of : Sheet → ℕ → Layout
layout_of h l =
    let offset = line_offset length h.lines l in
    let text = line_text h.lines l in
    record {
      margin = margin_label h.labels l;
      labels = line_labels h.labels l;
      offset = offset;
      text = text;
      sights = sights_of h.switches offset (option_to_list (margin_label h.labels l) ++ line_labels h.labels l)
          (drop_trailing_whitespace text);
    }

-- the characters of a line that are shown: all but the white space at its end
unfoldable pub shown : Layout → List ℕ
shown y = drop_trailing_whitespace y.text

-- what is seen of place k
unfoldable pub sight_of : Layout → ℕ → Sight
sight_of y k = unwrap_or (slice_get y.sights k) Seen

-- the columns of place k of a line; past the shown text each has one
unfoldable pub width : Switches → Layout → ℕ → ℕ
width switches y k =
    if nat_lt k (length (shown y))
    then columns_of switches.char_set (sight_of y k) (whole_width switches.tab_width (shown y) k)
    else 1

-- the column that place k begins at: behind those of the place before it
unfoldable pub column_of : Switches → Layout → ℕ → ℕ
column_of switches y zero = 0
column_of switches y (suc k) = column_of switches y k + width switches y k

-- how far behind the line's start a label ends
unfoldable pub places_to_end : Layout → LineLabel → ℕ
places_to_end y x = x.info.end - y.offset

-- how many places the rows below a line have: past its terminator where a label of several lines
-- stands among its labels, else past the last label's end
unfoldable pub arrow_len : Switches → Layout → ℕ
arrow_len switches y =
    (if list_any (λ x. not (is_inline x.side)) y.labels then length y.text
    else greatest (map (places_to_end y) y.labels)) + (if switches.compact then 1 else 2)
