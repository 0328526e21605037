-- What rustc's JSON suggests: spans, of which some say what to put there. Characters stand as their numbers: 10 is a
-- line feed.
use Rattle.std.specs.Prelude.{ℕ, ◌-◌, ◌==◌, ◌++◌, if◌then◌else◌, Bool, false, not, ◌&&◌, ◌||◌}
use Rattle.std.specs.Prelude.{List, [], Option, Some, None, codes, drop, length, option_map, take, unwrap_or}
use Rattle.std.specs.List.{suffix_len}
use Rattle.std.specs.Option.{option_or}
use Rattle.std.specs.Str.{chars, encode_utf8_all, trim_end, trim_start}
use Rattle.serde_json.specs.Data.{Data, Items, no_items, item}
use Rattle.ariadne_parse.specs.Fixes.{change_words, joint_words, line_words, unnamed, up_to, worded, Standing}
use Rattle.ariadne_parse.specs.Members.{any_item, has_number, items_in, list_at, number_at, span_value_end, span_value_start, text_at}
use Rattle.ariadne_parse.specs.Members.{words_at}
use Rattle.ariadne_parse.specs.TextPieces.{closes_with, split_once}
use Rattle.ariadne_parse.specs.Spans.{is_same_location}
use Rattle.ariadne_parse.specs.declared.diagnostic.Location.{Location}

-- ---- quoted lines

-- the lines that rustc quotes for a span
abbrev pub quoted_in : Data → Items
quoted_in d = items_in (list_at (codes "text") d)

-- what a text has in front of its first line feed; all of it, where it has none
abbrev pub first_line_by : List ℕ → Option (List ℕ × List ℕ) → List ℕ
first_line_by text None = text
first_line_by text (Some parts) = parts.0

-- a line that rustc quotes, without what ends it
abbrev pub quoted_line : Data → List ℕ
quoted_line d = first_line_by (words_at (codes "text") d) (split_once 10 (words_at (codes "text") d))

-- the first characters of a text, and what stands behind them
abbrev pub front_chars : ℕ → List ℕ → List ℕ
front_chars count text = encode_utf8_all (take count (chars text))

abbrev pub behind_chars : ℕ → List ℕ → List ℕ
behind_chars count text = encode_utf8_all (drop count (chars text))

-- how many characters stand in a quoted line in front of its span, and how many up to the span's end: rustc counts
-- from 1
abbrev pub chars_before : Data → ℕ
chars_before d = unwrap_or (number_at (codes "highlight_start") d) 1 - 1

abbrev pub chars_up_to : Data → ℕ
chars_up_to d = unwrap_or (number_at (codes "highlight_end") d) 0 - 1

-- a quoted line up to its span, the line from there on, and what the span covers of it
abbrev pub before_span_value : Data → List ℕ
before_span_value d = front_chars (chars_before d) (quoted_line d)

abbrev pub from_span_value : Data → List ℕ
from_span_value d = behind_chars (chars_before d) (quoted_line d)

unfoldable pub highlighted : Data → List ℕ
highlighted d = front_chars (chars_up_to d - chars_before d) (from_span_value d)

abbrev pub is_highlighted : Data → Bool
is_highlighted d = not (length (highlighted d) == 0)

-- ---- what a span covers

-- what stands where a line is covered so far; it isn't named where it is nothing
abbrev pub standing_text : List ℕ → Standing
standing_text text = if length text == 0 then unnamed else worded text

-- what a span covers for which these lines are quoted: what goes on up to its end, where it has some of a further
-- line, or else what it has of the first
abbrev pub covered_in : Data → Items → Standing
covered_in d no_items = unnamed
covered_in d (item line others) =
    if any_item is_highlighted others then up_to (span_value_end d) else standing_text (highlighted line)

unfoldable pub covered : Data → Standing
covered d = covered_in d (quoted_in d)

-- ---- what is put there

-- a text without the line feeds at its end; but these stay where it has nothing else
abbrev pub before_feeds : List ℕ → List ℕ
before_feeds text = take (length text - suffix_len (λ c. c == 10) text) text

abbrev pub put_text : List ℕ → List ℕ
put_text text = if length (before_feeds text) == 0 then text else before_feeds text

-- nothing but white space stands in front of a span: it begins in the first column, or the first of the lines that are
-- quoted for it has nothing else there
abbrev pub is_blank_before : Items → Bool
is_blank_before no_items = false
is_blank_before (item line others) = length (trim_start (before_span_value line)) == 0

unfoldable pub is_first : Data → Bool
is_first d = has_number (codes "column_start") 1 d || is_blank_before (quoted_in d)

-- a text is put in as a line: it ends one, takes the place of nothing, and nothing but white space stands in front
abbrev pub is_line_put : Data → List ℕ → Bool
is_line_put d text = closes_with (codes "\n") text && is_same_location (span_value_start d) (span_value_end d) && is_first d

-- what a span says that puts in a text: a line without the white space at its end, or a change of what it covers
unfoldable pub part_words : Data → List ℕ → List ℕ
part_words d text =
    if is_line_put d text
    then line_words (span_value_start d).line (trim_end text)
    else change_words (span_value_start d) (covered d) (put_text text)

-- ---- what spans say

-- what a span says behind the others, of which the first that puts in a text began here, if there was one; it says
-- nothing where it puts in none
abbrev pub part_behind : Option Location → Data → List ℕ → List ℕ
part_behind first d text = joint_words first (span_value_start d) ++ part_words d text

abbrev pub said_behind : Option Location → Data → List ℕ
said_behind first d = unwrap_or (option_map (part_behind first d) (text_at (codes "suggested_replacement") d)) []

-- where the first of them all began, behind it
abbrev pub first_behind : Option Location → Data → Option Location
first_behind first d = option_or first (option_map (λ text. span_value_start d) (text_at (codes "suggested_replacement") d))

-- what spans say, one behind the other
abbrev pub parts_behind : Option Location → Items → List ℕ
parts_behind first no_items = []
parts_behind first (item d items) = said_behind first d ++ parts_behind (first_behind first d) items
