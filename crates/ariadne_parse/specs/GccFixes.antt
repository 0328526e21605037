-- What gcc's JSON says is to be changed: each fix says where, and which text to put there. Characters stand as their
-- numbers: 10 is a line feed.
use Rattle.std.specs.Prelude.{ℕ, ◌==◌, if◌then◌else◌, Bool, false, ◌&&◌, List, [], codes}
use Rattle.std.specs.Prelude.{Option, Some, None, option_and_then, option_map, unwrap_or}
use Rattle.std.specs.List.{cons_option}
use Rattle.std.specs.Str.{trim_start}
use Rattle.serde_json.specs.Data.{Data, Items, no_items, item}
use Rattle.ariadne_parse.specs.Fixes.{change_words, line_words, reasoned, unnamed}
use Rattle.ariadne_parse.specs.Members.{gcc_location_at, items_in, list_at, text_at, words_at}
use Rattle.ariadne_parse.specs.TextPieces.{in_front_of}
use Rattle.ariadne_parse.specs.Spans.{is_same_location}
use Rattle.ariadne_parse.specs.declared.diagnostic.Location.{Location}

-- a fix takes the place of nothing, in front of a line: it goes on where it begins, in the first column
abbrev pub is_in_front_by : Location → Option Location → Bool
is_in_front_by at None = false
is_in_front_by at (Some next) = is_same_location at next && unwrap_or at.column 0 == 1

abbrev pub is_in_front : Data → Location → Bool
is_in_front d at = is_in_front_by at (gcc_location_at (codes "next") d)

-- then a text that ends its line is a line
abbrev pub line_in : Data → Location → List ℕ → Option (List ℕ)
line_in d at text = if is_in_front d at then in_front_of 10 text else None

abbrev pub put_words_by : Location → List ℕ → Option (List ℕ) → List ℕ
put_words_by at text None = change_words at unnamed text
put_words_by at text (Some line) = line_words at.line line

abbrev pub put_words : Data → Location → List ℕ → List ℕ
put_words d at text = put_words_by at text (line_in d at text)

-- what a fix changes, if it says where, and what to put there
abbrev pub change_of : Data → Option (List ℕ)
change_of d =
    option_and_then (λ at. option_map (put_words d at) (text_at (codes "string") d)) (gcc_location_at (codes "start") d)

-- what fixes change
abbrev pub changes_of : Items → List (List ℕ)
changes_of no_items = []
changes_of (item d items) = cons_option (change_of d) (changes_of items)

-- the changes of a diagnostic: each is a help
abbrev pub gcc_changes : Data → List (List ℕ)
gcc_changes d = changes_of (items_in (list_at (codes "fixits") d))

-- those of a note are one help, which says why: what the note says
abbrev pub gcc_note_helps : Data → List (List ℕ)
gcc_note_helps d = reasoned (trim_start (words_at (codes "message") d)) (gcc_changes d)
