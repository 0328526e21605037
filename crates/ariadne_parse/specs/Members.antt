-- What the members of a value become that a tool writes for one diagnostic: its texts, its numbers and its spans.
-- The forms are those of rustc, of gcc and of reports.
use Rattle.std.specs.Prelude.{ℕ, ◌==◌, Bool, true, false, ◌&&◌, ◌||◌, List, [], ◌++◌, codes}
use Rattle.std.specs.Prelude.{Option, Some, None, option_and_then, option_map}
use Rattle.std.specs.Option.{option_or, unwrap_or}
use Rattle.std.specs.Str.{bytes_eq}
use Rattle.serde_json.specs.Data.{Data, Items, no_items, item}
use Rattle.serde_json.specs.Find.{as_array, as_bool, as_number, as_str, as_u64, get}
use Rattle.ariadne_parse.specs.TextPieces.{begins_with}
use Rattle.ariadne_parse.specs.Severities.{severity_of}
use Rattle.ariadne_parse.specs.Spans.{span_of, Seen}
use Rattle.ariadne_parse.specs.declared.unit.Unit.TheVariants.{Byte}
use Rattle.ariadne_parse.specs.declared.diagnostic.End.{End}
use Rattle.ariadne_parse.specs.declared.diagnostic.End.TheVariants.{Before, Behind, OfWord}
use Rattle.ariadne_parse.specs.declared.diagnostic.Location.{Location}
use Rattle.ariadne_parse.specs.declared.diagnostic.Severity.{Severity}
use Rattle.ariadne_parse.specs.declared.diagnostic.Severity.TheVariants.{Error, Warning, Note}

-- ---- members

-- a member that is a text
abbrev pub text_at : List ℕ → Data → Option (List ℕ)
text_at name d = option_and_then as_str (get name d)

-- a member that is a list
abbrev pub list_at : List ℕ → Data → Option Items
list_at name d = option_and_then as_array (get name d)

-- its items
abbrev pub items_in : Option Items → Items
items_in None = no_items
items_in (Some items) = items

-- each of them passes
abbrev pub all_items : (Data → Bool) → Items → Bool
all_items test no_items = true
all_items test (item d items) = test d && all_items test items

-- one of them does
abbrev pub any_item : (Data → Bool) → Items → Bool
any_item test no_items = false
any_item test (item d items) = test d || any_item test items

-- there are none
abbrev pub has_none : Items → Bool
has_none no_items = true
has_none (item d items) = false

-- what they become, one behind the other
abbrev pub flat_items : {A : Type 0} → (Data → List A) → Items → List A
flat_items become no_items = []
flat_items become (item d items) = become d ++ flat_items become items

-- a whole number that is not negative
abbrev pub number_of : Data → Option ℕ
number_of d = option_and_then as_u64 (as_number d)

-- a member that is a text; an empty one where it is none
abbrev pub words_at : List ℕ → Data → List ℕ
words_at name d = unwrap_or (text_at name d) []

-- a text that may be there is this one
abbrev pub is_text : List ℕ → Option (List ℕ) → Bool
is_text words None = false
is_text words (Some text) = bytes_eq text words

-- a member is this text
abbrev pub has_words : List ℕ → List ℕ → Data → Bool
has_words name words d = is_text words (text_at name d)

-- the severity that a member names, by a name that tools give severities; that of errors where it names none
abbrev pub severity_at : List ℕ → Data → Severity
severity_at name d = unwrap_or (option_and_then severity_of (text_at name d)) Error

-- a member that is a number of this machine
abbrev pub number_at : List ℕ → Data → Option ℕ
number_at name d = option_and_then number_of (get name d)

-- a member is this number
abbrev pub is_number : ℕ → Option ℕ → Bool
is_number n None = false
is_number n (Some found) = found == n

abbrev pub has_number : List ℕ → ℕ → Data → Bool
has_number name n d = is_number n (number_at name d)

-- a member is `true`
abbrev pub is_true_at : List ℕ → Data → Bool
is_true_at name d = unwrap_or (option_and_then as_bool (get name d)) false

-- two severities are the same
abbrev pub is_same_severity : Severity → Severity → Bool
is_same_severity Error Error = true
is_same_severity Warning Warning = true
is_same_severity Note Note = true
is_same_severity _ _ = false

-- ---- rustc

-- a location whose line and column are members
abbrev pub location_at : List ℕ → List ℕ → Data → Option Location
location_at line column d = option_map (λ l. record { line = l; column = number_at column d }) (number_at line d)

-- a span ends in front of the character at its end; one that names none is the word there
abbrev pub end_before : Option Location → End
end_before None = OfWord
end_before (Some end) = Before end

-- where a span begins and ends; its line is 0 where it has none
abbrev pub span_value_start : Data → Location
span_value_start d = record {
  line = unwrap_or (number_at (codes "line_start") d) 0;
  column = number_at (codes "column_start") d;
}

abbrev pub span_value_end : Data → Location
span_value_end d = record {
  line = unwrap_or (number_at (codes "line_end") d) 0;
  column = number_at (codes "column_end") d;
}

-- ---- gcc

-- a location: its column in bytes, which older ones call `column`
abbrev pub gcc_location : Data → Option Location
gcc_location d =
    option_map
    (λ l. record { line = l; column = option_or (number_at (codes "byte-column") d) (number_at (codes "column") d) })
    (number_at (codes "line") d)

abbrev pub gcc_location_at : List ℕ → Data → Option Location
gcc_location_at name d = option_and_then gcc_location (get name d)

-- a location ends behind the character at its finish, or else at its caret; one that has no start either is
-- the word there
abbrev pub end_behind : Location → Option Location → Option Data → End
end_behind caret (Some finish) start = Behind finish
end_behind caret None (Some start) = Behind caret
end_behind caret None None = OfWord

abbrev pub gcc_end : Location → Data → End
gcc_end caret d = end_behind caret (gcc_location_at (codes "finish") d) (get (codes "start") d)

-- the span of a location of which this is said, whose caret is this: its columns count bytes, without a byte
-- order mark
abbrev pub gcc_span_by : List ℕ → Bool → Data → List ℕ → Location → Seen
gcc_span_by said is_primary d file caret =
    record (span_of file (unwrap_or (gcc_location_at (codes "start") d) caret) (gcc_end caret d) Byte) {
      caret = caret;
      is_past_mark = true;
      text = said;
      is_primary = is_primary;
    }

abbrev pub gcc_span : List ℕ → Bool → Data → Option Seen
gcc_span said is_primary d =
    option_and_then
    (λ caret. option_map (gcc_span_by said is_primary d (words_at (codes "file") caret)) (gcc_location caret))
    (get (codes "caret") d)

-- a value of gcc's is a note
abbrev pub is_gcc_note : Data → Bool
is_gcc_note d = has_words (codes "kind") (codes "note") d

-- it goes on with a diagnostic of this severity: it has the same, and its message begins with two blanks
abbrev pub is_gcc_more : Severity → Data → Bool
is_gcc_more severity d =
    is_same_severity (severity_at (codes "kind") d) severity
    && begins_with (codes "  ") (words_at (codes "message") d)
