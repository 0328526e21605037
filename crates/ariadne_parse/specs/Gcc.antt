-- What a list of gcc's becomes: its diagnostics, each with the notes behind it.
use Rattle.std.specs.Prelude.{ℕ, ◌+◌, ◌==◌, Bool, true, false, not, ◌&&◌, ◌||◌, if◌then◌else◌}
use Rattle.std.specs.Prelude.{List, [], ◌∷◌, ◌++◌, codes, decimal, length, unwrap_or}
use Rattle.std.specs.Prelude.{Option, Some, None, is_some, option_and_then, option_map}
use Rattle.std.specs.List.{cons_option}
use Rattle.std.specs.Option.{option_to_list}
use Rattle.std.specs.Str.{trim_start}
use Rattle.serde_json.specs.Data.{Data, Items, no_items, item}
use Rattle.serde_json.specs.Find.{get}
use Rattle.ariadne_parse.specs.declared.unit.Unit.TheVariants.{Byte}
use Rattle.ariadne_parse.specs.GccFixes.{gcc_changes, gcc_note_helps}
use Rattle.ariadne_parse.specs.Members.{gcc_span, gcc_location, gcc_location_at, is_gcc_more, is_gcc_note, is_text, items_in}
use Rattle.ariadne_parse.specs.Members.{list_at, severity_at, text_at, words_at}
use Rattle.ariadne_parse.specs.Spans.{span_of, Seen}
use Rattle.ariadne_parse.specs.Proposed.{fixits_of, gcc_note_proposed, gcc_proposed}
use Rattle.ariadne_parse.specs.Read.{Read}
use Rattle.ariadne_parse.specs.declared.diagnostic.End.TheVariants.{OfWord}
use Rattle.ariadne_parse.specs.declared.diagnostic.Severity.{Severity}
use Rattle.ariadne_parse.specs.declared.diagnostic.Location.{Location}

-- ---- the spans of a diagnostic

abbrev pub location_values_of : Data → Items
location_values_of d = items_in (list_at (codes "locations") d)

-- a location says something: it has a label, or a column
abbrev pub has_column : Option Location → Bool
has_column None = false
has_column (Some location) = is_some location.column

abbrev pub says_something : Data → Bool
says_something d = is_some (text_at (codes "label") d) || has_column (gcc_location_at (codes "caret") d)

-- the diagnostic is about its first location; each other has to say something
abbrev pub own_location_value : Bool → Data → Option Seen
own_location_value is_first d =
    if is_first || says_something d then gcc_span (words_at (codes "label") d) is_first d else None

abbrev pub location_value_spans : Bool → Items → List Seen
location_value_spans is_first no_items = []
location_value_spans is_first (item d items) = cons_option (own_location_value is_first d) (location_value_spans false items)

-- ---- events, which lead to a diagnostic of the analyzer

-- an event says its number, from 1, and what it describes
abbrev pub event_text : ℕ → Data → List ℕ
event_text number d = codes "(" ++ decimal number ++ codes ") " ++ words_at (codes "description") d

-- where it is, if it says a file and a line there
abbrev pub event_span_in : Data → Option Seen
event_span_in location_value =
    option_and_then
    (λ file. option_map (λ at. record (span_of file at OfWord Byte) { is_past_mark = true }) (gcc_location location_value))
    (text_at (codes "file") location_value)

abbrev pub event_span : Data → Option Seen
event_span d = option_and_then event_span_in (get (codes "location") d)

-- its span says what it says
abbrev pub saying : List ℕ → Seen → Seen
saying text span = record span { text = text }

abbrev pub event_parsed : ℕ → Data → Option Seen
event_parsed number d = option_map (saying (event_text number d)) (event_span d)

abbrev pub event_spans : ℕ → Items → List Seen
event_spans number no_items = []
event_spans number (item d items) = option_to_list (event_parsed number d) ++ event_spans (number + 1) items

-- without a span it is a note
abbrev pub event_note : ℕ → Data → Option (List ℕ)
event_note number d = if is_some (event_span d) then None else Some (event_text number d)

abbrev pub event_notes : ℕ → Items → List (List ℕ)
event_notes number no_items = []
event_notes number (item d items) = option_to_list (event_note number d) ++ event_notes (number + 1) items

abbrev pub events_of : Data → Items
events_of d = items_in (list_at (codes "path") d)

-- ---- a diagnostic

-- its kind, option and message alone
abbrev pub gcc_bare : Data → Read
gcc_bare d = record {
  severity = severity_at (codes "kind") d;
  own_kind = None;
  code = text_at (codes "option") d;
  message = words_at (codes "message") d;
  spans = [];
  notes = [];
  helps = [];
  proposals = [];
  quoted = [];
  manifest = None;
  is_sum = false;
}

-- with its locations and events, and what its fix-its change and propose
abbrev pub gcc_read : Data → Read
gcc_read d = record (gcc_bare d) {
  spans = location_value_spans true (location_values_of d) ++ event_spans 1 (events_of d);
  notes = event_notes 1 (events_of d);
  helps = gcc_changes d;
  proposals = option_to_list (gcc_proposed (0, length (gcc_changes d)) [] (fixits_of d));
}

-- one without helps, to which the parts of a diagnostic are added
abbrev pub with_parts : Read → Data → Read
with_parts parsed d = record parsed {
  spans = (parsed.spans ++ location_value_spans true (location_values_of d)) ++ event_spans 1 (events_of d);
  notes = parsed.notes ++ event_notes 1 (events_of d);
  helps = gcc_changes d;
  proposals = parsed.proposals ++ option_to_list (gcc_proposed (0, length (gcc_changes d)) [] (fixits_of d));
}

-- ---- its notes

-- two columns are the same
abbrev pub is_column : Option ℕ → Option ℕ → Bool
is_column None None = true
is_column (Some a) (Some b) = a == b
is_column _ _ = false

-- a location is this one
abbrev pub is_location : Location → Option Location → Bool
is_location at None = false
is_location at (Some location) = location.line == at.line && is_column location.column at.column

-- a caret is where a span has its own
abbrev pub is_caret_of : Seen → Data → Bool
is_caret_of span caret =
    is_location span.caret (gcc_location caret) && is_text span.file (text_at (codes "file") caret)

-- a caret is elsewhere than where a diagnostic with these spans points, which the first of them is
abbrev pub is_away : List Seen → Data → Bool
is_away [] caret = true
is_away (first ∷ spans) caret = not (is_caret_of first caret)

-- and so is a location, if it has a caret
abbrev pub is_caret_away : List Seen → Option Data → Bool
is_caret_away spans None = false
is_caret_away spans (Some caret) = is_away spans caret

abbrev pub is_elsewhere : List Seen → Data → Bool
is_elsewhere spans d = is_caret_away spans (get (codes "caret") d)

-- the first of a note's locations says the note: it is elsewhere, and has no label of its own
abbrev pub is_label : List Seen → Items → Bool
is_label spans no_items = false
is_label spans (item d items) = is_elsewhere spans d && not (is_some (text_at (codes "label") d))

-- the span of a location that says something, or is elsewhere. It says this where it has no label
abbrev pub noted_span : List Seen → List ℕ → Data → Option Seen
noted_span spans own d =
    if not (length (unwrap_or (text_at (codes "label") d) own) == 0) || is_elsewhere spans d
    then gcc_span (unwrap_or (text_at (codes "label") d) own) false d
    else None

-- spans, and those of locations of which the first says this
abbrev pub with_noted : List Seen → List ℕ → Items → List Seen
with_noted spans first no_items = spans
with_noted spans first (item d items) =
    with_noted (spans ++ option_to_list (noted_span spans first d)) [] items

-- what a note says
abbrev pub note_text : Data → List ℕ
note_text d = trim_start (words_at (codes "message") d)

-- it is said at the first of its locations, or beside
abbrev pub with_note_said : List Seen → List ℕ → Items → List Seen
with_note_said spans said location_values =
    with_noted spans (if is_label spans location_values then said else []) location_values

abbrev pub note_beside : List Seen → List ℕ → Items → List (List ℕ)
note_beside spans said location_values = if is_label spans location_values then [] else said ∷ []

-- a diagnostic with a note more
abbrev pub gcc_noted : Read → Data → Read
gcc_noted parsed d = record parsed {
  spans = with_note_said parsed.spans (note_text d) (location_values_of d);
  notes = parsed.notes ++ note_beside parsed.spans (note_text d) (location_values_of d);
  helps = parsed.helps ++ gcc_note_helps d;
  proposals = parsed.proposals ++ option_to_list
      (gcc_note_proposed (length parsed.helps, length parsed.helps + length (gcc_note_helps d)) d);
}

-- ---- lists

-- a value is a part of the diagnostic in front of it, which has this severity
abbrev pub is_part : Severity → Data → Bool
is_part severity d = is_gcc_note d || is_gcc_more severity d

-- the last diagnostic with a value behind it
abbrev pub last_with : Read → Data → List Read
last_with parsed d = if is_part parsed.severity d then gcc_noted parsed d ∷ [] else parsed ∷ gcc_read d ∷ []

-- diagnostics with a value behind them
abbrev pub gcc_behind : List Read → Data → List Read
gcc_behind [] d = gcc_read d ∷ []
gcc_behind (parsed ∷ []) d = last_with parsed d
gcc_behind (parsed ∷ next ∷ all) d = parsed ∷ gcc_behind (next ∷ all) d

-- and with several, in their order
abbrev pub gcc_all : List Read → Items → List Read
gcc_all all no_items = all
gcc_all all (item d items) = gcc_all (gcc_behind all d) items

-- a value stands in front of its children, which have none
abbrev pub gcc_with : List Read → Data → List Read
gcc_with all d = gcc_all (gcc_behind all d) (items_in (list_at (codes "children") d))

abbrev pub gcc_list : List Read → Items → List Read
gcc_list all no_items = all
gcc_list all (item d items) = gcc_list (gcc_with all d) items
