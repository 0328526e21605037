-- What the parts of a document become that several forms have: locations, spans, and changes.
use Rattle.std.specs.Prelude.{ℕ, ◌+◌, ◌-◌, ◌^◌, min, ◌==◌, Bool, true, false, ◌&&◌, if◌then◌else◌}
use Rattle.std.specs.Prelude.{List, [], ◌∷◌, ◌++◌, codes, length, map}
use Rattle.std.specs.Prelude.{Option, Some, None, is_some, option_and_then, option_map, unwrap_or}
use Rattle.std.specs.List.{cons_option}
use Rattle.std.specs.Option.{option_to_list}
use Rattle.serde_json.specs.Data.{Data, Items, no_items, item}
use Rattle.serde_json.specs.Find.{get}
use Rattle.ariadne_parse.specs.Fixes.{change_words, reasoned, unnamed, up_to, Standing}
use Rattle.ariadne_parse.specs.Members.{all_items, end_before, items_in, list_at, number_at, location_at, text_at}
use Rattle.ariadne_parse.specs.Spans.{is_same_location, span_of, Seen}
use Rattle.ariadne_parse.specs.Proposed.{Edit, Proposed}
use Rattle.ariadne_parse.specs.Read.{Read}
use Rattle.ariadne_parse.specs.declared.diagnostic.Severity.{Severity}
use Rattle.ariadne_parse.specs.declared.diagnostic.Location.{Location}
use Rattle.ariadne_parse.specs.declared.unit.Unit.{Unit}

-- ---- lists

-- a member is a list, and each of its items passes
abbrev pub is_list_of : List ℕ → (Data → Bool) → Data → Bool
is_list_of name test d = is_some (list_at name d) && all_items test (items_in (list_at name d))

-- items are one at least, and each of them passes
abbrev pub are_some_of : (Data → Bool) → Items → Bool
are_some_of test no_items = false
are_some_of test (item d items) = test d && all_items test items

-- what each of them tells
abbrev pub parsed_each : (Data → Read) → Items → List Read
parsed_each parsed no_items = []
parsed_each parsed (item d items) = parsed d ∷ parsed_each parsed items

-- ---- members of members

-- a text in a member
abbrev pub text_within : List ℕ → List ℕ → Data → Option (List ℕ)
text_within outer inner d = option_and_then (text_at inner) (get outer d)

abbrev pub words_within : List ℕ → List ℕ → Data → List ℕ
words_within outer inner d = unwrap_or (text_within outer inner d) []

-- a number in a member
abbrev pub number_within : List ℕ → List ℕ → Data → Option ℕ
number_within outer inner d = option_and_then (number_at inner) (get outer d)

-- the items of a list in a member
abbrev pub items_within : List ℕ → List ℕ → Data → Items
items_within outer inner d = items_in (option_and_then (list_at inner) (get outer d))

-- ---- locations

-- a location in a member, by the names of its line and its column there
abbrev pub location_in : List ℕ → List ℕ → List ℕ → Data → Option Location
location_in name line column d = option_and_then (location_at line column) (get name d)

-- the number from 1 of what has this one from 0
abbrev pub from_one : ℕ → ℕ
from_one n = min (n + 1) (2 ^ 64 - 1)

-- a position of LSP: a line and a character from 0
abbrev pub position_of : Data → Option Location
position_of d =
    option_map
    (λ l. record { line = from_one l; column = option_map from_one (number_at (codes "character") d) })
    (number_at (codes "line") d)

abbrev pub position_at : List ℕ → Data → Option Location
position_at name d = option_and_then position_of (get name d)

-- the start or the end of a range of LSP
abbrev pub range_location : List ℕ → Data → Option Location
range_location name d = option_and_then (position_at name) (get (codes "range") d)

-- ---- spans

-- the span of a file that a diagnostic is about, if it begins somewhere
abbrev pub own_span : List ℕ → Unit → Option Location → Location → Seen
own_span file unit end start = record (span_of file start (end_before end) unit) { is_primary = true }

abbrev pub own_span_from : List ℕ → Unit → Option Location → Option Location → Option Seen
own_span_from file unit start end = option_map (own_span file unit end) start

-- ---- diagnostics

-- one of which only this is known
abbrev pub bare : Severity → List ℕ → Read
bare severity message = record {
  severity = severity;
  own_kind = None;
  code = None;
  message = message;
  spans = [];
  notes = [];
  helps = [];
  proposals = [];
  quoted = [];
  manifest = None;
  is_sum = false;
}

-- a file is named by a note, where no span of it is known
abbrev pub unplaced : List ℕ → Option Seen → List (List ℕ)
unplaced file None = if length file == 0 then [] else file ∷ []
unplaced file (Some span) = []

-- one about a file, with its span, or a note that names the file
abbrev pub filed : Severity → List ℕ → List ℕ → Option Seen → Read
filed severity message file span =
    record (bare severity message) { spans = option_to_list span; notes = unplaced file span }

-- the same with a code
abbrev pub coded : Option (List ℕ) → Read → Read
coded code parsed = record parsed { code = code }

-- ---- changes

-- what a change takes the place of: what stands up to its end, or nothing
abbrev pub standing_at : Edit → Standing
standing_at edit = if is_same_location edit.start edit.end then unnamed else up_to edit.end

abbrev pub edit_words : Edit → List ℕ
edit_words edit = change_words edit.start (standing_at edit) edit.put_in

-- the changes that items tell, if each tells one
abbrev pub edits_by : (Data → Option Edit) → Items → List Edit
edits_by edit no_items = []
edits_by edit (item d items) = cons_option (edit d) (edits_by edit items)

abbrev pub edits_of : (Data → Option Edit) → Items → List Edit
edits_of edit items = if all_items (λ d. is_some (edit d)) items then edits_by edit items else []

-- a change between two locations, if both are there
abbrev pub edit_between : Option Location → Option Location → List ℕ → Option Edit
edit_between start end text =
    option_and_then (λ s. option_map (λ e. record { start = s; end = e; put_in = text }) end) start

-- a diagnostic with what a fix says that changes nothing, if it says something
abbrev pub reason_alone : List ℕ → List (List ℕ)
reason_alone why = if length why == 0 then [] else why ∷ []

abbrev pub with_reason : List ℕ → Read → Read
with_reason why parsed = record parsed { helps = parsed.helps ++ reason_alone why }

-- what is said of changes: each is a help, or one help says why and all of them
abbrev pub fix_helps : List ℕ → List Edit → List (List ℕ)
fix_helps why edits = reasoned why (map edit_words edits)

-- what they propose, which helps from this number on say: one way
abbrev pub fix_proposed : ℕ → List ℕ → List ℕ → Unit → List Edit → Proposed
fix_proposed first why file unit edits = record {
  helps = (first, first + length (fix_helps why edits));
  why = why;
  file = file;
  unit = unit;
  is_past_mark = false;
  ways = edits ∷ [];
}

abbrev pub with_edits : List ℕ → List ℕ → Unit → List Edit → Read → Read
with_edits why file unit edits parsed = record parsed {
  helps = parsed.helps ++ fix_helps why edits;
  proposals = parsed.proposals ++ fix_proposed (length parsed.helps) why file unit edits ∷ [];
}

-- a diagnostic with a fix more: these changes of a file, and why
abbrev pub with_fix : List ℕ → List ℕ → Unit → List Edit → Read → Read
with_fix why file unit edits parsed =
    if length edits == 0 then with_reason why parsed else with_edits why file unit edits parsed
