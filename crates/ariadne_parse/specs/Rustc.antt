-- What a diagnostic of rustc's JSON becomes. Its spans, and those of its children that suggest nothing, are labels:
-- spans of files, and what is said of each. What its children say besides are notes and helps.
use Rattle.std.specs.Prelude.{ℕ, zero, suc, ◌+◌, ◌-◌, ◌^◌, min, ◌==◌, if◌then◌else◌, Bool, false, not, ◌&&◌, ◌||◌}
use Rattle.std.specs.Prelude.{List, [], ◌∷◌, ◌++◌, codes, length, map, string_bytes, Option, Some, None}
use Rattle.std.specs.Prelude.{is_some, option_and_then, option_map, unwrap_or}
use Rattle.std.specs.List.{filter_map, flat_map}
use Rattle.std.specs.Option.{option_or, option_to_list}
use Rattle.serde_json.specs.Data.{Data, Items, no_items, item}
use Rattle.serde_json.specs.Find.{get}
use Rattle.serde_json.specs.View.{view}
use Rattle.ariadne_parse.specs.declared.unit.Unit.TheVariants.{Char}
use Rattle.ariadne_parse.specs.Heads.{is_among}
use Rattle.ariadne_parse.specs.Members.{any_item, end_before, flat_items, has_none, has_number, has_words, is_true_at}
use Rattle.ariadne_parse.specs.Members.{items_in, list_at, number_at, severity_at, span_value_end, span_value_start, location_at, text_at, words_at}
use Rattle.ariadne_parse.specs.Noted.{span_row, with_row}
use Rattle.ariadne_parse.specs.TextPieces.{begins_with, closes_with, contains}
use Rattle.ariadne_parse.specs.Spans.{span_of, Seen}
use Rattle.ariadne_parse.specs.Proposed.{proposed, rustc_changes, rustc_proposed_by, Filed, Proposed}
use Rattle.ariadne_parse.specs.Read.{Quoted, Read}
use Rattle.ariadne_parse.specs.Suggested.{parts_behind, quoted_in, quoted_line}
use Rattle.ariadne_parse.specs.declared.diagnostic.End.{End}
use Rattle.ariadne_parse.specs.declared.diagnostic.Location.{Location}
use Rattle.ariadne_parse.specs.declared.labels.Label.{Label}
use Rattle.ariadne_parse.specs.declared.rustc.Beside.{Beside}

-- ---- its code, and whether it counts

-- its code stands in an object of its own, of that name
abbrev pub rustc_code : Data → Option (List ℕ)
rustc_code d = option_and_then (text_at (codes "code")) (get (codes "code") d)

abbrev pub span_values_of : Data → Items
span_values_of d = items_in (list_at (codes "spans") d)

-- a message without a span that says where to read more, or sums up others, counts as none
abbrev pub is_sum_by : Data → Bool
is_sum_by d =
    has_words (codes "level") (codes "failure-note") d
    || begins_with (codes "aborting due to ") (words_at (codes "message") d)
    || closes_with (codes " emitted") (words_at (codes "message") d)

abbrev pub is_rustc_sum : Data → Bool
is_rustc_sum d = has_none (span_values_of d) && is_sum_by d

-- ---- spans

-- a span of no span, as of a message about a whole crate: it covers nothing at the start of the first file, quotes
-- nothing and says nothing
unfoldable pub is_dummy : Data → Bool
is_dummy d =
    has_number (codes "byte_start") 0 d && has_number (codes "byte_end") 0 d
    && has_none (quoted_in d) && not (is_some (text_at (codes "label") d))

-- a file of the user's: none that a macro made, and none of std, by the paths where rustup, Debian and its own
-- builders put it
unfoldable pub is_own_file : List ℕ → Bool
is_own_file name =
    not (begins_with (codes "<") name) && not (begins_with (codes "/rustc/") name)
    && not (begins_with (codes "/usr/src/rustc-") name) && not (contains (codes "/rustlib/src/rust/") name)

abbrev pub is_in_own_file : Option (List ℕ) → Bool
is_in_own_file None = false
is_in_own_file (Some name) = is_own_file name

-- a span lies in one
abbrev pub is_own : Data → Bool
is_own d = is_in_own_file (text_at (codes "file_name") d)

-- ---- the calls of macros that made a span

-- the span of the call that made a span, if one did
abbrev pub call_of : Data → Option Data
call_of d = option_and_then (get (codes "span")) (get (codes "expansion") d)

-- the spans of the calls around a span, from the inside out, and so many at most
unfoldable pub calls_of : ℕ → Data → List Data
calls_of zero d = []
calls_of (suc n) d = unwrap_or (option_map (λ call. call ∷ calls_of n call) (call_of d)) []

-- the first of a span and such calls that lies in a file of the user's, or else the last of them
abbrev pub first_own : Data → List Data → Data
first_own d [] = d
first_own d (call ∷ calls) = if is_own d then d else first_own call calls

unfoldable pub own_within : ℕ → Data → Data
own_within n d = first_own d (calls_of n d)

-- the span that is shown for a span: 64 calls are followed
abbrev pub own_span_value : Data → Data
own_span_value d = own_within 64 d

-- the call that made a span is of a macro. What the compiler itself writes in other words, as a `for` loop, calls none
abbrev pub is_macro_name : Option (List ℕ) → Bool
is_macro_name None = false
is_macro_name (Some name) = not (begins_with (codes "desugaring of ") name)

abbrev pub maker_of : Data → Option (List ℕ)
maker_of d = option_and_then (text_at (codes "macro_decl_name")) (get (codes "expansion") d)

abbrev pub macro_call_of : Data → Option Data
macro_call_of d = if is_macro_name (maker_of d) then call_of d else None

-- the outermost of such calls that is of a macro
abbrev pub outermost : Data → List Data → Option Data
outermost d [] = None
outermost d (call ∷ calls) = option_or (outermost call calls) (macro_call_of d)

unfoldable pub outermost_within : ℕ → Data → Option Data
outermost_within n d = outermost d (calls_of n d)

-- a span begins in another one
unfoldable pub is_part : Data → Data → Bool
is_part d whole =
    has_words (codes "file_name") (words_at (codes "file_name") d) whole
    && is_among (span_value_start d) (span_value_start whole, span_value_end whole)

-- the outermost call is shown too where the span of which it is, and its own, lie in files of the user's, and the one
-- is no part of the other
unfoldable pub is_call_shown : Data → Data → Bool
is_call_shown d call = is_own d && is_own call && not (is_part d call)

abbrev pub shown_call : Data → Option Data
shown_call d =
    option_and_then (λ call. if is_call_shown d call then Some call else None) (outermost_within 64 d)

-- ---- labels

-- a label: its span, what it says, and whether the diagnostic is about it
pub record Labelled : Type 0 where
  pub span_value : Data
  pub said : List ℕ
  pub is_primary : Bool

abbrev pub labelled : Label → Labelled
labelled label = record { span_value = view label.span_value.now; said = label.said.now; is_primary = label.is_primary }

-- the labels of one of the diagnostic's own spans: its own, and that of the call that is shown too
abbrev pub own_label : Data → Data → Labelled
own_label d own = record {
  span_value = own;
  said = words_at (codes "label") d;
  is_primary = is_true_at (codes "is_primary") d;
}

abbrev pub call_label : Data → Labelled
call_label call = record { span_value = call; said = codes "in this macro invocation"; is_primary = false }

unfoldable pub span_value_labels : Data → List Labelled
span_value_labels d =
    if is_dummy d then []
    else own_label d (own_span_value d) ∷ option_to_list (option_map call_label (shown_call (own_span_value d)))

-- a span can be shown: it lies in a file of the user's, or rustc quotes it
unfoldable pub is_shown : Data → Bool
is_shown d = not (is_dummy d) && (is_own d || not (has_none (quoted_in d)))

-- what a span of a note says: its label, or else the note, where it is primary
abbrev pub said_by : List ℕ → Data → List ℕ
said_by message d =
    unwrap_or (text_at (codes "label") d) (if is_true_at (codes "is_primary") d then message else [])

-- the label of such a span, if it can be shown
unfoldable pub noted_label : List ℕ → Data → Option Labelled
noted_label message d =
    if is_shown (own_span_value d)
    then Some (record { span_value = own_span_value d; said = said_by message d; is_primary = false })
    else None

abbrev pub noted_labels : List ℕ → Items → List Labelled
noted_labels message span_values = flat_items (λ d. option_to_list (noted_label message d)) span_values

-- the span of a label, if its span has a line. Columns count characters, and the span ends in front of the span's end
abbrev pub rustc_end : Data → End
rustc_end d = end_before (location_at (codes "line_end") (codes "column_end") d)

abbrev pub span_from : Labelled → Location → Seen
span_from label start =
    record (span_of (words_at (codes "file_name") label.span_value) start (rustc_end label.span_value) Char) {
      text = label.said;
      is_primary = label.is_primary;
    }

abbrev pub label_span : Labelled → Option Seen
label_span label = option_map (span_from label) (location_at (codes "line_start") (codes "column_start") label.span_value)

-- the lines that rustc quotes of its file, of which this is the first; the machine's greatest number counts on as itself
abbrev pub quotes_from : List ℕ → ℕ → Items → List Quoted
quotes_from file line no_items = []
quotes_from file line (item d items) =
    record { file = file; line = line; text = quoted_line d } ∷ quotes_from file (min (line + 1) (2 ^ 64 - 1)) items

abbrev pub span_value_quotes : Data → List Quoted
span_value_quotes d =
    unwrap_or
    (option_map (λ line. quotes_from (words_at (codes "file_name") d) line (quoted_in d)) (number_at (codes "line_start") d))
    []

-- ---- notes and helps

-- what is said beside the message
pub record SaidBeside : Type 0 where
  pub labels : List Labelled
  pub notes : List (List ℕ)
  pub helps : List (List ℕ)
  pub proposals : List Proposed

abbrev pub as_said : Beside → SaidBeside
as_said parsed = record {
  labels = map labelled parsed.labels.items;
  notes = map string_bytes parsed.notes.items;
  helps = map string_bytes parsed.helps.items;
  proposals = map proposed parsed.proposals.items;
}

-- a label says the note itself
unfoldable pub says_note : Data → Bool
says_note d =
    is_shown (own_span_value d) && is_true_at (codes "is_primary") d && not (is_some (text_at (codes "label") d))

-- a span stands for a span that can't be shown: it is a row, with what it says
unfoldable pub is_elsewhere : Data → Bool
is_elsewhere d = not (is_dummy d) && not (is_shown (own_span_value d))

abbrev pub row_at : Data → Location → List ℕ
row_at d at = span_row (words_at (codes "file_name") d) at (words_at (codes "label") d)

abbrev pub elsewhere_row : Data → Option (List ℕ)
elsewhere_row d =
    if is_elsewhere d then option_map (row_at d) (location_at (codes "line_start") (codes "column_start") d) else None

abbrev pub with_row_if : List ℕ → Option (List ℕ) → List ℕ
with_row_if text None = text
with_row_if text (Some row) = with_row text row

abbrev pub with_rows : List ℕ → Items → List ℕ
with_rows text no_items = text
with_rows text (item d items) = with_rows (with_row_if text (elsewhere_row d)) items

-- what a note says beside its labels: its message, where none of them does, and below it these rows
unfoldable pub noted_text : List ℕ → Items → List ℕ
noted_text message span_values = with_rows (if any_item says_note span_values then [] else message) span_values

-- it is a help or a note by its level; a note with spans may have said all
abbrev pub with_text : SaidBeside → Data → List ℕ → SaidBeside
with_text parsed d text =
    if length text == 0 && not (has_none (span_values_of d)) then parsed
    else (if has_words (codes "level") (codes "help") d
    then record parsed { helps = parsed.helps ++ text ∷ [] }
    else record parsed { notes = parsed.notes ++ text ∷ [] })

-- what is said, with a child more that suggests nothing
abbrev pub with_labels : SaidBeside → List Labelled → SaidBeside
with_labels parsed labels = record parsed { labels = parsed.labels ++ labels }

unfoldable pub with_noted : SaidBeside → Data → SaidBeside
with_noted parsed d =
    with_text (with_labels parsed (noted_labels (words_at (codes "message") d) (span_values_of d))) d
    (noted_text (words_at (codes "message") d) (span_values_of d))

-- with one more that suggests these changes: a help says why and what, and the same is proposed
unfoldable pub with_suggested : SaidBeside → List ℕ → Items → List Filed → SaidBeside
with_suggested parsed message span_values changes = record parsed {
  helps = parsed.helps ++ (message ++ codes ": " ++ parts_behind None span_values) ∷ [];
  proposals = parsed.proposals
      ++ option_to_list (rustc_proposed_by (length parsed.helps, length parsed.helps + 1) message changes);
}

-- with one more, and with several
unfoldable pub with_child : SaidBeside → Data → SaidBeside
with_child parsed d =
    if length (rustc_changes d) == 0
    then with_noted parsed d
    else with_suggested parsed (words_at (codes "message") d) (span_values_of d) (rustc_changes d)

abbrev pub with_children : SaidBeside → Items → SaidBeside
with_children parsed no_items = parsed
with_children parsed (item d items) = with_children (with_child parsed d) items

abbrev pub own_said : Data → SaidBeside
own_said d = record { labels = flat_items span_value_labels (span_values_of d); notes = []; helps = []; proposals = [] }

unfoldable pub said_in : Data → SaidBeside
said_in d = with_children (own_said d) (items_in (list_at (codes "children") d))

-- ---- a diagnostic, of a package with this manifest

abbrev pub rustc_read : Option (List ℕ) → Data → Read
rustc_read manifest d = record {
  severity = severity_at (codes "level") d;
  own_kind = None;
  code = rustc_code d;
  message = words_at (codes "message") d;
  spans = filter_map label_span (said_in d).labels;
  notes = (said_in d).notes;
  helps = (said_in d).helps;
  proposals = (said_in d).proposals;
  quoted = flat_map (λ label. span_value_quotes label.span_value) (said_in d).labels;
  manifest = manifest;
  is_sum = is_rustc_sum d;
}
