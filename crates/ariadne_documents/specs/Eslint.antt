-- What the list becomes that eslint's formatter `json` writes: an object for each file, with its `messages`. Columns count
-- UTF-16 from 1, and ends stand behind what is meant. Fixes count from the start of the file, whose source stands beside its
-- messages: so they become lines and columns of that. A byte order mark, 239 187 191, counts as nothing.
use Rattle.std.specs.Prelude.{ℕ, Bool, ◌&&◌, if◌then◌else◌, List, [], ◌∷◌, codes, Option, is_some, option_and_then, unwrap_or}
use Rattle.std.specs.Option.{option_to_list}
use Rattle.serde_json.specs.Data.{Data, Items, no_items, item}
use Rattle.serde_json.specs.Find.{as_array, at, get}
use Rattle.ariadne_parse.specs.Members.{flat_items, has_number, items_in, list_at, number_at, number_of, location_at, text_at, words_at}
use Rattle.ariadne_parse.specs.Spans.{Seen}
use Rattle.ariadne_parse.specs.Proposed.{Edit}
use Rattle.ariadne_parse.specs.Read.{Read}
use Rattle.ariadne_parse.specs.TextPieces.{behind_text}
use Rattle.ariadne_parse.specs.declared.diagnostic.Severity.{Severity}
use Rattle.ariadne_parse.specs.declared.diagnostic.Severity.TheVariants.{Error, Warning}
use Rattle.ariadne_parse.specs.declared.diagnostic.Location.{Location}
use Rattle.ariadne_parse.specs.declared.unit.Unit.TheVariants.{Utf16}
use Rattle.ariadne_sarif.specs.DocumentParts.{are_some_of, coded, edit_between, filed, is_list_of, own_span_from, parsed_each, with_fix}
use Rattle.ariadne_documents.specs.Offsets.{location_behind}

-- a message has a text and a severity, a file its path and its messages
abbrev pub is_message : Data → Bool
is_message d = is_some (text_at (codes "message") d) && is_some (number_at (codes "severity") d)

abbrev pub is_file : Data → Bool
is_file d = is_some (text_at (codes "filePath") d) && is_list_of (codes "messages") is_message d

abbrev pub is_eslint : Data → Bool
is_eslint d = are_some_of is_file (items_in (as_array d))

-- 1 is a warning, 2 an error
abbrev pub severity_of : Data → Severity
severity_of d = if has_number (codes "severity") 1 d then Warning else Error

abbrev pub message_span : List ℕ → Data → Option Seen
message_span file d =
    own_span_from file Utf16 (location_at (codes "line") (codes "column") d) (location_at (codes "endLine") (codes "endColumn") d)

-- ---- fixes

-- the source that the offsets of a file count in
abbrev pub source_of : Data → List ℕ
source_of d =
    unwrap_or (behind_text (239 ∷ 187 ∷ 191 ∷ []) (words_at (codes "source") d)) (words_at (codes "source") d)

-- where a fix begins and where it ends, by the numbers of these in its range
abbrev pub location_of : ℕ → List ℕ → Data → Option Location
location_of n source fix =
    option_and_then (λ offset. location_behind offset source)
    (option_and_then number_of (option_and_then (at n) (get (codes "range") fix)))

abbrev pub edit_of_fix : List ℕ → Data → Option Edit
edit_of_fix source fix =
    option_and_then (edit_between (location_of 0 source fix) (location_of 1 source fix)) (text_at (codes "text") fix)

-- the change of a message, or of a suggestion
abbrev pub edits_in : List ℕ → Data → List Edit
edits_in source d = option_to_list (option_and_then (edit_of_fix source) (get (codes "fix") d))

-- a diagnostic with that more, and why
abbrev pub with_own_fix : List ℕ → List ℕ → List ℕ → Data → Read → Read
with_own_fix why file source d parsed = with_fix why file Utf16 (edits_in source d) parsed

abbrev pub with_suggestions : List ℕ → List ℕ → Items → Read → Read
with_suggestions file source no_items parsed = parsed
with_suggestions file source (item d items) parsed =
    with_suggestions file source items (with_own_fix (words_at (codes "desc") d) file source d parsed)

-- ---- messages

-- a message of a file with this source, without what fixes it, and with that
abbrev pub unfixed : List ℕ → Data → Read
unfixed file d =
    coded (text_at (codes "ruleId") d)
    (filed (severity_of d) (words_at (codes "message") d) file (message_span file d))

abbrev pub with_fixes : List ℕ → List ℕ → Data → Read → Read
with_fixes file source d parsed =
    with_suggestions file source (items_in (list_at (codes "suggestions") d)) (with_own_fix [] file source d parsed)

abbrev pub message_read : List ℕ → List ℕ → Data → Read
message_read file source d = with_fixes file source d (unfixed file d)

-- the messages of a file, and of all files
abbrev pub file_parsed : Data → List Read
file_parsed d =
    parsed_each (message_read (words_at (codes "filePath") d) (source_of d)) (items_in (list_at (codes "messages") d))

abbrev pub eslint_parsed : Data → List Read
eslint_parsed d = flat_items file_parsed (items_in (as_array d))
