-- What the diagnostics become that a server of LSP publishes: in the notification `textDocument/publishDiagnostics`, or
-- its parameters alone. Lines and columns count from 0, columns UTF-16, and ends stand behind what is meant.
use Rattle.std.specs.Prelude.{ℕ, Bool, ◌&&◌, ◌||◌, if◌then◌else◌, List, [], ◌++◌, codes, decimal}
use Rattle.std.specs.Prelude.{Option, is_some, option_and_then, option_map, unwrap_or}
use Rattle.std.specs.List.{cons_option}
use Rattle.std.specs.Option.{option_or}
use Rattle.serde_json.specs.Data.{Data, Items, no_items, item}
use Rattle.serde_json.specs.Find.{get}
use Rattle.ariadne_parse.specs.Members.{end_before, has_number, has_words, items_in, list_at, number_at, text_at, words_at}
use Rattle.ariadne_parse.specs.Spans.{span_of, Seen}
use Rattle.ariadne_parse.specs.Read.{Read}
use Rattle.ariadne_parse.specs.declared.diagnostic.Severity.{Severity}
use Rattle.ariadne_parse.specs.declared.diagnostic.Severity.TheVariants.{Error, Warning, Note}
use Rattle.ariadne_parse.specs.declared.diagnostic.Location.{Location}
use Rattle.ariadne_parse.specs.declared.unit.Unit.TheVariants.{Utf16}
use Rattle.ariadne_sarif.specs.DocumentParts.{coded, filed, is_list_of, own_span_from, range_location, parsed_each}
use Rattle.ariadne_sarif.specs.Uris.{path_of}

-- a diagnostic has a range and a message, and the published ones a URI
abbrev pub is_published : Data → Bool
is_published d = is_some (range_location (codes "start") d) && is_some (text_at (codes "message") d)

abbrev pub is_of_file : Data → Bool
is_of_file d = is_some (text_at (codes "uri") d) && is_list_of (codes "diagnostics") is_published d

-- the parameters that a value is, or has as a notification
abbrev pub params_of : Data → Data
params_of d =
    if has_words (codes "method") (codes "textDocument/publishDiagnostics") d
    then unwrap_or (get (codes "params") d) d
    else d

abbrev pub is_lsp : Data → Bool
is_lsp d = is_of_file (params_of d)

-- 1 is an error, 2 a warning, 3 and 4 are notes; so is an error what names none
abbrev pub severity_of : Data → Severity
severity_of d =
    if has_number (codes "severity") 2 d then Warning
    else (if has_number (codes "severity") 3 d || has_number (codes "severity") 4 d then Note else Error)

-- its code is a text or a number
abbrev pub code_of : Data → Option (List ℕ)
code_of d = option_or (text_at (codes "code") d) (option_map decimal (number_at (codes "code") d))

-- the span of what is related, which says its message
abbrev pub related_at : Data → List ℕ → Location → Seen
related_at location said start =
    record (span_of (path_of (words_at (codes "uri") location)) start
    (end_before (range_location (codes "end") location)) Utf16) {
      text = said;
    }

abbrev pub related_span : Data → Option Seen
related_span d =
    option_and_then
    (λ location. option_map (related_at location (words_at (codes "message") d)) (range_location (codes "start") location))
    (get (codes "location") d)

abbrev pub related_spans : Items → List Seen
related_spans no_items = []
related_spans (item d items) = cons_option (related_span d) (related_spans items)

-- a diagnostic of a file, and all
abbrev pub published_span : List ℕ → Data → Option Seen
published_span file d = own_span_from file Utf16 (range_location (codes "start") d) (range_location (codes "end") d)

abbrev pub with_spans : List Seen → Read → Read
with_spans spans parsed = record parsed { spans = parsed.spans ++ spans }

abbrev pub unrelated : List ℕ → Data → Read
unrelated file d =
    coded (code_of d) (filed (severity_of d) (words_at (codes "message") d) file (published_span file d))

abbrev pub published_read : List ℕ → Data → Read
published_read file d =
    with_spans (related_spans (items_in (list_at (codes "relatedInformation") d))) (unrelated file d)

abbrev pub file_parsed : Data → List Read
file_parsed d =
    parsed_each (published_read (path_of (words_at (codes "uri") d))) (items_in (list_at (codes "diagnostics") d))

abbrev pub lsp_parsed : Data → List Read
lsp_parsed d = file_parsed (params_of d)
