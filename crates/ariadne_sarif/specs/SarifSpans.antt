-- Where SARIF's results are: the files of artifact locations, the spans of regions, and the changes of replacements.
use Rattle.std.specs.Prelude.{ℕ, zero, suc, ◌==◌, Bool, ◌||◌, if◌then◌else◌, List, [], ◌++◌, codes, length}
use Rattle.std.specs.Prelude.{Option, Some, None, is_some, option_and_then, option_map, unwrap_or}
use Rattle.std.specs.List.{cons_option}
use Rattle.serde_json.specs.Data.{Data, Items, no_items, item}
use Rattle.serde_json.specs.Find.{at, get}
use Rattle.ariadne_parse.specs.Members.{has_words, number_at, location_at, text_at, words_at}
use Rattle.ariadne_parse.specs.Spans.{span_of, Seen}
use Rattle.ariadne_parse.specs.Proposed.{Edit}
use Rattle.ariadne_parse.specs.declared.diagnostic.End.TheVariants.{Before}
use Rattle.ariadne_parse.specs.declared.diagnostic.Location.{Location}
use Rattle.ariadne_parse.specs.declared.unit.Unit.{Unit}
use Rattle.ariadne_parse.specs.declared.unit.Unit.TheVariants.{Char, Utf16}
use Rattle.ariadne_sarif.specs.DocumentParts.{words_within}
use Rattle.ariadne_sarif.specs.SarifMessages.{message_in}
use Rattle.ariadne_sarif.specs.Uris.{joined, path_of}

-- what the columns of a run count: units of UTF-16, where it names no characters
abbrev pub unit_of : Data → Unit
unit_of run = if has_words (codes "columnKind") (codes "unicodeCodePoints") run then Char else Utf16

-- ---- files

-- the base that a location names, by the bases of its run
abbrev pub base_of : Data → Data → Option Data
base_of run location_value =
    option_and_then (λ id. option_and_then (get id) (get (codes "originalUriBaseIds") run))
    (text_at (codes "uriBaseId") location_value)

-- a URI behind the bases that its location names, and so many at most
unfoldable pub based : ℕ → Data → Data → List ℕ → List ℕ
based zero run location_value uri = uri
based (suc n) run location_value uri =
    unwrap_or
    (option_map (λ base. based n run base (joined (words_at (codes "uri") base) uri)) (base_of run location_value))
    uri

-- the artifact of a run that a location names by its number
abbrev pub artifact_of : Data → Data → Option Data
artifact_of run location_value =
    option_and_then
    (λ n. option_and_then (get (codes "location")) (option_and_then (at n) (get (codes "artifacts") run)))
    (number_at (codes "index") location_value)

-- the location that has the URI: itself, or that of its artifact
abbrev pub named_location_value : Data → Data → Data
named_location_value run location_value =
    if is_some (text_at (codes "uri") location_value) then location_value else unwrap_or (artifact_of run location_value) location_value

-- the path of its file: 8 bases are followed
abbrev pub based_uri : Data → Data → List ℕ
based_uri run location_value = based 8 run location_value (words_at (codes "uri") location_value)

abbrev pub located_path : Data → Data → List ℕ
located_path run location_value = path_of (based_uri run location_value)

abbrev pub file_path : Data → Data → List ℕ
file_path run location_value = located_path run (named_location_value run location_value)

-- ---- regions

-- where one begins, if it names a line
abbrev pub region_start : Data → Option Location
region_start d = location_at (codes "startLine") (codes "startColumn") d

-- it ends in front of its end, in the line where it begins if it names none, and at the end of the line if it names no
-- column
abbrev pub last_line : Data → ℕ → ℕ
last_line d line = unwrap_or (number_at (codes "endLine") d) line

abbrev pub region_end : Data → Location → Location
region_end d start = record { line = last_line d start.line; column = number_at (codes "endColumn") d }

-- ---- spans

-- the physical location, its region, and the location of its artifact
abbrev pub physical_of : Data → Option Data
physical_of d = get (codes "physicalLocation") d

abbrev pub region_of : Data → Option Data
region_of d = option_and_then (get (codes "region")) (physical_of d)

abbrev pub artifact_location_value : Data → Option Data
artifact_location_value d = option_and_then (get (codes "artifactLocation")) (physical_of d)

-- the path of its file; an empty one where it names none
abbrev pub path_at : Data → Data → List ℕ
path_at run d = unwrap_or (option_map (file_path run) (artifact_location_value d)) []

-- what is said of a location
abbrev pub message_at : Data → List ℕ
message_at d = message_in (codes "message") d

-- its span, of which this is said, if its region begins somewhere
abbrev pub region_span : Data → Data → List ℕ → Bool → Data → Location → Seen
region_span run d said is_primary region start =
    record (span_of (path_at run d) start (Before (region_end region start)) (unit_of run)) {
      text = said;
      is_primary = is_primary;
    }

abbrev pub span_at : Data → Bool → Data → Option Seen
span_at run is_primary d =
    option_and_then
    (λ region. option_map (region_span run d (message_at d) is_primary region) (region_start region))
    (region_of d)

abbrev pub spans_at : Data → Bool → Items → List Seen
spans_at run is_primary no_items = []
spans_at run is_primary (item d items) = cons_option (span_at run is_primary d) (spans_at run is_primary items)

-- a location without a span is a note: its file, and what is said of it
abbrev pub file_words : List ℕ → List ℕ → List ℕ
file_words file said = if length file == 0 then said else (if length said == 0 then file else file ++ codes ": " ++ said)

abbrev pub row_of : Data → Data → List ℕ
row_of run d = file_words (path_at run d) (message_at d)

abbrev pub has_span : Data → Bool
has_span d = is_some (option_and_then region_start (region_of d))

abbrev pub row_at : Data → Data → Option (List ℕ)
row_at run d = if has_span d || length (row_of run d) == 0 then None else Some (row_of run d)

abbrev pub rows_at : Data → Items → List (List ℕ)
rows_at run no_items = []
rows_at run (item d items) = cons_option (row_at run d) (rows_at run items)

-- ---- replacements

-- the text that one puts in
abbrev pub inserted : Data → List ℕ
inserted d = words_within (codes "insertedContent") (codes "text") d

-- a region whose end is known to its column
abbrev pub sure_end : Data → Location → Option Location
sure_end region start =
    option_map (λ column. record { line = last_line region start.line; column = Some column })
    (number_at (codes "endColumn") region)

abbrev pub region_edit : List ℕ → Data → Option Edit
region_edit text region =
    option_and_then
    (λ start. option_map (λ end. record { start = start; end = end; put_in = text }) (sure_end region start))
    (region_start region)

abbrev pub replacement_edit : Data → Option Edit
replacement_edit d = option_and_then (region_edit (inserted d)) (get (codes "deletedRegion") d)
