-- Diagnostics as results of SARIF 2.1.0, as values of JSON. An object has each member once; `put` puts
-- one in its place, in the order of the names. Texts have signs for what is hidden in them, but line
-- feeds. Lines and columns count from 1, and an end's column is behind the last character.
use Rattle.std.specs.Prelude.{ℕ, ◌+◌, ◌==◌, nat_lt, Bool, ◌||◌, if◌then◌else◌}
use Rattle.std.specs.Prelude.{List, [], ◌∷◌, ◌++◌, length, codes, Option, Some, None, String}
use Rattle.std.specs.Prelude.{string_bytes}
use Rattle.std.specs.Char.{is_ascii_alphanumeric}
use Rattle.std.specs.List.{flat_map}
use Rattle.std.specs.declared.alloc.Global.{Global}
use Rattle.serde_json.specs.Data.{Data, Members, array, no_members, number, object, put, string}
use Rattle.serde_json.specs.Data.{unsigned}
use Rattle.serde_json.specs.View.{items_of}
use Rattle.percent_encoding.specs.Percent.{percent_encode_byte}
use Rattle.ariadne_safe.specs.Visible.{visible_bytes}
use Rattle.ariadne_safe.specs.declared.text.TextKind.TheVariants.{Aside}
use Rattle.ariadne_parse.specs.declared.diagnostic.Diagnostic.{Diagnostic}
use Rattle.ariadne_parse.specs.declared.diagnostic.Location.{Location}
use Rattle.ariadne_outputs.specs.Located.{LocatedSpan, first_of, others_of, said_at, severity_word}
use Rattle.ariadne_outputs.specs.Located.{whole_of}

-- ---- texts

-- a text as a value
abbrev pub text_data : List ℕ → Data
text_data text = string (visible_bytes Aside text)

-- what stands as it is in a URI: letters, digits, `-`, `.`, `/`, `_` and `~`
abbrev pub is_in_uri : ℕ → Bool
is_in_uri c =
    is_ascii_alphanumeric c || (c == 45) || (c == 46) || (c == 47) || (c == 95) || (c == 126)

abbrev pub uri_byte : ℕ → List ℕ
uri_byte b = if is_in_uri b then b ∷ [] else percent_encode_byte b

-- a path from the root has the scheme of files; another one is relative
abbrev pub scheme_of : List ℕ → List ℕ
scheme_of [] = []
scheme_of (c ∷ path) = if c == 47 then codes "file://" else []

-- the URI of a path
abbrev pub uri_of : List ℕ → List ℕ
uri_of path = scheme_of path ++ flat_map uri_byte path

-- ---- locations

abbrev pub number_data : ℕ → Data
number_data n = number (unsigned n)

-- a column that counts from 1, if there is one
abbrev pub with_column : List ℕ → Option ℕ → Members → Members
with_column name None members = members
with_column name (Some column) members =
    if nat_lt 0 column then put name (number_data column) members else members

-- a line, and a column
abbrev pub with_location : List ℕ → List ℕ → Location → Members → Members
with_location line_name column_name location members =
    with_column column_name location.column (put line_name (number_data location.line) members)

abbrev pub with_end : Option Location → Members → Members
with_end None members = members
with_end (Some end) members = with_location (codes "endLine") (codes "endColumn") end members

abbrev pub region_of : LocatedSpan → Data
region_of it =
    object (with_end it.end (with_location (codes "startLine") (codes "startColumn") it.start no_members))

-- a region, where the line counts from 1
abbrev pub with_region : LocatedSpan → Members → Members
with_region it members =
    if nat_lt 0 it.start.line then put (codes "region") (region_of it) members else members

abbrev pub file_data : List ℕ → Data
file_data path = object (put (codes "uri") (string (uri_of path)) no_members)

-- the members of a location
abbrev pub sarif_location_members : LocatedSpan → Members
sarif_location_members it =
    put (codes "physicalLocation")
    (object
    (with_region it
    (put (codes "artifactLocation") (file_data (string_bytes it.span.file)) no_members)))
    no_members

-- ---- results

abbrev pub message_data : List ℕ → Data
message_data text = object (put (codes "text") (text_data text) no_members)

abbrev pub with_message : List ℕ → Members → Members
with_message text members =
    if length text == 0 then members else put (codes "message") (message_data text) members

abbrev pub own_data : Option LocatedSpan → List Data
own_data None = []
own_data (Some main) = object (sarif_location_members main) ∷ []

-- other locations have numbers, and messages where something is said of them
abbrev pub related_data : ℕ → LocatedSpan → Data
related_data id it =
    object (with_message (said_at it) (put (codes "id") (number_data id) (sarif_location_members it)))

abbrev pub related_datas : ℕ → List LocatedSpan → List Data
related_datas id [] = []
related_datas id (it ∷ located_spans) = related_data id it ∷ related_datas (id + 1) located_spans

abbrev pub with_rule : Option (String Global) → Members → Members
with_rule None members = members
with_rule (Some code) members = put (codes "ruleId") (text_data (string_bytes code)) members

-- the result of a diagnostic
abbrev pub result_of : Diagnostic → List LocatedSpan → Data
result_of parsed located_spans =
    object
    (with_rule parsed.code
    (put (codes "relatedLocations") (array (items_of (related_datas 1 (others_of located_spans))))
    (put (codes "message") (message_data (whole_of parsed (first_of located_spans)))
    (put (codes "locations") (array (items_of (own_data (first_of located_spans))))
    (put (codes "level") (string (severity_word parsed.severity)) no_members)))))

-- ---- the document

-- the program that writes it, with its version
abbrev pub driver_of : List ℕ → Data
driver_of version =
    object (put (codes "version") (string version)
    (put (codes "name") (string (codes "ariadne-show")) no_members))
