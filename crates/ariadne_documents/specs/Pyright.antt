-- What pyright's `--outputjson` becomes: an object with its `generalDiagnostics`. Lines and columns count from 0, columns
-- UTF-16, and ends stand behind what is meant.
use Rattle.std.specs.Prelude.{Bool, ◌&&◌, List, codes, Option, is_some}
use Rattle.serde_json.specs.Data.{Data}
use Rattle.ariadne_parse.specs.Members.{items_in, list_at, severity_at, text_at, words_at}
use Rattle.ariadne_parse.specs.Spans.{Seen}
use Rattle.ariadne_parse.specs.Read.{Read}
use Rattle.ariadne_parse.specs.declared.unit.Unit.TheVariants.{Utf16}
use Rattle.ariadne_sarif.specs.DocumentParts.{coded, filed, is_list_of, own_span_from, range_location, parsed_each}

-- a diagnostic has a severity and a message
abbrev pub is_general : Data → Bool
is_general d = is_some (text_at (codes "severity") d) && is_some (text_at (codes "message") d)

abbrev pub is_pyright : Data → Bool
is_pyright d = is_list_of (codes "generalDiagnostics") is_general d

abbrev pub general_span : Data → Option Seen
general_span d =
    own_span_from (words_at (codes "file") d) Utf16 (range_location (codes "start") d) (range_location (codes "end") d)

abbrev pub general_read : Data → Read
general_read d =
    coded (text_at (codes "rule") d)
    (filed (severity_at (codes "severity") d) (words_at (codes "message") d) (words_at (codes "file") d) (general_span d))

abbrev pub pyright_parsed : Data → List Read
pyright_parsed d = parsed_each general_read (items_in (list_at (codes "generalDiagnostics") d))
