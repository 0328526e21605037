-- What the list becomes that ruff writes by `--output-format=json`. Columns count characters from 1, and ends stand behind
-- what is meant. The rows of a notebook are those of one of its cells, which is no span of its file.
use Rattle.std.specs.Prelude.{ℕ, Bool, ◌&&◌, if◌then◌else◌, List, codes, Option, None, is_some, option_and_then, []}
use Rattle.serde_json.specs.Data.{Data, Items}
use Rattle.serde_json.specs.Find.{as_array}
use Rattle.ariadne_parse.specs.Members.{items_in, number_at, severity_at, text_at, words_at}
use Rattle.ariadne_parse.specs.Spans.{Seen}
use Rattle.ariadne_parse.specs.Proposed.{Edit}
use Rattle.ariadne_parse.specs.Read.{Read}
use Rattle.ariadne_parse.specs.declared.diagnostic.Location.{Location}
use Rattle.ariadne_parse.specs.declared.unit.Unit.TheVariants.{Char}
use Rattle.ariadne_sarif.specs.DocumentParts.{are_some_of, coded, edit_between, edits_of, filed, items_within, own_span_from, location_in, parsed_each, with_fix, words_within}

-- where something begins, and where it ends
abbrev pub start_of : Data → Option Location
start_of d = location_in (codes "location") (codes "row") (codes "column") d

abbrev pub end_of : Data → Option Location
end_of d = location_in (codes "end_location") (codes "row") (codes "column") d

-- a violation has a file, a message and a location
abbrev pub is_violation : Data → Bool
is_violation d =
    is_some (text_at (codes "filename") d) && is_some (text_at (codes "message") d) && is_some (start_of d)

abbrev pub is_ruff : Data → Bool
is_ruff d = are_some_of is_violation (items_in (as_array d))

abbrev pub violation_span : Data → Option Seen
violation_span d =
    if is_some (number_at (codes "cell") d) then None
    else own_span_from (words_at (codes "filename") d) Char (start_of d) (end_of d)

-- its fix: edits in the same file, and why
abbrev pub edit_of : Data → Option Edit
edit_of d = option_and_then (edit_between (start_of d) (end_of d)) (text_at (codes "content") d)

abbrev pub reason_of : Data → List ℕ
reason_of d = words_within (codes "fix") (codes "message") d

abbrev pub fix_edits : Data → Items
fix_edits d = items_within (codes "fix") (codes "edits") d

-- the edits of a notebook are in a cell too
abbrev pub edits_in : Data → List Edit
edits_in d = if is_some (number_at (codes "cell") d) then [] else edits_of edit_of (fix_edits d)

abbrev pub unfixed : Data → Read
unfixed d =
    coded (text_at (codes "code") d)
    (filed (severity_at (codes "severity") d) (words_at (codes "message") d) (words_at (codes "filename") d)
    (violation_span d))

abbrev pub with_own_fix : Data → Read → Read
with_own_fix d parsed = with_fix (reason_of d) (words_at (codes "filename") d) Char (edits_in d) parsed

abbrev pub violation_read : Data → Read
violation_read d = with_own_fix d (unfixed d)

abbrev pub ruff_parsed : Data → List Read
ruff_parsed d = parsed_each violation_read (items_in (as_array d))
