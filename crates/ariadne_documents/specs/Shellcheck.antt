-- What shellcheck's `json1` becomes: an object with its `comments`. Columns count characters from 1, a tab as one, and
-- ends stand behind what is meant.
use Rattle.std.specs.Prelude.{ℕ, Bool, ◌&&◌, List, [], ◌++◌, codes, decimal, Option, is_some, option_and_then, option_map}
use Rattle.serde_json.specs.Data.{Data, Items}
use Rattle.serde_json.specs.Find.{as_object}
use Rattle.ariadne_parse.specs.Members.{items_in, list_at, number_at, severity_at, location_at, text_at, words_at}
use Rattle.ariadne_parse.specs.Spans.{Seen}
use Rattle.ariadne_parse.specs.Proposed.{Edit}
use Rattle.ariadne_parse.specs.Read.{Read}
use Rattle.ariadne_parse.specs.declared.diagnostic.Location.{Location}
use Rattle.ariadne_parse.specs.declared.unit.Unit.TheVariants.{Char}
use Rattle.ariadne_documents.specs.Objects.{is_one, members_in}
use Rattle.ariadne_sarif.specs.DocumentParts.{coded, edit_between, edits_of, filed, is_list_of, items_within, own_span_from, parsed_each, with_fix}

-- a comment has a file, a line, a level and a message
abbrev pub is_comment : Data → Bool
is_comment d =
    is_some (text_at (codes "file") d) && is_some (number_at (codes "line") d)
    && is_some (text_at (codes "level") d) && is_some (text_at (codes "message") d)

-- they are all that the object has
abbrev pub is_shellcheck : Data → Bool
is_shellcheck d = is_one (members_in (as_object d)) && is_list_of (codes "comments") is_comment d

-- where a comment begins, and where it ends
abbrev pub start_of : Data → Option Location
start_of d = location_at (codes "line") (codes "column") d

abbrev pub end_of : Data → Option Location
end_of d = location_at (codes "endLine") (codes "endColumn") d

abbrev pub comment_span : Data → Option Seen
comment_span d = own_span_from (words_at (codes "file") d) Char (start_of d) (end_of d)

-- its code is a number, which stands behind SC
abbrev pub comment_code : Data → Option (List ℕ)
comment_code d = option_map (λ n. codes "SC" ++ decimal n) (number_at (codes "code") d)

-- its fix: replacements, in the same file
abbrev pub replacement_edit : Data → Option Edit
replacement_edit d =
    option_and_then (edit_between (start_of d) (end_of d)) (text_at (codes "replacement") d)

abbrev pub replacements_of : Data → Items
replacements_of d = items_within (codes "fix") (codes "replacements") d

abbrev pub edits_in : Data → List Edit
edits_in d = edits_of replacement_edit (replacements_of d)

abbrev pub unfixed : Data → Read
unfixed d =
    coded (comment_code d)
    (filed (severity_at (codes "level") d) (words_at (codes "message") d) (words_at (codes "file") d) (comment_span d))

abbrev pub with_own_fix : Data → Read → Read
with_own_fix d parsed = with_fix [] (words_at (codes "file") d) Char (edits_in d) parsed

abbrev pub comment_read : Data → Read
comment_read d = with_own_fix d (unfixed d)

abbrev pub shellcheck_parsed : Data → List Read
shellcheck_parsed d = parsed_each comment_read (items_in (list_at (codes "comments") d))
