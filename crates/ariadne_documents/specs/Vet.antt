-- What `go vet -json` becomes: an object of packages, each an object of analyzers, each a list of diagnostics. A span is
-- `FILE:LINE:COLUMN` in one text; columns count bytes from 1. An analyzer that failed has an error in place of the list.
-- Characters stand as their numbers: 58 is a colon.
use Rattle.std.specs.Prelude.{ℕ, Bool, false, ◌&&◌, ◌||◌, List, [], ◌++◌, codes, Option, Some, None, is_some}
use Rattle.std.specs.Prelude.{◌∷◌, option_and_then, option_map, unwrap_or}
use Rattle.std.specs.Path.{rsplit_once}
use Rattle.serde_json.specs.Data.{Data, Members}
use Rattle.serde_json.specs.Find.{as_array, as_object}
use Rattle.ariadne_parse.specs.Members.{items_in, text_at, words_at}
use Rattle.ariadne_parse.specs.TextPieces.{whole_number}
use Rattle.ariadne_parse.specs.Spans.{Seen}
use Rattle.ariadne_parse.specs.Read.{Read}
use Rattle.ariadne_parse.specs.declared.diagnostic.Severity.TheVariants.{Error}
use Rattle.ariadne_parse.specs.declared.diagnostic.Location.{Location}
use Rattle.ariadne_parse.specs.declared.unit.Unit.TheVariants.{Byte}
use Rattle.ariadne_sarif.specs.DocumentParts.{are_some_of, bare, coded, filed, own_span_from, parsed_each}
use Rattle.ariadne_documents.specs.Objects.{all_members, any_member, flat_members, members_in}

-- ---- which objects are some

-- a diagnostic has a span and a message
abbrev pub is_vetted : Data → Bool
is_vetted d = is_some (text_at (codes "posn") d) && is_some (text_at (codes "message") d)

-- an analyzer has a list of them, one at least, or an error
abbrev pub is_analyzer : Data → Bool
is_analyzer d = are_some_of is_vetted (items_in (as_array d)) || is_some (text_at (codes "error") d)

-- a package is an object of analyzers
abbrev pub is_package_of : Option Members → Bool
is_package_of None = false
is_package_of (Some analyzers) = all_members is_analyzer analyzers

abbrev pub is_package : Data → Bool
is_package d = is_package_of (as_object d)

-- one of its analyzers has a list
abbrev pub has_list : Data → Bool
has_list d = any_member (λ analyzer. is_some (as_array analyzer)) (members_in (as_object d))

-- all packages are some, and one has a list
abbrev pub is_vet_of : Option Members → Bool
is_vet_of None = false
is_vet_of (Some packages) = all_members is_package packages && any_member has_list packages

abbrev pub is_vet : Data → Bool
is_vet d = is_vet_of (as_object d)

-- ---- spans

-- a file and a span in it: `FILE:LINE:COLUMN`, or `FILE:LINE`
abbrev pub numbered : List ℕ × List ℕ → Option (List ℕ × ℕ)
numbered parts = option_map (λ n. (parts.0, n)) (whole_number parts.1)

abbrev pub split_number : List ℕ → Option (List ℕ × ℕ)
split_number text = option_and_then numbered (rsplit_once 58 text)

abbrev pub in_column : ℕ → List ℕ × ℕ → List ℕ × Location
in_column column span = (span.0, record { line = span.1; column = Some column })

abbrev pub in_line : List ℕ × ℕ → List ℕ × Location
in_line span = (span.0, record { line = span.1; column = None })

abbrev pub position_behind : List ℕ × ℕ → List ℕ × Location
position_behind last = unwrap_or (option_map (in_column last.1) (split_number last.0)) (in_line last)

abbrev pub position_of : List ℕ → Option (List ℕ × Location)
position_of text = option_map position_behind (split_number text)

-- ---- diagnostics

-- where one ends, in front of what stands there, if it says so
abbrev pub end_of : Data → Option Location
end_of d = option_map (λ at. at.1) (position_of (words_at (codes "end") d))

-- its span at its position; a text that is no position is a note
abbrev pub vetted_span : Data → Option Seen
vetted_span d =
    option_and_then (λ at. own_span_from at.0 Byte (Some at.1) (end_of d))
    (position_of (words_at (codes "posn") d))

abbrev pub vetted_read : List ℕ → Data → Read
vetted_read analyzer d =
    coded (Some analyzer)
    (filed Error (words_at (codes "message") d) (words_at (codes "posn") d) (vetted_span d))

-- those of an analyzer, and its error
abbrev pub failed_read : List ℕ → Option (List ℕ) → List Read
failed_read analyzer None = []
failed_read analyzer (Some error) = coded (Some analyzer) (bare Error error) ∷ []

abbrev pub analyzer_parsed : List ℕ → Data → List Read
analyzer_parsed analyzer d =
    parsed_each (vetted_read analyzer) (items_in (as_array d)) ++ failed_read analyzer (text_at (codes "error") d)

abbrev pub package_parsed : List ℕ → Data → List Read
package_parsed name d = flat_members analyzer_parsed (members_in (as_object d))

abbrev pub vet_parsed : Data → List Read
vet_parsed d = flat_members package_parsed (members_in (as_object d))
