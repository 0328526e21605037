-- Diagnostics in rows, FILE:LINE:COLUMN: KIND: MESSAGE [CODE], each with a line feed: the message of a
-- diagnostic, then what its spans say, its notes and its helps. Texts have signs for what is hidden in
-- them, also for line feeds.
use Rattle.std.specs.Prelude.{ℕ, ◌==◌, if◌then◌else◌, List, [], ◌∷◌, ◌++◌, length, codes, decimal}
use Rattle.std.specs.Prelude.{Option, Some, None, String, string_bytes}
use Rattle.std.specs.List.{flat_map}
use Rattle.std.specs.declared.alloc.Global.{Global}
use Rattle.ariadne_safe.specs.Visible.{visible_bytes}
use Rattle.ariadne_safe.specs.declared.text.TextKind.TheVariants.{OneRow}
use Rattle.ariadne_parse.specs.declared.diagnostic.Diagnostic.{Diagnostic}
use Rattle.ariadne_outputs.specs.Located.{LocatedSpan, first_of, said_at, severity_word}

-- a text in one row
abbrev pub in_row : List ℕ → List ℕ
in_row text = visible_bytes OneRow text

-- a column behind a colon, if there is one
abbrev pub column_part : Option ℕ → List ℕ
column_part None = []
column_part (Some column) = codes ":" ++ decimal column

-- where a tool points, in front of what is said there
abbrev pub location_at : LocatedSpan → List ℕ
location_at it =
    in_row (string_bytes it.span.file) ++ codes ":" ++ decimal it.caret.line
    ++ column_part it.caret.column ++ codes ": "

abbrev pub main_location : Option LocatedSpan → List ℕ
main_location None = []
main_location (Some main) = location_at main

-- a code in brackets behind a blank, if there is one
abbrev pub code_part : Option (String Global) → List ℕ
code_part None = []
code_part (Some code) = codes " [" ++ in_row (string_bytes code) ++ codes "]"

-- a row: a location, a kind, what is said, and what stands behind it
abbrev pub row : List ℕ → List ℕ → List ℕ → List ℕ → List ℕ
row location word said behind = location ++ word ++ codes ": " ++ in_row said ++ behind ++ 10 ∷ []

abbrev pub head_row : List ℕ → Diagnostic → List ℕ
head_row location parsed =
    row location (severity_word parsed.severity) (string_bytes parsed.message) (code_part parsed.code)

-- the row of a span, if something is said of it
abbrev pub span_row : LocatedSpan → List ℕ
span_row it =
    if length (said_at it) == 0 then [] else row (location_at it) (codes "note") (said_at it) []

-- those of notes, or of helps
abbrev pub note_rows : List ℕ → List (String Global) → List ℕ
note_rows location notes = flat_map (λ note. row location (codes "note") (string_bytes note) []) notes

-- all rows of a diagnostic
abbrev pub short_rows : Diagnostic → List LocatedSpan → List ℕ
short_rows parsed located_spans =
    let location = main_location (first_of located_spans) in
    head_row location parsed ++ flat_map span_row located_spans ++ note_rows location parsed.notes.items
    ++ note_rows location parsed.helps.items
