-- What is said of a diagnostic in lines, where there is no picture.
use Rattle.std.specs.Prelude.{ℕ, ◌==◌, Bool, not, if◌then◌else◌, List, ◌++◌, length, map}
use Rattle.std.specs.Prelude.{filter, Option, Some, None, is_some, option_map, String, string_bytes}
use Rattle.std.specs.Prelude.{codes, decimal}
use Rattle.std.specs.Option.{option_to_list}
use Rattle.std.specs.declared.alloc.Global.{Global}
use Rattle.ariadne_parse.specs.ParsedDiagnostics.{main_of}
use Rattle.ariadne_parse.specs.declared.diagnostic.Diagnostic.{Diagnostic}
use Rattle.ariadne_parse.specs.declared.diagnostic.Span.{Span}
use Rattle.ariadne_show.specs.Asides.{location_text}
use Rattle.ariadne_show.specs.FoundSpans.{Files, held_at}

-- what spans say: where each begins that says something, and that
abbrev pub says_something : Span → Bool
says_something span = not (length (string_bytes span.text) == 0)

abbrev pub said_spans : List Span → List (List ℕ)
said_spans spans =
    map (λ span. location_text span (string_bytes span.text)) (filter says_something spans)

-- texts as they are
abbrev pub said_texts : List (String Global) → List (List ℕ)
said_texts texts = map string_bytes texts

-- why a span can't be drawn
abbrev pub missing_text : Files → Span → List ℕ
missing_text files span =
    codes "not drawn, since " ++ string_bytes span.file
    ++ (if is_some (held_at files (string_bytes span.file))
    then codes " has no line " ++ decimal span.start.line
    else codes " can't be read")

-- why its own span can't be drawn, if it has one
abbrev pub missing_main : Files → Diagnostic → Option (List ℕ)
missing_main files parsed = option_map (missing_text files) (main_of parsed.spans.items)

-- the first line: where its own span begins, if it has one, and its message
abbrev pub first_line_at : List ℕ → Option Span → List ℕ
first_line_at message None = message
first_line_at message (Some span) = location_text span message

abbrev pub first_line : Diagnostic → List ℕ
first_line parsed = first_line_at (string_bytes parsed.message) (main_of parsed.spans.items)

-- the lines behind it: what its spans say, its notes and its helps, and why there is no picture
abbrev pub lines_of : Files → Diagnostic → List (List ℕ)
lines_of files parsed =
    said_spans parsed.spans.items ++ said_texts parsed.notes.items ++ said_texts parsed.helps.items
    ++ option_to_list (missing_main files parsed)
