-- The spans of a note: the first says what the note says, and none is the diagnostic's own. One that has no span
-- of its own is told by none: another range over all the lines of the diagnostic would show nothing more.
use Rattle.std.specs.Prelude.{ℕ, ◌==◌, Bool, false, not, ◌&&◌, List, [], ◌∷◌, map, is_some}
use Rattle.ariadne_parse.specs.Spans.{Seen}
use Rattle.ariadne_parse.specs.declared.diagnostic.End.{End}
use Rattle.ariadne_parse.specs.declared.diagnostic.End.TheVariants.{Before, Behind, OfWord}
use Rattle.ariadne_parse.specs.declared.diagnostic.Location.{Location}
use Rattle.ariadne_blocks.specs.MarkedLocations.{is_same_location}
use Rattle.ariadne_blocks.specs.Repeats.{is_same_end}

-- a span names no column, in the line that another begins in
abbrev pub is_line_of : Seen → Seen → Bool
is_line_of own span = not (is_some span.start.column) && own.start.line == span.start.line

-- a span goes over several lines, by its head
abbrev pub ends_below : Location → End → Bool
ends_below start (Before location) = not (location.line == start.line)
ends_below start (Behind location) = not (location.line == start.line)
ends_below start OfWord = false

abbrev pub is_over_lines : Seen → Bool
is_over_lines span = ends_below span.start span.end

-- and another is all of them
abbrev pub are_lines_of : Seen → Seen → Bool
are_lines_of own span =
    is_over_lines own && (is_same_location own.start span.start && is_same_end own.end span.end)

-- a span beside
abbrev pub as_beside : Seen → Seen
as_beside span = record span { is_primary = false }

abbrev pub note_spans : List ℕ → List Seen → List Seen
note_spans message [] = []
note_spans message (span ∷ spans) =
    record span { text = message; is_primary = false } ∷ map as_beside spans
