-- What marks cover where a tool points. It draws them once: where it points at the same location again, in the
-- same diagnostic or in the next, what was drawn counts.
use Rattle.std.specs.Prelude.{ℕ, Bool, true, false, ◌&&◌, ◌||◌, ◌==◌, if◌then◌else◌, List, [], ◌∷◌, ◌++◌, find}
use Rattle.std.specs.Prelude.{Option, None, Some, is_some, not, string_bytes}
use Rattle.std.specs.Str.{bytes_eq}
use Rattle.ariadne_parse.specs.Spans.{Seen}
use Rattle.ariadne_parse.specs.declared.diagnostic.End.{End}
use Rattle.ariadne_parse.specs.declared.diagnostic.End.TheVariants.{Before, Behind, OfWord}
use Rattle.ariadne_parse.specs.declared.diagnostic.Location.{Location}
use Rattle.ariadne_blocks.specs.declared.drawn.Drawn.{Drawn}

-- marks in a file, where the tool's head points and where its marks do, and what they cover
pub record Marks : Type 0 where
  pub file : List ℕ
  pub parsed : Location
  pub caret : Location
  pub range : Location × Location

abbrev pub marks_of : Drawn → Marks
marks_of drawn = record {
  file = string_bytes drawn.file;
  parsed = drawn.parsed;
  caret = drawn.caret;
  range = drawn.marks;
}

-- two locations are the same
abbrev pub is_same_column : Option ℕ → Option ℕ → Bool
is_same_column None None = true
is_same_column None (Some b) = false
is_same_column (Some a) None = false
is_same_column (Some a) (Some b) = a == b

abbrev pub is_same_location : Location → Location → Bool
is_same_location a b = a.line == b.line && is_same_column a.column b.column

-- where the head of a span points: at its start, where it names no end
abbrev pub parsed_by : Location → Location → End → Location
parsed_by start caret (Before location) = caret
parsed_by start caret (Behind location) = caret
parsed_by start caret OfWord = start

abbrev pub parsed_location : Seen → Location
parsed_location span = parsed_by span.start span.caret span.end

-- what marks cover at a span, if they do
abbrev pub marks_by : Seen → Option (Location × Location) → List Marks
marks_by span None = []
marks_by span (Some range) =
    record { file = span.file; parsed = parsed_location span; caret = span.caret; range = range } ∷ []

abbrev pub marks_at : Seen → List Marks
marks_at span = marks_by span span.marks

-- marks are at a span
abbrev pub are_at : Seen → Marks → Bool
are_at span marks = is_same_location marks.parsed (parsed_location span) && bytes_eq marks.file span.file

-- a span gets the first of these that are there, if it has none and names a column
abbrev pub with_found : Seen → Option Marks → Seen
with_found span None = span
with_found span (Some found) = record span { marks = Some found.range; caret = found.caret }

abbrev pub settled : List Marks → Seen → Seen
settled drawn span =
    if is_some span.marks || not (is_some span.caret.column) then span
    else with_found span (find (are_at span) drawn)

-- so do spans, in turn: those of the spans in front of each count first, then those that were drawn before
abbrev pub all_settled : List Marks → List Marks → List Seen → List Seen
all_settled own before [] = []
all_settled own before (span ∷ spans) =
    let now = settled (own ++ before) span in now ∷ all_settled (own ++ marks_at now) before spans
