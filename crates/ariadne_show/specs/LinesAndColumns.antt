-- Where the spans of a diagnostic stand, by lines and columns.
use Rattle.std.specs.Prelude.{ℕ, ◌+◌, ◌-◌, min, if◌then◌else◌, List, ◌++◌, length, drop, take}
use Rattle.std.specs.Prelude.{Option, Some, None, is_some, option_and_then, option_map}
use Rattle.std.specs.Prelude.{position, string_bytes, unwrap_or}
use Rattle.ariadne_parse.specs.Columns.{column_at, line_at}
use Rattle.ariadne_parse.specs.declared.unit.Unit.{Unit}
use Rattle.ariadne_parse.specs.declared.unit.Unit.TheVariants.{Char}
use Rattle.ariadne_parse.specs.declared.diagnostic.Span.{Span}
use Rattle.ariadne_parse.specs.declared.diagnostic.Location.{Location}
use Rattle.ariadne_outputs.specs.Located.{LocatedSpan}
use Rattle.ariadne_show.specs.FoundSpans.{Files, FoundFields, caret_in, found_in, held_at, unit_in}
use Rattle.ariadne_show.specs.declared.held.HeldFile.{HeldFile}

-- the line and the column of an offset in a file, of which one past the text is its end
abbrev pub located_location : HeldFile → Unit → ℕ → Location
located_location held unit offset = record {
  line = line_at held.columns (min offset (length held.columns));
  column = Some (column_at (unit_in held unit) held.columns (min offset (length held.columns)));
}

-- the character of its line, from 0, that the tool points at in a span, if that names a column and its file
-- is held
abbrev pub caret_of_line : HeldFile → Span → Option ℕ
caret_of_line held span =
    option_map (λ caret. column_at Char held.columns (min caret (length held.columns)) - 1)
    (caret_in held span)

abbrev pub caret_in_line : Files → Span → Option ℕ
caret_in_line files span =
    if is_some span.caret.column
    then option_and_then (λ held. caret_of_line held span) (held_at files (string_bytes span.file))
    else None

-- where a span stands that was found in a file; else where the tool said
abbrev pub located_by : Unit → Span → Option HeldFile → Option FoundFields → LocatedSpan
located_by unit span (Some held) (Some found) = record {
  span = span;
  caret = located_location held unit found.caret;
  start = located_location held unit found.start;
  end = Some (located_location held unit found.end);
}
located_by unit span (Some held) None = record {
  span = span;
  caret = span.caret;
  start = span.start;
  end = None;
}
located_by unit span None found = record {
  span = span;
  caret = span.caret;
  start = span.start;
  end = None;
}

abbrev pub located_in : Files → Unit → Span → LocatedSpan
located_in files unit span =
    located_by unit span (held_at files (string_bytes span.file)) (found_in files span)

-- the number of the span that a diagnostic is about
abbrev pub main_number : List Span → ℕ
main_number spans = unwrap_or (position (λ span. span.is_primary) spans) 0

-- spans with that one in front
abbrev pub main_first : List Span → List Span
main_first spans =
    let n = main_number spans in
    take 1 (drop n spans) ++ take n spans ++ drop (n + 1) spans
