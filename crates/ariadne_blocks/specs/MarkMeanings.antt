-- What the marks of a row tell, and the texts below them. The first mark with a `^` is the range of the span
-- that the snippet is of, where it stands in the line that the span begins in; each other is a span beside.
-- A text below a mark is said of the span of the mark.
use Rattle.std.specs.Prelude.{ℕ, ◌==◌, Bool, true, false, not, ◌&&◌, if◌then◌else◌, pos, ◌+◌, ◌-◌, ◌^◌, min}
use Rattle.std.specs.Prelude.{List, [], ◌∷◌, ◌++◌, length, map, slice_get, slice_set}
use Rattle.std.specs.Prelude.{Option, None, Some, fold, is_some}
use Rattle.ariadne_parse.specs.declared.unit.Unit.{Unit}
use Rattle.ariadne_parse.specs.declared.unit.Unit.TheVariants.{Byte, Char, Display, Utf16}
use Rattle.ariadne_snippets.specs.declared.taken.Label.{Label}
use Rattle.ariadne_snippets.specs.declared.taken.Mark.{Mark}
use Rattle.ariadne_snippets.specs.declared.taken.Point.{Point}
use Rattle.ariadne_parse.specs.Spans.{Seen, span_of, seen}
use Rattle.ariadne_parse.specs.declared.diagnostic.End.{End}
use Rattle.ariadne_parse.specs.declared.diagnostic.End.TheVariants.{Before, Behind, OfWord}
use Rattle.ariadne_parse.specs.declared.diagnostic.Span.{Span}
use Rattle.ariadne_parse.specs.declared.diagnostic.Location.{Location}
use Rattle.ariadne_blocks.specs.Files.{File, char_column, column_in}
use Rattle.ariadne_blocks.specs.declared.rows.Rows.{Rows}

-- ---- a mark

-- a point as a location, whose column counts characters
abbrev pub location_of : Point → Location
location_of at = record { line = at.line; column = Some (char_column at.offset) }

-- what a mark covers, from a location up to another
abbrev pub range_of : Mark → Location × Location
range_of mark = (location_of mark.start, location_of mark.end)

-- a mark is the range of a span, which has none yet
abbrev pub is_range_of : Mark → Seen → Bool
is_range_of mark span =
    is_some mark.caret && (not (is_some span.marks) && span.start.line == mark.start.line)

-- the span is up to the end of a word, and its columns count something else than characters
abbrev pub is_of_word : End → Bool
is_of_word (Before location) = false
is_of_word (Behind location) = false
is_of_word OfWord = true

abbrev pub counts_characters : Unit → Bool
counts_characters Byte = false
counts_characters Char = true
counts_characters Utf16 = false
counts_characters Display = false

-- where a tool points at a span whose range a mark is: at its `^`, where the head names a location alone, in a
-- column that may count something else than its unit does
abbrev pub caret_at : Option File → Seen → Option Point → Location
caret_at file span None = span.caret
caret_at file span (Some at) =
    if is_of_word span.end && not (counts_characters span.unit)
    then record { line = at.line; column = Some (column_in file span.unit at) }
    else span.caret

-- the marks of a span whose range a mark is: none where the head says behind which character it ends
abbrev pub marks_by : Mark → End → Option (Location × Location)
marks_by mark (Before location) = Some (range_of mark)
marks_by mark (Behind location) = None
marks_by mark OfWord = Some (range_of mark)

abbrev pub own_marks : Mark → Seen → Option (Location × Location)
own_marks mark span = marks_by mark span.end

-- a span that has a mark as its range
abbrev pub with_range : Option File → Mark → Seen → Seen
with_range file mark span = record span {
  marks = own_marks mark span;
  caret = caret_at file span mark.caret;
}

-- a span beside, of what a mark covers
abbrev pub marked_span : List ℕ → Mark → Seen
marked_span path mark = record (span_of path (location_of mark.start) (Before (location_of mark.end)) Char) {
  text = mark.text.now;
  marks = Some (range_of mark);
}

-- ---- what is said of spans

-- a span with the range of another, of which this is said
abbrev pub beside : List ℕ → Seen → Seen
beside text span = record span {
  text = text;
  is_primary = false;
  look = record { order = pos 0; priority = pos 0; color = None };
}

-- a text is said of a span of which nothing is said yet; else of another beside it
abbrev pub said_by : List ℕ → ℕ → List Seen → Option Seen → List Seen
said_by text number spans None = spans
said_by text number spans (Some span) =
    if length span.text == 0
    then slice_set spans number (record span { text = text })
    else spans ++ beside text span ∷ []

abbrev pub said_at : List ℕ → ℕ → List Seen → List Seen
said_at text number spans =
    if length text == 0 then spans else said_by text number spans (slice_get spans number)

-- ---- a row of marks

-- the spans of a diagnostic, and which of them the marks of the row that was read last are of
pub record Marking : Type 0 where
  pub spans : List Seen
  pub marked : List ℕ

abbrev pub marking_of : Rows → List Span → Marking
marking_of rows spans = record { spans = map seen spans; marked = rows.marked.items }

-- a mark is the range of the span with this number, if there is one
abbrev pub is_own_of : Mark → Option Seen → Bool
is_own_of mark None = false
is_own_of mark (Some span) = is_range_of mark span

abbrev pub is_own_at : Mark → ℕ → List Seen → Bool
is_own_at mark at spans = is_own_of mark (slice_get spans at)

-- that span has it then as its range
abbrev pub given_to : Option File → Mark → ℕ → List Seen → Option Seen → List Seen
given_to file mark at spans None = spans
given_to file mark at spans (Some span) = slice_set spans at (with_range file mark span)

abbrev pub given_at : Option File → Mark → ℕ → List Seen → List Seen
given_at file mark at spans = given_to file mark at spans (slice_get spans at)

-- what is written behind such a mark is said of that span; any other mark is a span beside, behind the others
abbrev pub with_mark : Option File → List ℕ → ℕ → Marking → Mark → Marking
with_mark file path at marking mark =
    if is_own_at mark at marking.spans
    then record {
      spans = said_at mark.text.now at (given_at file mark at marking.spans);
      marked = marking.marked ++ at ∷ [];
    }
    else record {
      spans = marking.spans ++ marked_span path mark ∷ [];
      marked = marking.marked ++ length marking.spans ∷ [];
    }

-- so are all marks of a row, one after the other
abbrev pub with_marks : Option File → List ℕ → ℕ → List Mark → List Seen → Marking
with_marks file path at marks spans =
    fold (with_mark file path at) (record { spans = spans; marked = [] }) marks

-- ---- a stroke to a mark

-- marks whose range begins at a point
abbrev pub begun_marks : Point → Option (Location × Location) → Option (Location × Location)
begun_marks start None = None
begun_marks start (Some marks) = Some (location_of start, marks.1)

-- a span whose range begins there. The diagnostic's own span stays where its head names it
abbrev pub begun_span : Bool → Point → Seen → Seen
begun_span true start span = record span { marks = begun_marks start span.marks }
begun_span false start span = record span {
  start = location_of start;
  caret = location_of start;
  marks = begun_marks start span.marks;
}

-- so is the span with a number, if there is one
abbrev pub begun_if : Bool → Point → ℕ → List Seen → Option Seen → List Seen
begun_if is_own start number spans None = spans
begun_if is_own start number spans (Some span) =
    slice_set spans number (begun_span is_own start span)

abbrev pub begun_in : Bool → Point → ℕ → List Seen → List Seen
begun_in is_own start number spans = begun_if is_own start number spans (slice_get spans number)

abbrev pub begun_by : ℕ → Point → List Seen → Option ℕ → List Seen
begun_by at start spans None = spans
begun_by at start spans (Some number) = begun_in (number == at) start number spans

-- that of a mark of the row that was read last
abbrev pub with_begun : ℕ → List ℕ → ℕ → Point → List Seen → List Seen
with_begun at marked mark start spans = begun_by at start spans (slice_get marked mark)

-- ---- a row of texts below marks

-- the point behind a character
abbrev pub behind_point : Point → Point
behind_point point = record { line = point.line; offset = min (point.offset + 1) (2 ^ 64 - 1) }

-- a span beside, of one character
abbrev pub inner_span : List ℕ → List ℕ → Point → Seen
inner_span path text point =
    record (span_of path (location_of point) (Before (location_of (behind_point point))) Char) {
      text = text;
      marks = Some (location_of point, location_of (behind_point point));
    }

-- a text is said of the span of its mark, or of the character below which a range of its own begins
abbrev pub with_label_at : List ℕ → List ℕ → List Seen → Option Point → Option ℕ → List Seen
with_label_at path text spans (Some point) number = spans ++ inner_span path text point ∷ []
with_label_at path text spans None None = spans
with_label_at path text spans None (Some number) = said_at text number spans

abbrev pub with_label : List ℕ → List ℕ → List Seen → Label → List Seen
with_label path marked spans label =
    with_label_at path label.text.now spans label.inner (slice_get marked label.mark)

abbrev pub with_labels : List ℕ → List ℕ → List Label → List Seen → List Seen
with_labels path marked labels spans = fold (with_label path marked) spans labels
