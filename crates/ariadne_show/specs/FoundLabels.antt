-- The labels of a report: one for each span of a diagnostic that was found, in an order in which those
-- of a line stand together.
use Rattle.std.specs.Prelude.{ℕ, ◌==◌, max, Bool, false, not, ◌&&◌, nat_lt, if◌then◌else◌, List, ◌++◌, length, map}
use Rattle.std.specs.Prelude.{Option, Some, None, option_and_then, string_bytes, unwrap_or}
use Rattle.std.specs.List.{filter_map}
use Rattle.std.specs.List.Sorted.{IsPermutation, IsSortedByKey, IsStableByKey}
use Rattle.std.specs.Ordering.{bool_cmp, nat_cmp, ordering_then}
use Rattle.std.specs.declared.cmp.Ordering.{Ordering}
use Rattle.std.specs.declared.ops.Range.{Range}
use Rattle.ariadne.specs.Color.{Color}
use Rattle.ariadne.specs.Color.TheVariants.{Blue, Fixed, Red, Yellow}
use Rattle.ariadne.specs.IndexType.{IndexType}
use Rattle.ariadne.specs.Report.{LabelFields, ReportFields}
use Rattle.ariadne_safe.specs.SafeReports.{shown_label, shown_place}
use Rattle.ariadne_safe.specs.declared.sources.SafeSource.{SafeSource}
use Rattle.ariadne_parse.specs.ParsedDiagnostics.{main_of}
use Rattle.ariadne_parse.specs.declared.diagnostic.Diagnostic.{Diagnostic}
use Rattle.ariadne_parse.specs.declared.diagnostic.End.{End}
use Rattle.ariadne_parse.specs.declared.diagnostic.End.TheVariants.{Before, Behind, OfWord}
use Rattle.ariadne_parse.specs.declared.diagnostic.Span.{Span}
use Rattle.ariadne_parse.specs.declared.diagnostic.Severity.{Severity}
use Rattle.ariadne_parse.specs.declared.diagnostic.Severity.TheVariants.{Error, Warning, Note}
use Rattle.ariadne_parse.specs.declared.diagnostic.Location.{Location}
use Rattle.ariadne_show.specs.FoundSpans.{Files, FoundFields, found_in}

-- ---- their order

-- what labels are ordered by: those of the main file come first, then by the numbers of the files, and
-- in each file by their ends, and then by their starts
abbrev pub span_key : ℕ → FoundFields → Bool × ℕ × ℕ × ℕ
span_key main it = (not (it.number == main), it.number, it.end, it.start)

abbrev pub key_cmp : Bool × ℕ × ℕ × ℕ → Bool × ℕ × ℕ × ℕ → Ordering
key_cmp x y =
    ordering_then (ordering_then (ordering_then (bool_cmp x.0 y.0) (nat_cmp x.1 y.1)) (nat_cmp x.2 y.2))
    (nat_cmp x.3 y.3)

-- where the spans of a list were found
abbrev pub all_found : Files → List Span → List FoundFields
all_found files spans = filter_map (found_in files) spans

-- where a diagnostic's own span was, if it has one
abbrev pub main_in : Files → Diagnostic → Option FoundFields
main_in files parsed = option_and_then (found_in files) (main_of parsed.spans.items)

-- each of them once, in this order; those with one key as they were
pub record AreOrdered (files : Files) (main : ℕ) (spans : List Span) (ordered : List FoundFields)
    : Type 0 where
  pub same : IsPermutation (all_found files spans) ordered
  pub sorted : IsSortedByKey (span_key main) key_cmp ordered
  pub stable : IsStableByKey (span_key main) key_cmp (all_found files spans) ordered

-- ---- the header

-- what a header names: from the character that the tool points at to the end of the span
abbrev pub header_of : FoundFields → ℕ × Range ℕ
header_of main = (main.number, record { start = main.caret; end = max main.end main.caret })

-- and that, as it is shown over sources
abbrev pub shown_header : IndexType → List SafeSource → FoundFields → ℕ × Range ℕ
shown_header index_type sources main = shown_place index_type sources (header_of main)

-- ---- each of them

-- the colour of a severity
abbrev pub severity_color : Severity → Color
severity_color Error = Red
severity_color Warning = Yellow
severity_color Note = Fixed 147

-- a span goes over several lines: as its marks do, or else from its start up to its end
abbrev pub goes_over_lines : ℕ → End → Option (Location × Location) → Bool
goes_over_lines line end (Some range) = not (range.0.line == range.1.line)
goes_over_lines line (Before location) None = not (location.line == line)
goes_over_lines line (Behind location) None = not (location.line == line)
goes_over_lines line OfWord None = false

abbrev pub is_over_lines : Span → Bool
is_over_lines span = goes_over_lines span.start.line span.end span.marks

-- the label of a span needs no arrow: underlines show it, as it has a character of the file and is within
-- one line. In a compact picture, which has none, the diagnostic's own span needs one
abbrev pub is_underlined : Bool → FoundFields → Bool
is_underlined is_compact it =
    it.is_in_text && nat_lt it.start it.end && not (is_over_lines it.span)
    && not (is_compact && it.span.is_primary)

-- what a label says. Where that is nothing it has no message, or an empty one if it needs an arrow
abbrev pub message_of : Bool → FoundFields → Option (List ℕ)
message_of is_compact it =
    if length (string_bytes it.span.text) == 0 && is_underlined is_compact it then None
    else Some (string_bytes it.span.text)

-- the label of a span that was found
abbrev pub label_of : Severity → Bool → FoundFields → LabelFields (ℕ × Range ℕ)
label_of severity is_compact it = record {
  span = (it.number, record { start = it.start; end = max it.end it.start });
  message = message_of is_compact it;
  color = Some (unwrap_or it.span.look.color
      (if it.span.is_primary then severity_color severity else Blue));
  order = it.span.look.order;
  priority = it.span.look.priority;
}

-- the labels, as they are shown over sources
abbrev pub labels_of : IndexType → List SafeSource → Severity → Bool → List FoundFields
    → List (LabelFields (ℕ × Range ℕ))
labels_of index_type sources severity is_compact ordered =
    map (λ it. shown_label index_type sources (label_of severity is_compact it)) ordered

-- a report with more labels
abbrev pub with_labels : List (LabelFields (ℕ × Range ℕ)) → ReportFields (ℕ × Range ℕ)
    → ReportFields (ℕ × Range ℕ)
with_labels labels report = record report { labels = report.labels ++ labels }
