-- Which lines tell something: JSON of three forms, and text of one, which Heads.antt describes. The
-- diagnostics of rustc, those that cargo hands on, and reports of the program's own form are objects,
-- those of gcc stand in a list.
use Rattle.std.specs.Prelude.{ℕ, ◌≡◌, ◌<◌, ◌==◌, Bool, true, false, not, ◌&&◌, ◌||◌}
use Rattle.std.specs.Prelude.{if◌then◌else◌}
use Rattle.std.specs.Prelude.{List, [], ◌∷◌, codes, map, slice_index}
use Rattle.std.specs.Prelude.{Option, Some, None, is_some, option_and_then, option_map}
use Rattle.std.specs.Prelude.{length, slice_get, Vec, string_bytes}
use Rattle.std.specs.List.{ends_with, filter, find}
use Rattle.std.specs.Option.{option_or}
use Rattle.std.specs.declared.alloc.Global.{Global}
use Rattle.std.specs.Str.{bytes_eq}
use Rattle.serde_json.specs.Data.{Data, Items, no_items, item}
use Rattle.serde_json.specs.Find.{get, as_array}
use Rattle.ariadne_json.specs.Reading.{value_in as value_of}
use Rattle.ariadne_parse.specs.declared.counting.Counting.{Counting}
use Rattle.ariadne_parse.specs.declared.unit.Unit.TheVariants.{Char}
use Rattle.ariadne_parse.specs.Gcc.{gcc_list}
use Rattle.ariadne_parse.specs.Heads.{head_of_line, is_among, ranges_in, Head}
use Rattle.ariadne_parse.specs.Members.{all_items, items_in, list_at, text_at}
use Rattle.ariadne_parse.specs.Spans.{counted_span, counted_location, is_same_location, named, seen, Seen}
use Rattle.ariadne_parse.specs.Read.{read}
use Rattle.ariadne_parse.specs.Reports.{label_location, IsOfReport}
use Rattle.ariadne_parse.specs.Rustc.{rustc_read}
use Rattle.ariadne_parse.specs.Sent.{IsHeldNow, WasSent}
use Rattle.ariadne_parse.specs.Severities.{severity_of}
use Rattle.ariadne_parse.specs.declared.diagnostic.Diagnostic.{Diagnostic}
use Rattle.ariadne_parse.specs.declared.diagnostic.Severity.{Severity}
use Rattle.ariadne_parse.specs.declared.diagnostic.End.{End}
use Rattle.ariadne_parse.specs.declared.diagnostic.End.TheVariants.{Before, Behind, OfWord}
use Rattle.ariadne_parse.specs.declared.diagnostic.Span.{Span}
use Rattle.ariadne_parse.specs.declared.diagnostic.Location.{Location}
use Rattle.ariadne_parse.specs.declared.sent.Sent.{Sent}
use Rattle.ariadne_parse.specs.declared.telling.Format.{Format}
use Rattle.ariadne_parse.specs.declared.telling.Reading.{Reading}
use Rattle.ariadne_parse.specs.declared.telling.Format.TheVariants.{Auto, Rustc, Gcc, Lines, Report}
use Rattle.ariadne_parse.specs.declared.telling.Answer.{Answer}
use Rattle.ariadne_parse.specs.declared.telling.Answer.TheVariants.{Nothing, Dropped, Diagnostics, Head as Header, Note}

-- ---- rustc

-- a diagnostic of rustc's has a message, a level and spans
abbrev pub is_rustc : Data → Bool
is_rustc d =
    is_some (text_at (codes "message") d) && is_some (text_at (codes "level") d)
    && is_some (list_at (codes "spans") d)

-- the value itself, if it is one
abbrev pub if_rustc : Data → Option Data
if_rustc d = if is_rustc d then Some d else None

-- cargo hands one on where this is its reason, and has others of its own
abbrev pub rustc_for : Option (List ℕ) → Data → Option Data
rustc_for None d = if_rustc d
rustc_for (Some reason) d =
    if bytes_eq reason (codes "compiler-message")
    then option_and_then if_rustc (get (codes "message") d)
    else None

-- the diagnostic of rustc's that a value is, or hands on
abbrev pub rustc_in : Data → Option Data
rustc_in d = rustc_for (text_at (codes "reason") d) d

-- ---- cargo

-- the diagnostic that a value of cargo's hands on
abbrev pub handed_on : Data → Option Data
handed_on d = if is_some (text_at (codes "reason") d) then rustc_in d else None

-- a value with another reason is of a package, or ends the build
abbrev pub is_of_cargo_for : Option (List ℕ) → Data → Bool
is_of_cargo_for None d = false
is_of_cargo_for (Some reason) d =
    not (bytes_eq reason (codes "compiler-message"))
    && (bytes_eq reason (codes "build-finished") || is_some (text_at (codes "package_id") d))

-- cargo writes a value for other programs
abbrev pub is_of_cargo : Data → Bool
is_of_cargo d = is_of_cargo_for (text_at (codes "reason") d) d

-- ---- gcc

-- a diagnostic of gcc's has a kind, a message and locations
abbrev pub is_gcc : Data → Bool
is_gcc d =
    is_some (text_at (codes "kind") d) && is_some (text_at (codes "message") d)
    && is_some (get (codes "locations") d)

-- one at least stands in a list, and nothing else
abbrev pub is_gcc_list : Items → Bool
is_gcc_list no_items = false
is_gcc_list (item d items) = is_gcc d && all_items is_gcc items

-- a value is such a list
abbrev pub tells_gcc_in : Option Items → Bool
tells_gcc_in None = false
tells_gcc_in (Some items) = is_gcc_list items

abbrev pub tells_gcc : Data → Bool
tells_gcc d = tells_gcc_in (as_array d)

-- ---- reports

-- a label has a file and a start, which is a list of a line and a column, or of a line alone
abbrev pub is_label : Data → Bool
is_label d =
    is_some (text_at (codes "file") d) && is_some (label_location (codes "start") d)

-- a report has a known kind, a message and labels
abbrev pub is_report : Data → Bool
is_report d =
    is_some (option_and_then severity_of (text_at (codes "kind") d))
    && is_some (text_at (codes "message") d) && is_some (list_at (codes "labels") d)
    && all_items is_label (items_in (list_at (codes "labels") d))

-- ---- lines of JSON

-- a line begins with a brace or a bracket
abbrev pub begins_as_json : List ℕ → Bool
begins_as_json line = slice_index line 0 == 123 || slice_index line 0 == 91

-- the value that a line is
abbrev pub value_in : List ℕ → Option Data
value_in line = if begins_as_json line then value_of line else None

-- a value tells something in a form
abbrev pub tells_value : Format → Data → Bool
tells_value Auto d = is_some (rustc_in d) || tells_gcc d || is_report d
tells_value Rustc d = is_some (rustc_in d)
tells_value Gcc d = tells_gcc d
tells_value Lines d = false
tells_value Report d = is_report d

-- the values of rustc and cargo are read in a form
abbrev pub reads_rustc : Format → Bool
reads_rustc Auto = true
reads_rustc Rustc = true
reads_rustc Gcc = false
reads_rustc Lines = false
reads_rustc Report = false

-- the message that a value hands on there
abbrev pub handed_in : Format → Data → Option Data
handed_in format d = if reads_rustc format then handed_on d else None

-- it is for other programs there
abbrev pub drops_value : Format → Data → Bool
drops_value format d = reads_rustc format && is_of_cargo d

-- ---- lines of text

-- lines of text are read in a form
abbrev pub reads_text : Format → Bool
reads_text Auto = true
reads_text Rustc = false
reads_text Gcc = false
reads_text Lines = true
reads_text Report = false

-- ---- what is told

-- the span that a diagnostic is about: the first primary one, or the first
abbrev pub first_primary : List Span → Option Span
first_primary spans = find (λ span. span.is_primary) spans

abbrev pub main_of : List Span → Option Span
main_of spans = option_or (first_primary spans) (slice_get spans 0)

-- ---- what a head tells

-- the first of its ranges in which its own span stands
unfoldable pub own_range_of : Head → Option (Location × Location)
own_range_of head = find (is_among head.start) (ranges_in 16 head.ranges)

-- from where and up to where its own span goes: as that range does, or from its start up to the end
-- that the line names, or else over the word there
abbrev pub own_start : Head → Option (Location × Location) → Location
own_start head None = head.start
own_start head (Some range) = range.0

abbrev pub own_end : Option Location → Option (Location × Location) → End
own_end None None = OfWord
own_end (Some end) None = Behind end
own_end end (Some range) = Before range.1

-- its own span, at which it points
abbrev pub own_span_of : Head → Counting → Seen
own_span_of head counting =
    record (counted_span head.file (own_start head (own_range_of head)) (own_end head.end (own_range_of head)) counting) {
      caret = counted_location counting head.start;
      is_primary = true;
    }

-- a range is its own
abbrev pub is_own_range : Option (Location × Location) → Location × Location → Bool
is_own_range None range = false
is_own_range (Some own) range = is_same_location own.0 range.0 && is_same_location own.1 range.1

-- the spans of the ranges that are not its own
abbrev pub range_span : Head → Counting → Location × Location → Seen
range_span head counting range = counted_span head.file range.0 (Before range.1) counting

unfoldable pub others_among : Head → Counting → List (Location × Location) → List Seen
others_among head counting ranges =
    map (range_span head counting)
    (filter (λ range. not (is_own_range (own_range_of head) range)) ranges)

abbrev pub other_spans : Head → Counting → List Seen
other_spans head counting = others_among head counting (ranges_in 16 head.ranges)

-- a diagnostic has this severity, kind of its own, code and message, and nothing else yet
pub record IsBegun (grade : Severity) (name option : Option (List ℕ)) (said : List ℕ) (parsed : Diagnostic) : Type 0 where
  pub severity : parsed.severity ≡ grade
  pub own_kind : option_map named parsed.own_kind ≡ option_map (λ name. (name, None)) name
  pub code : option_map string_bytes parsed.code ≡ option
  pub message : string_bytes parsed.message ≡ said
  pub spans : parsed.spans.items ≡ []
  pub notes : parsed.notes.items ≡ []
  pub helps : parsed.helps.items ≡ []
  pub proposals : parsed.proposals.items ≡ []
  pub is_counted : parsed.is_sum ≡ false

-- a diagnostic is what a head tells whose columns count so
pub record IsOfHead (counting : Counting) (head : Head) (parsed : Diagnostic) : Type 0 where
  pub severity : parsed.severity ≡ head.kind.severity
  pub own_kind : option_map named parsed.own_kind ≡ option_map (λ name. (name, None)) head.kind.name
  pub code : option_map string_bytes parsed.code ≡ head.kind.code
  pub message : string_bytes parsed.message ≡ head.message
  pub spans : map seen parsed.spans.items
      ≡ own_span_of head counting ∷ other_spans head counting
  pub notes : parsed.notes.items ≡ []
  pub helps : parsed.helps.items ≡ []
  pub proposals : parsed.proposals.items ≡ []
  pub is_counted : parsed.is_sum ≡ false

-- a note about the diagnostic in front is named so, and has no code of its own; or its message goes on with
-- that of the diagnostic
abbrev pub is_note : Head → Bool
is_note head = head.kind.goes_on || head.kind.is_note && not (is_some head.kind.code)

-- the columns of lines about a file of Rust's count characters: rustc alone reads it
abbrev pub is_of_rust : List ℕ → Bool
is_of_rust file = ends_with (λ a b. a == b) file (codes ".rs")

-- and so do those of lines whose kind tells that
abbrev pub is_in_characters : Head → Bool
is_in_characters head = is_of_rust head.file || head.kind.has_characters

-- how the columns of a line count, where those of others count so: from 0 where its kind tells that, and else as others
-- do, where these count the same
abbrev pub counting_in : Head → Counting → Counting
counting_in head counting =
    if is_in_characters head then record { unit = Char; is_from_zero = head.kind.is_from_zero }
    else record { unit = counting.unit; is_from_zero = head.kind.is_from_zero || counting.is_from_zero }

-- of a head one diagnostic is told, as a note or by itself, and nothing where there is none
abbrev pub IsParsedOfHead : Counting → Option Head → Answer → Type 0
IsParsedOfHead counting None parsed = parsed ≡ Nothing
IsParsedOfHead counting (Some head) parsed =
    (one : Diagnostic) × (parsed ≡ (if is_note head then Note one else Header one)) × IsOfHead (counting_in head counting) head one

-- what is told of a value that cargo may have handed on: a message is held from now on
abbrev pub IsHeldIfAny : Option Data → Sent → Sent → Type 0
IsHeldIfAny None first last = last ≡ first
IsHeldIfAny (Some message) first last = IsHeldNow first last message

-- one diagnostic stands alone in a list, and is this
abbrev pub IsAlone : (Diagnostic → Type 0) → List Diagnostic → Type 0
IsAlone is all = (one : Diagnostic) × (all ≡ one ∷ []) × is one

-- diagnostics that a value tells: that of rustc's which it is or hands on, with the manifest that it names; those of a
-- list of gcc's, one at least; or that of a report
pub data AreParsed (d : Data) (all : List Diagnostic) : Type 0 where
  of_rustc : (message : Data) → rustc_in d ≡ Some message
      → map read all ≡ rustc_read (text_at (codes "manifest_path") d) message ∷ [] → AreParsed d all
  of_gcc : (items : Items) → as_array d ≡ Some items → tells_gcc d ≡ true → map read all ≡ gcc_list [] items
      → 0 < length all → AreParsed d all
  of_report : is_report d ≡ true → IsAlone (IsOfReport d) all → AreParsed d all

-- of a value, where these messages were handed on before: diagnostics, one at least, where it tells some;
-- nothing that is for the reader, where cargo has handed it on before, or writes it for other programs
pub data IsParsedOfValue (format : Format) (d : Data) (first last : Sent) : Answer → Type 0 where
  parsed_now : (all : Vec Diagnostic Global) → tells_value format d ≡ true → AreParsed d all.items
      → IsHeldIfAny (handed_in format d) first last → IsParsedOfValue format d first last (Diagnostics all)
  parsed_before : (message : Data) → handed_in format d ≡ Some message → WasSent first message
      → last ≡ first → IsParsedOfValue format d first last Dropped
  parsed_others : tells_value format d ≡ false → drops_value format d ≡ true → last ≡ first
      → IsParsedOfValue format d first last Dropped
  parsed_nothing : tells_value format d ≡ false → drops_value format d ≡ false → last ≡ first
      → IsParsedOfValue format d first last Nothing

-- of a line that is this value or none
abbrev pub IsParsedOf : Reading → List ℕ → Option Data → Sent → Sent → Answer → Type 0
IsParsedOf reading line (Some d) first last parsed = IsParsedOfValue reading.format d first last parsed
IsParsedOf reading line None first last parsed =
    IsParsedOfHead reading.counting (if reads_text reading.format then head_of_line line else None) parsed
    × (last ≡ first)

-- of a line, where these messages were handed on before, and those after
abbrev pub IsParsed : Reading → List ℕ → Sent → Sent → Answer → Type 0
IsParsed reading line first last parsed = IsParsedOf reading line (value_in line) first last parsed
