-- Lines of text that tell a diagnostic, FILE:LINE:COLUMN:RANGES: KIND: MESSAGE [CODE]. The column, the
-- ranges, the kind and the code may be left out. Behind the column an end may stand, as :LINE:COLUMN or
-- -COLUMN, which is the span of its last character. The line and the column may stand in parentheses,
-- as FILE(LINE,COLUMN): KIND: MESSAGE. Characters stand as their numbers, which TextPieces.antt names.
use Rattle.std.specs.Prelude.{ℕ, zero, suc, ◌+◌, ◌==◌, nat_lt, Bool, false, not, ◌&&◌, ◌||◌}
use Rattle.std.specs.Prelude.{if◌then◌else◌, List, [], ◌∷◌, length, take, drop, codes}
use Rattle.std.specs.Prelude.{Option, Some, None, is_some, option_map, option_and_then}
use Rattle.std.specs.List.{filter_map, list_any}
use Rattle.std.specs.Option.{option_or, unwrap_or}
use Rattle.std.specs.Path.{rsplit_once}
use Rattle.std.specs.Str.{trim_end}
use Rattle.ariadne_parse.specs.Kinds.{own_kind_in, sure_kind_in, Kind}
use Rattle.ariadne_parse.specs.TextPieces.{behind, begins_with, closes_with, in_front_of, is_flush, number_in, past_blanks}
use Rattle.ariadne_parse.specs.TextPieces.{split_once, whole_number}
use Rattle.ariadne_parse.specs.declared.diagnostic.Severity.{Severity}
use Rattle.ariadne_parse.specs.declared.diagnostic.Severity.TheVariants.{Error, Warning}
use Rattle.ariadne_parse.specs.declared.diagnostic.Location.{Location}

-- what a line tells; its columns count as the tool's do
pub record Head : Type 0 where
  pub file : List ℕ
  pub start : Location
  -- where its last character stands
  pub end : Option Location
  pub ranges : List ℕ
  pub kind : Kind
  pub message : List ℕ

-- ---- spans

-- a colon and a number
unfoldable pub column_in : List ℕ → Option (ℕ × List ℕ)
column_in text = option_and_then number_in (behind 58 text)

-- a location
abbrev pub location_at : ℕ → ℕ → Location
location_at line column = record { line = line; column = Some column }

-- LINE:COLUMN, and what stands behind it
unfoldable pub location_in : List ℕ → Option (Location × List ℕ)
location_in text =
    option_and_then (λ line. option_map (λ column. (location_at line.0 column.0, column.1)) (column_in line.1))
    (number_in text)

-- that behind a character
unfoldable pub location_behind : ℕ → List ℕ → Option (Location × List ℕ)
location_behind mark text = option_and_then location_in (behind mark text)

-- -COLUMN, on the same line
unfoldable pub end_on_line : ℕ → List ℕ → Option (Location × List ℕ)
end_on_line line text =
    option_map (λ column. (location_at line column.0, column.1)) (option_and_then number_in (behind 45 text))

-- an end behind a span of a line, and what stands behind it
unfoldable pub end_in : ℕ → List ℕ → Option (Location × List ℕ)
end_in line text = option_or (location_behind 58 text) (end_on_line line text)

-- a line alone; or a line and a column, and an end if there is one
abbrev pub span_with : ℕ × List ℕ → Option (ℕ × List ℕ) → Location × Option Location × List ℕ
span_with line None = (record { line = line.0; column = None }, None, line.1)
span_with line (Some column) = (
  location_at line.0 column.0,
  option_map (λ end. end.0) (end_in line.0 column.1),
  unwrap_or (option_map (λ end. end.1) (end_in line.0 column.1)) column.1,
)

-- LINE, LINE:COLUMN or that with an end, and what stands behind it
unfoldable pub span_in : List ℕ → Option (Location × Option Location × List ℕ)
span_in text = option_map (λ line. span_with line (column_in line.1)) (number_in text)

-- a location in parentheses: LINE or LINE,COLUMN
abbrev pub location_by : Option ℕ → Option ℕ → Option Location
location_by None column = None
location_by (Some line) None = None
location_by (Some line) (Some column) = Some (location_at line column)

unfoldable pub location_inside : List ℕ → Option Location
location_inside text =
    option_or
    (option_and_then (λ parts. location_by (whole_number parts.0) (whole_number parts.1)) (split_once 44 text))
    (option_map (λ line. record { line = line; column = None }) (whole_number text))

-- FILE(LINE,COLUMN) or FILE(LINE)
unfoldable pub span_in_parens : List ℕ → Option (List ℕ × Location)
span_in_parens text =
    option_and_then (λ parts. option_map (λ location. (parts.0, location)) (location_inside parts.1))
    (option_and_then (rsplit_once 40) (in_front_of 41 text))

-- ---- ranges, as clang writes them: {LINE:COLUMN-LINE:COLUMN}, and a colon behind the last

-- a range, and what stands behind it
unfoldable pub range_in : List ℕ → Option (Location × Location × List ℕ)
range_in text =
    option_and_then
    (λ start.
    option_and_then
    (λ end. option_map (λ rest. (start.0, end.0, rest)) (behind 125 end.1))
    (location_behind 45 start.1))
    (location_behind 123 text)

-- a range in front of those behind it
abbrev pub range_onto : (List ℕ → List (Location × Location)) → Option (Location × Location × List ℕ) → List (Location × Location)
range_onto more None = []
range_onto more (Some range) = (range.0, range.1) ∷ more range.2

-- the ranges that a text begins with, n at most
unfoldable pub ranges_in : ℕ → List ℕ → List (Location × Location)
ranges_in zero text = []
ranges_in (suc n) text = range_onto (ranges_in n) (range_in text)

-- what stands behind a range, if one stands there
abbrev pub past_range : List ℕ → List ℕ
past_range text = unwrap_or (option_map (λ range. range.2) (range_in text)) text

-- behind as many as stand there, and n at most
abbrev pub past_ranges : ℕ → List ℕ → List ℕ
past_ranges zero text = text
past_ranges (suc n) text = past_range (past_ranges n text)

-- behind all of them, which are 16 at most, and their colon
unfoldable pub behind_ranges : List ℕ → List ℕ
behind_ranges text =
    let rest = past_ranges 16 text in
    if is_some (range_in text) then unwrap_or (behind 58 rest) rest else text

-- what is said behind a colon, the ranges and one blank: something that begins with no other
unfoldable pub said_in : List ℕ → Option (List ℕ)
said_in text =
    option_and_then (λ said. if is_flush said then Some said else None)
    (behind 32 (behind_ranges text))

-- a location stands in front of another
abbrev pub is_before : Location → Location → Bool
is_before a b =
    nat_lt a.line b.line
    || a.line == b.line && nat_lt (unwrap_or a.column 0) (unwrap_or b.column 0)

-- a location stands in a range, which ends in front of its second location
abbrev pub is_among : Location → Location × Location → Bool
is_among location range = not (is_before location range.0) && is_before location range.1

-- ---- codes at the end of a message

-- a message, and the last word of a text, if that is a code in brackets
abbrev pub parted : List ℕ × List ℕ → Option (List ℕ × List ℕ)
parted parts =
    option_and_then
    (λ code. if nat_lt 0 (length code) then Some (trim_end parts.0, code) else None)
    (behind 91 parts.1)

-- a message, and the code in brackets behind it
unfoldable pub code_in : List ℕ → Option (List ℕ × List ℕ)
code_in said = option_and_then parted (option_and_then (rsplit_once 32) (in_front_of 93 said))

-- a message in front of its code, or all where there is none
abbrev pub message_in : List ℕ → List ℕ
message_in words = unwrap_or (option_map (λ parts. parts.0) (code_in words)) words

-- the code
abbrev pub code_behind : List ℕ → Option (List ℕ)
code_behind words = option_map (λ parts. parts.1) (code_in words)

-- ---- kinds

-- a name is that of a file of Go, whose tools name no kinds
abbrev pub is_of_go : List ℕ → Bool
is_of_go file = closes_with (codes ".go") file

-- a code tells a severity, as eslint's do, which names no kinds
abbrev pub is_of_eslint : List ℕ → Bool
is_of_eslint code = begins_with (codes "Error") code || begins_with (codes "Warning") code

-- a tool that names no kinds says this of a file
unfoldable pub has_no_kind : List ℕ → List ℕ → Bool
has_no_kind file said = is_of_go file || unwrap_or (option_map is_of_eslint (code_behind said)) false

-- the kind that is named, and the message behind it: one that is sure, or a word of the tool's own
unfoldable pub named_kind_in : List ℕ → List ℕ → Option (Kind × List ℕ)
named_kind_in file said =
    option_or (sure_kind_in said) (if has_no_kind file said then None else own_kind_in said)

-- a name that is sure to be a file's has a dot and no blank
abbrev pub is_sure_file : List ℕ → Bool
is_sure_file name = list_any (λ c. c == 46) name && not (list_any (λ c. c == 32) name)

-- the severity that a code tells, where no kind is named
unfoldable pub severity_by_code : Option (List ℕ) → Severity
severity_by_code None = Error
severity_by_code (Some code) = if begins_with (codes "Warning") code then Warning else Error

-- the kind where none is named: there is one where there is a column, and the file is sure
unfoldable pub unnamed_kind_in : List ℕ → Location → List ℕ → Option (Kind × List ℕ)
unnamed_kind_in file start said =
    if is_sure_file file && is_some start.column
    then Some (
      record {
        severity = severity_by_code (code_behind said);
        name = None;
        code = None;
        is_from_zero = false;
        has_characters = false;
        is_note = false;
        goes_on = false;
      },
      said,
    )
    else None

-- a note about a file of Python's keeps the blanks in front of its message, by which mypy shows what goes on
-- with what
abbrev pub keeps_blanks : List ℕ → Kind → Bool
keeps_blanks file kind = kind.is_note && (closes_with (codes ".py") file || closes_with (codes ".pyi") file)

-- a message: the blanks in front are none of it, or not where there is no more
abbrev pub message_kept : List ℕ → Kind → List ℕ → List ℕ
message_kept file kind words =
    if keeps_blanks file kind && nat_lt 0 (length (past_blanks words)) then words else past_blanks words

-- a known word alone stands in the place of the kind, or nothing does
abbrev pub is_plain : Kind → Bool
is_plain kind = not (is_some kind.name) && not (is_some kind.code)

-- words behind such a kind that begin with two blanks go on with the diagnostic in front
abbrev pub going_on : Kind → List ℕ → Kind
going_on kind words = record kind { goes_on = is_plain kind && begins_with (codes "  ") words }

-- the kind of what is said of a span, and the words behind it
unfoldable pub kind_of_said : List ℕ → Location → List ℕ → Option (Kind × List ℕ)
kind_of_said file start said =
    option_or
    (option_map (λ found. (going_on found.0 found.1, found.1)) (named_kind_in file said))
    (unnamed_kind_in file start said)

-- a code in the place of a kind is the code, and else the one at the end of the message
abbrev pub kind_with_code : Kind → List ℕ → Kind
kind_with_code kind words = record kind { code = option_or kind.code (code_behind words) }

abbrev pub message_with : Kind → List ℕ → List ℕ
message_with kind words = if is_some kind.code then words else message_in words

-- the message of the words behind a kind
abbrev pub message_of : List ℕ → Kind → List ℕ → List ℕ
message_of file kind words = message_kept file kind (message_with kind words)

-- it may be empty behind a known word alone, as in clang's `error: ` of a pragma that says nothing
abbrev pub is_parsed : Kind → List ℕ → Bool
is_parsed kind message = nat_lt 0 (length message) || is_plain kind

-- ---- heads

-- a message of a kind at a span: it is not empty but behind a known word, and the file's name is not empty and
-- begins with no blank
unfoldable pub head_of : List ℕ → Location × Option Location → List ℕ → Kind × List ℕ → Option Head
head_of file span ranges said =
    if is_parsed said.0 (message_of file said.0 said.1) && is_flush file
    then Some (record {
      file = file;
      start = span.0;
      end = span.1;
      ranges = ranges;
      kind = kind_with_code said.0 said.1;
      message = message_of file said.0 said.1;
    })
    else None

-- of what is said
unfoldable pub head_with : List ℕ → Location × Option Location → List ℕ → List ℕ → Option Head
head_with file span ranges said =
    option_and_then (head_of file span ranges) (kind_of_said file span.0 said)

-- a span, a colon, ranges and what is said stand behind the name of a file and a colon
unfoldable pub head_behind_span : List ℕ → List ℕ → Option Head
head_behind_span file text =
    option_and_then
    (λ span.
    option_and_then
    (λ ranges. option_and_then (head_with file (span.0, span.1) ranges) (said_in ranges))
    (behind 58 span.2))
    (span_in text)

-- a file and a span in parentheses stand in front of a colon, and what is said behind it
unfoldable pub head_behind_parens : List ℕ → List ℕ → Option Head
head_behind_parens front text =
    option_and_then
    (λ span. option_and_then (head_with span.0 (span.1, None) text) (said_in text))
    (span_in_parens front)

-- either of these, in front of a colon and behind it
unfoldable pub head_behind : List ℕ → List ℕ → Option Head
head_behind front text = option_or (head_behind_span front text) (head_behind_parens front text)

-- the spans of the colons in a text that begins at a span
abbrev pub colons_from : ℕ → List ℕ → List ℕ
colons_from at [] = []
colons_from at (c ∷ text) =
    if c == 58 then at ∷ colons_from (at + 1) text else colons_from (at + 1) text

-- the first of a list
abbrev pub first : {T : Type 0} → List T → Option T
first [] = None
first (x ∷ xs) = Some x

-- what is read at a span of a line of the name in front of it and of what stands behind it
abbrev pub read_at : {T : Type 0} → (List ℕ → List ℕ → Option T) → List ℕ → ℕ → Option T
read_at reads line at = reads (take at line) (drop (at + 1) line)

-- what is read at the first colon at which something is, among the first eight
abbrev pub at_colons : {T : Type 0} → (List ℕ → List ℕ → Option T) → List ℕ → Option T
at_colons reads line = first (filter_map (read_at reads line) (take 8 (colons_from 0 line)))

-- the file ends at the first colon at which the line tells something
unfoldable pub head_in : List ℕ → Option Head
head_in line = at_colons head_behind line

-- go vet begins some of its lines with its name
unfoldable pub head_of_line : List ℕ → Option Head
head_of_line line =
    if begins_with (codes "vet: ") line then head_in (drop 5 line) else head_in line

-- a line is a head
abbrev pub is_head : List ℕ → Bool
is_head line = is_some (head_of_line line)
