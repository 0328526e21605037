-- Diagnostics as commands of GitHub's workflows: ::KIND PROPERTIES::MESSAGE, each with a line feed. In a
-- message `%`, CR and LF are escaped, and in a property also `:` and `,`; what else is hidden stands as
-- its sign. 10 is LF, 13 CR, 37 `%`, 44 `,` and 58 `:`.
use Rattle.std.specs.Prelude.{ℕ, ◌==◌, Bool, false, ◌&&◌, if◌then◌else◌, List, [], ◌∷◌, ◌++◌, length}
use Rattle.std.specs.Prelude.{chars, codes, decimal, encode_utf8, encode_utf8_all, Option, Some, None}
use Rattle.std.specs.Prelude.{String, ◌-◌, drop, fold, string_bytes, take, unwrap_or}
use Rattle.std.specs.List.{ends_with, flat_map, starts_with}
use Rattle.std.specs.Str.{trim_start}
use Rattle.std.specs.declared.alloc.Global.{Global}
use Rattle.ariadne_safe.specs.Visible.{shown_code}
use Rattle.ariadne_safe.specs.declared.text.TextKind.TheVariants.{OneRow}
use Rattle.ariadne_parse.specs.declared.diagnostic.Diagnostic.{Diagnostic}
use Rattle.ariadne_parse.specs.declared.diagnostic.Severity.{Severity}
use Rattle.ariadne_parse.specs.declared.diagnostic.Severity.TheVariants.{Error, Warning, Note}
use Rattle.ariadne_parse.specs.declared.diagnostic.Location.{Location}
use Rattle.ariadne_outputs.specs.declared.github.Role.{Role}
use Rattle.ariadne_outputs.specs.declared.github.Role.TheVariants.{Message, Property}
use Rattle.ariadne_outputs.specs.Located.{LocatedSpan, first_of, others_of, said_at, whole_of}

-- ---- escapes

-- the escape of a character; nothing where it has none
abbrev pub message_escape : ℕ → List ℕ
message_escape c =
    if c == 37 then codes "%25" else (if c == 13 then codes "%0D" else (if c == 10 then codes "%0A" else []))

abbrev pub escape_of : Role → ℕ → List ℕ
escape_of Message c = message_escape c
escape_of Property c =
    if c == 58 then codes "%3A" else (if c == 44 then codes "%2C" else message_escape c)

-- what stands for a character: its escape, or itself, or its sign
abbrev pub escaped_code : Role → ℕ → List ℕ
escaped_code role c =
    if length (escape_of role c) == 0 then shown_code OneRow c false ∷ [] else escape_of role c

-- what stands for a text
unfoldable pub escaped : Role → List ℕ → List ℕ
escaped role text = encode_utf8_all (flat_map (escaped_code role) (chars text))

-- ---- properties

-- one more, behind a comma where others stand before it
unfoldable pub with_property : List ℕ → List ℕ → List ℕ → List ℕ
with_property properties name value =
    properties ++ (if length properties == 0 then [] else codes ",") ++ name ++ codes "="
    ++ escaped Property value

-- one that is a number, if there is one
abbrev pub with_number : List ℕ → List ℕ → Option ℕ → List ℕ
with_number properties name None = properties
with_number properties name (Some number) = with_property properties name (decimal number)

-- the end of a span, if it is known. No column stands where it is on another line than its start
abbrev pub with_end : Bool → List ℕ → Option Location → List ℕ
with_end is_one_line properties None = properties
with_end is_one_line properties (Some end) =
    with_number (with_number properties (codes "endLine") (Some end.line)) (codes "endColumn")
    (if is_one_line then end.column else None)

-- a span in one line
abbrev pub is_in_line : LocatedSpan → Bool
is_in_line it = (unwrap_or it.end it.start).line == it.start.line

-- those of a span: its file, its lines, and its columns
abbrev pub span_properties : Option LocatedSpan → List ℕ
span_properties None = []
span_properties (Some it) =
    with_end (is_in_line it)
    (with_number
    (with_number (with_property [] (codes "file") (string_bytes it.span.file)) (codes "line")
    (Some it.start.line))
    (codes "col") (if is_in_line it then it.start.column else None))
    it.end

-- with the code as a title, if there is one
abbrev pub with_title : List ℕ → Option (String Global) → List ℕ
with_title properties None = properties
with_title properties (Some code) = with_property properties (codes "title") (string_bytes code)

-- ---- commands

abbrev pub command_word : Severity → List ℕ
command_word Error = codes "error"
command_word Warning = codes "warning"
command_word Note = codes "notice"

-- a command, with a blank in front of its properties, if it has some
abbrev pub command : List ℕ → List ℕ → List ℕ → List ℕ
command word properties message =
    codes "::" ++ word ++ (if length properties == 0 then [] else codes " " ++ properties) ++ codes "::"
    ++ escaped Message message ++ 10 ∷ []

-- that of another span, if something is said of it
abbrev pub notice_of : LocatedSpan → List ℕ
notice_of it =
    if length (said_at it) == 0 then []
    else command (codes "notice") (span_properties (Some it)) (said_at it)

-- those of a diagnostic
abbrev pub github_commands : Diagnostic → List LocatedSpan → List ℕ
github_commands parsed located_spans =
    command (command_word parsed.severity)
    (with_title (span_properties (first_of located_spans)) parsed.code)
    (whole_of parsed (first_of located_spans))
    ++ flat_map notice_of (others_of located_spans)

-- ---- lines that pass

-- a blank between `##` and `[`
abbrev pub blank_between : List ℕ → ℕ → List ℕ
blank_between before c =
    if (c == 91) && ends_with (λ a b. a == b) before (codes "##") then codes " " else []

-- a character behind bytes, with that
abbrev pub parted_by : List ℕ → ℕ → List ℕ
parted_by before c = before ++ blank_between before c ++ encode_utf8 c

-- all characters of a text behind bytes
abbrev pub parted : List ℕ → List ℕ → List ℕ
parted before text = fold parted_by before (chars text)

-- a text that is no command: one that begins with `::` behind white space has a blank between these
abbrev pub without_command : List ℕ → List ℕ
without_command text =
    let command = trim_start text in
    if starts_with (λ a b. a == b) command (codes "::")
    then parted (take (length text - length command) text ++ codes ": :") (drop 2 command)
    else parted [] text
