-- Lines in front of a diagnostic that say how the tool came to its span:
--     In file included from FILE:LINE,     the first of gcc's, and each of clang's;
--                      from FILE:LINE:     gcc's further ones; they end in a comma or a colon;
--     inlined from 'NAME' at FILE:LINE:COLUMN:
--     FILE:LINE:COLUMN:   required from here, and what else gcc says behind three blanks.
use Rattle.std.specs.Prelude.{ℕ, Bool, false, ◌&&◌, ◌||◌, if◌then◌else◌, List, codes}
use Rattle.std.specs.Prelude.{Option, Some, None, is_some, option_map, option_and_then}
use Rattle.std.specs.Option.{option_or, unwrap_or}
use Rattle.std.specs.Path.{rsplit_once}
use Rattle.ariadne_parse.specs.Heads.{at_colons, span_in, location_at}
use Rattle.ariadne_parse.specs.TextPieces.{begins_with, behind, behind_text, in_front_of, in_front_of_text}
use Rattle.ariadne_parse.specs.TextPieces.{is_flush, past_blanks, split_once, whole_number}
use Rattle.ariadne_parse.specs.declared.diagnostic.Location.{Location}

-- what such a line tells: a span, and what a label there says
pub record Front : Type 0 where
  pub file : List ℕ
  pub start : Location
  pub text : List ℕ

-- ---- a span at the end of a text

-- a line's number behind the last colon of a text, and what stands in front of it
unfoldable pub number_at_end : List ℕ → Option (List ℕ × ℕ)
number_at_end text =
    option_and_then (λ parts. option_map (λ number. (parts.0, number)) (whole_number parts.1))
    (rsplit_once 58 text)

-- FILE:LINE, where another number stands at the end of the file; FILE:LINE:COLUMN then
abbrev pub span_by : List ℕ × ℕ → Option (List ℕ × ℕ) → List ℕ × Location
span_by last None = (last.0, record { line = last.1; column = None })
span_by last (Some line) = (line.0, location_at line.1 last.1)

-- FILE:LINE or FILE:LINE:COLUMN: the name is not empty, and begins with no blank
unfoldable pub span_at_end : List ℕ → Option (List ℕ × Location)
span_at_end text =
    option_and_then (λ span. if is_flush span.0 then Some span else None)
    (option_map (λ last. span_by last (number_at_end last.0)) (number_at_end text))

-- what stands in front of the comma or the colon at the end
unfoldable pub in_front_of_end : List ℕ → Option (List ℕ)
in_front_of_end text = option_or (in_front_of 44 text) (in_front_of 58 text)

-- ---- files that include others

-- what stands behind the words in the lines below it
unfoldable pub behind_from : List ℕ → Option (List ℕ)
behind_from text = option_or (behind_text (codes "from ") text) (behind_text (codes "included from ") text)

-- what stands behind the words for that
unfoldable pub behind_included : List ℕ → Option (List ℕ)
behind_included text =
    option_or (behind_text (codes "In file included from ") text) (behind_from text)

unfoldable pub include_in : List ℕ → Option Front
include_in line =
    option_map
    (λ span. record { file = span.0; start = span.1; text = codes "included here" })
    (option_and_then span_at_end
    (option_and_then in_front_of_end (behind_included (past_blanks line))))

-- ---- calls in place of which gcc put what they call

-- inlined from 'NAME', and the span behind it
unfoldable pub said_and_span : List ℕ → Option (List ℕ × List ℕ)
said_and_span text =
    option_and_then
    (λ parts. option_map (λ said. (said, parts.1)) (in_front_of_text (codes " at") parts.0))
    (rsplit_once 32 text)

unfoldable pub inlined_in : List ℕ → Option Front
inlined_in line =
    if begins_with (codes "inlined from ") (past_blanks line)
    then
    option_and_then
    (λ parts.
    option_map (λ span. record { file = span.0; start = span.1; text = parts.0 })
    (span_at_end parts.1))
    (option_and_then said_and_span (in_front_of_end (past_blanks line)))
    else None

-- ---- templates and constants that gcc works out

-- a text says how it came there
abbrev pub says_how : List ℕ → Bool
says_how text =
    begins_with (codes "required ") text || begins_with (codes "recursively required ") text
    || begins_with (codes "in ") text || begins_with (codes "instantiated from ") text

-- a span, a colon and three blanks stand behind the name of a file
unfoldable pub context_behind : List ℕ → List ℕ → Option Front
context_behind file text =
    option_and_then
    (λ span.
    option_and_then
    (λ said.
    if says_how said && is_flush file
    then Some (record { file = file; start = span.0; text = said })
    else None)
    (behind_text (codes ":   ") span.2))
    (span_in text)

-- at the first colon at which a line tells that
unfoldable pub context_in : List ℕ → Option Front
context_in line = at_colons context_behind line

-- ---- fronts

unfoldable pub front_in : List ℕ → Option Front
front_in line = option_or (include_in line) (option_or (inlined_in line) (context_in line))

-- ---- lines that name what the tool was in, and no span

-- words for a function that the tool was in
unfoldable pub begins_as_function : List ℕ → Bool
begins_as_function text =
    begins_with (codes "In function ") text || begins_with (codes "In member function ") text
    || begins_with (codes "In static member function ") text
    || begins_with (codes "In lambda function") text

-- words for one that makes or ends a value
unfoldable pub begins_as_constructor : List ℕ → Bool
begins_as_constructor text =
    begins_with (codes "In constructor ") text || begins_with (codes "In copy constructor ") text
    || begins_with (codes "In destructor ") text

-- words for a template with arguments
unfoldable pub begins_as_template : List ℕ → Bool
begins_as_template text =
    begins_with (codes "In instantiation of ") text || begins_with (codes "In substitution of ") text

-- words for no function at all
unfoldable pub begins_at_top : List ℕ → Bool
begins_at_top text =
    begins_with (codes "At global scope") text || begins_with (codes "At top level") text

-- words that such a line begins with
abbrev pub begins_as_scope : List ℕ → Bool
begins_as_scope text =
    begins_as_function text || begins_as_constructor text || begins_as_template text
    || begins_at_top text

-- those words stand behind a file, a colon and a blank
unfoldable pub is_scope_of_file : List ℕ → Bool
is_scope_of_file line =
    unwrap_or (option_map begins_as_scope (option_and_then (λ parts. behind 32 parts.1) (split_once 58 line)))
    false

-- a line is one: those words stand so, or first, and it ends in a comma or a colon
unfoldable pub is_scope_line : List ℕ → Bool
is_scope_line line =
    is_some (in_front_of_end line) && (begins_as_scope line || is_scope_of_file line)
