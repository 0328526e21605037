-- What stands in the place of a kind, in front of a message:
--     NAME: MESSAGE, where a code may stand behind the name, as NAME[CODE], NAME(CODE) or NAME CODE;
--     [NAME] MESSAGE and (NAME) MESSAGE, where a colon may stand behind the bracket;
--     CODE MESSAGE, CODE: MESSAGE and [CODE] MESSAGE;
--     WORD: MESSAGE, of a kind that only the tool knows.
use Rattle.std.specs.Prelude.{ℕ, ◌==◌, nat_lt, Bool, false, not, ◌&&◌, ◌||◌}
use Rattle.std.specs.Prelude.{if◌then◌else◌, List, [], ◌∷◌, length, drop, codes}
use Rattle.std.specs.Prelude.{Option, Some, None, option_map, option_and_then}
use Rattle.std.specs.Char.{is_ascii_alphabetic, is_ascii_alphanumeric, is_ascii_digit}
use Rattle.std.specs.Char.{is_ascii_uppercase}
use Rattle.std.specs.List.{list_all, list_any, prefix_len}
use Rattle.std.specs.Option.{option_or, unwrap_or}
use Rattle.std.specs.Path.{rsplit_once}
use Rattle.std.specs.Str.{trim_end}
use Rattle.ariadne_parse.specs.TextPieces.{begins_with, behind, in_front_of, split_once}
use Rattle.ariadne_parse.specs.Severities.{is_named, is_own_name, severity_of}
use Rattle.ariadne_parse.specs.declared.diagnostic.Severity.{Severity}
use Rattle.ariadne_parse.specs.declared.diagnostic.Severity.TheVariants.{Error, Warning, Note}

-- what the span of a kind tells
pub record Kind : Type 0 where
  pub severity : Severity
  -- its word, where that says more than the severity
  pub name : Option (List ℕ)
  pub code : Option (List ℕ)
  -- the columns of its line count from 0, as pylint's do
  pub is_from_zero : Bool
  -- the columns of its line count characters, as pylint's do for what looks at characters
  pub has_characters : Bool
  -- its word is `note`: it may be about the diagnostic in front
  pub is_note : Bool
  -- its message begins with two blanks: it goes on with the diagnostic in front, as g++'s do
  pub goes_on : Bool

-- ---- codes

-- capital letters and three digits or more, as E501
unfoldable pub is_code : List ℕ → Bool
is_code text =
    let letters = prefix_len is_ascii_uppercase text in
    nat_lt 0 letters && nat_lt 2 (length (drop letters text))
    && list_all is_ascii_digit (drop letters text)

-- one letter and four digits, as pylint's
abbrev pub is_of_pylint : List ℕ → Bool
is_of_pylint code = length code == 5 && prefix_len is_ascii_uppercase code == 1

-- codes of pylint's whose columns are those of Python, which count characters from 1: that of what Python can't
-- read, E0001, and those of characters that are hidden, E2510 to E2515
abbrev pub counts_from_one : List ℕ → Bool
counts_from_one code = begins_with (codes "E0001") code || begins_with (codes "E251") code

-- codes of pylint's that look at characters of a line: blanks at its end, comments, and escapes in strings
abbrev pub is_of_characters : List ℕ → Bool
is_of_characters code =
    begins_with (codes "C0303") code || begins_with (codes "W0511") code || begins_with (codes "W1401") code
    || begins_with (codes "W1402") code

-- the severity that the first letter of a code tells: that of errors and fatal ones, that of
-- conventions, refactorings and informations, or else that of warnings
unfoldable pub severity_by_letter : List ℕ → Severity
severity_by_letter [] = Warning
severity_by_letter (c ∷ code) =
    if c == 69 || c == 70 then Error else
    (if c == 67 || c == 73 || c == 82 then Note else Warning)

-- the kind that a code alone tells; pylint's columns count bytes from 0, but for those of some codes
unfoldable pub kind_by_code : Bool → List ℕ → Option Kind
kind_by_code is_of_pylint code =
    if is_code code
    then Some (record {
      severity = severity_by_letter code;
      name = None;
      code = Some code;
      is_from_zero = is_of_pylint && not (counts_from_one code);
      has_characters = is_of_pylint && (counts_from_one code || is_of_characters code);
      is_note = false;
      goes_on = false;
    })
    else None

-- ---- known kinds

-- the kind with a name, and a code if there is one
unfoldable pub kind_by_name : List ℕ → Option (List ℕ) → Option Kind
kind_by_name name code =
    option_map
    (λ severity. record {
      severity = severity;
      name = if is_own_name name then Some name else None;
      code = code;
      is_from_zero = false;
      has_characters = false;
      is_note = is_named (codes "note") name;
      goes_on = false;
    })
    (severity_of name)

-- a text is not empty, and has no blank
abbrev pub is_solid : List ℕ → Bool
is_solid text = nat_lt 0 (length text) && not (list_any (λ c. c == 32) text)

-- a name, and a code in brackets behind it
unfoldable pub code_in_brackets : ℕ → ℕ → List ℕ → Option (List ℕ × List ℕ)
code_in_brackets opened closed text =
    option_and_then (λ parts. if is_solid parts.1 then Some parts else None)
    (option_and_then (split_once opened) (in_front_of closed text))

-- a name, and a code behind a blank
unfoldable pub code_behind_blank : List ℕ → Option (List ℕ × List ℕ)
code_behind_blank text =
    option_and_then (λ parts. if is_code parts.1 then Some parts else None) (rsplit_once 32 text)

-- a name, and its code
unfoldable pub name_and_code : List ℕ → Option (List ℕ × List ℕ)
name_and_code text =
    option_or (code_in_brackets 91 93 text)
    (option_or (code_in_brackets 40 41 text) (code_behind_blank text))

-- a name is known, alone or with its code
unfoldable pub known_kind : List ℕ → Option Kind
known_kind text =
    option_or (kind_by_name text None)
    (option_and_then (λ parts. kind_by_name (trim_end parts.0) (Some parts.1)) (name_and_code text))

-- ---- a kind, and the message behind it

-- the message behind a blank
abbrev pub message_behind : List ℕ → Option (List ℕ)
message_behind text = behind 32 text

-- in front of the first colon, which a blank follows
unfoldable pub kind_in_front : List ℕ → Option Kind
kind_in_front text = option_or (known_kind text) (kind_by_code (is_of_pylint text) text)

unfoldable pub kind_at_colon : List ℕ → Option (Kind × List ℕ)
kind_at_colon said =
    option_and_then
    (λ parts.
    option_and_then (λ kind. option_map (λ words. (kind, words)) (message_behind parts.1))
    (kind_in_front parts.0))
    (split_once 58 said)

-- in brackets; pylint writes a name and more behind its code, in front of a parenthesis
unfoldable pub kind_inside : List ℕ → Option Kind
kind_inside text =
    option_or (known_kind text)
    (kind_by_code false (unwrap_or (option_map (λ parts. parts.0) (split_once 40 text)) text))

unfoldable pub kind_in_brackets : ℕ → ℕ → List ℕ → Option (Kind × List ℕ)
kind_in_brackets opened closed said =
    option_and_then
    (λ parts.
    option_and_then (λ kind. option_map (λ words. (kind, words)) (message_behind (unwrap_or (behind 58 parts.1) parts.1)))
    (kind_inside parts.0))
    (option_and_then (split_once closed) (behind opened said))

-- a code in front of the first blank
unfoldable pub code_at_blank : List ℕ → Option (Kind × List ℕ)
code_at_blank said =
    option_and_then (λ parts. option_map (λ kind. (kind, parts.1)) (kind_by_code false parts.0))
    (split_once 32 said)

-- one that is sure to be a kind
unfoldable pub sure_kind_in : List ℕ → Option (Kind × List ℕ)
sure_kind_in said =
    option_or (kind_at_colon said)
    (option_or (kind_in_brackets 91 93 said)
    (option_or (kind_in_brackets 40 41 said) (code_at_blank said)))

-- ---- words of the tool's own

-- letters, digits, `-` and `_`, and a letter first
abbrev pub is_of_word : ℕ → Bool
is_of_word c = is_ascii_alphanumeric c || c == 45 || c == 95

unfoldable pub is_word : List ℕ → Bool
is_word [] = false
is_word (c ∷ text) = is_ascii_alphabetic c && list_all is_of_word text

-- the kind that a word names: a warning, or where it is one letter, what codes with that letter are
unfoldable pub kind_by_word : List ℕ → Option Kind
kind_by_word word =
    if is_word word
    then Some (record {
      severity = if length word == 1 then severity_by_letter word else Warning;
      name = Some word;
      code = None;
      is_from_zero = false;
      has_characters = false;
      is_note = false;
      goes_on = false;
    })
    else None

-- a word in front of the first colon, which a blank follows
unfoldable pub own_kind_in : List ℕ → Option (Kind × List ℕ)
own_kind_in said =
    option_and_then
    (λ parts.
    option_and_then (λ kind. option_map (λ words. (kind, words)) (message_behind parts.1))
    (kind_by_word parts.0))
    (split_once 58 said)
