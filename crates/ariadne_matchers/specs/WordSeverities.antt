-- The severity that a word of the table tells, in any case of letters.
use Rattle.std.specs.Prelude.{ℕ, Bool, List, Option, Some, None, string_bytes}
use Rattle.std.specs.List.{find}
use Rattle.std.specs.Option.{option_map_or}
use Rattle.std.specs.Str.{str_eq_ignore_ascii_case}
use Rattle.ariadne_matchers.specs.Catches.{Cut}
use Rattle.ariadne_matchers.specs.declared.entry.Severity.{Severity}
use Rattle.ariadne_matchers.specs.declared.entry.Word.{Word}

-- a text is this word
abbrev pub is_named : List ℕ → Word → Bool
is_named text word = str_eq_ignore_ascii_case text (string_bytes word.text)

-- the first word that it is
abbrev pub word_for : List Word → List ℕ → Option Word
word_for words text = find (is_named text) words

-- the severity by what was caught: the word's, or another where it is none
abbrev pub severity_by : List Word → Option Cut → Severity → Severity
severity_by words None other = other
severity_by words (Some caught) other = option_map_or (λ word. word.severity) (word_for words caught.text) other
