-- The words that the program takes, as `clap` parses them. Its `specs/Walk` and `specs/Faults` say what it
-- makes of the words of a command: the entries that it finds for each option, or what is wrong with the
-- words. Here stands the command.
use Rattle.std.specs.Prelude.{◌≡◌, ◌⊎◌, ℕ, ◌-◌, ◌^◌, true, List, [], ◌∷◌, ◌++◌, map, fold, codes}
use Rattle.std.specs.Prelude.{Some, MatchResult, Result}
use Rattle.std.specs.Borrow.{Bor}
use Rattle.clap.specs.Words.{App, IsAmong, Kinds, Row, Rule, fault_of, found_of, kind_of, matches_of}
use Rattle.clap.specs.Words.{new_rule, rows_of, with_rule}
use Rattle.clap.specs.Simple.{new_shape}
use Rattle.clap.specs.Lexer.{usize_max}
use Rattle.clap.specs.declared.builder.action.ArgAction.TheVariants.{Append, Set, SetTrue}
use Rattle.clap.specs.declared.builder.value_parser.ValueParser.{ValueParser}
use Rattle.clap.specs.declared.builder.value_parser.ValueParser.TheVariants as parser
use Rattle.clap.specs.declared.error.Error.{Error}
use Rattle.clap.specs.declared.error.kind.ErrorKind.TheVariants as kind
use Rattle.clap.specs.declared.parser.matches.ArgMatches.{ArgMatches}

-- ---- the names that options may have as values

-- lists of names, which lie somewhere in the program. A proof knows of each where that is, and what is said
-- below holds wherever it is
pub record Names : Type 0 where
  pub formats : Bor (List (Bor (List ℕ)))
  pub units : Bor (List (Bor (List ℕ)))
  pub first_columns : Bor (List (Bor (List ℕ)))
  pub colors : Bor (List (Bor (List ℕ)))
  pub outputs : Bor (List (Bor (List ℕ)))
  pub severities : Bor (List (Bor (List ℕ)))
  pub fails : Bor (List (Bor (List ℕ)))

abbrev pub texts_in : Bor (List (Bor (List ℕ))) → List (List ℕ)
texts_in names = map (λ name. name.now) names.now

-- something holds of a list of texts, wherever it lies
abbrev pub ForList : List (List ℕ) → (Bor (List (Bor (List ℕ))) → Type 0) → Type 0
ForList texts holds = (list : Bor (List (Bor (List ℕ)))) × (texts_in list ≡ texts) × holds list

-- the names are these
pub record AreNames (names : Names) : Type 0 where
  pub formats : texts_in names.formats
      ≡ codes "auto" ∷ codes "rustc" ∷ codes "gcc" ∷ codes "lines" ∷ codes "report" ∷ []
  pub units : texts_in names.units ≡ codes "bytes" ∷ codes "chars" ∷ codes "utf16" ∷ codes "display" ∷ []
  pub first_columns : texts_in names.first_columns ≡ codes "0" ∷ codes "1" ∷ []
  pub colors : texts_in names.colors ≡ codes "auto" ∷ codes "always" ∷ codes "never" ∷ []
  pub outputs : texts_in names.outputs
      ≡ codes "picture" ∷ codes "short" ∷ codes "github" ∷ codes "sarif" ∷ []
  pub severities : texts_in names.severities
      ≡ codes "error" ∷ codes "warning" ∷ codes "note" ∷ []
  pub fails : texts_in names.fails ≡ codes "error" ∷ codes "warning" ∷ codes "never" ∷ []

-- something holds of them, wherever they lie
abbrev pub ForNames : (Names → Type 0) → Type 0
ForNames holds = (names : Names) × AreNames names × holds names

-- ---- the command

-- an option without a value
abbrev pub switch_rule : List ℕ → Rule
switch_rule name = record (new_rule name) { long = Some name; action = Some SetTrue }

-- an option with a value
abbrev pub option_rule : List ℕ → Rule
option_rule name =
    record (new_rule name) { long = Some name; action = Some Set; value_names = 1 }

-- one whose value has to be of this kind, or a number, or one of these names
abbrev pub typed_rule : List ℕ → ValueParser → Rule
typed_rule name values = record (option_rule name) { parser = Some values }

abbrev pub number_rule : List ℕ → Rule
number_rule name = typed_rule name (parser.Unsigned 0 (2 ^ 64 - 1))

abbrev pub choice_rule : List ℕ → Bor (List (Bor (List ℕ))) → Rule
choice_rule name names = typed_rule name (parser.Names names)

-- the names of inputs
abbrev pub inputs_rule : Rule
inputs_rule = record (new_rule (codes "file")) {
  action = Some Append;
  range = Some (record { start_inclusive = 0; end_inclusive = usize_max });
  value_names = 1;
}

-- the options whose values are named
abbrev pub choices : Names → List Rule
choices names =
    choice_rule (codes "format") names.formats
    ∷ choice_rule (codes "columns") names.units
    ∷ choice_rule (codes "first-column") names.first_columns
    ∷ choice_rule (codes "color") names.colors
    ∷ choice_rule (codes "output") names.outputs
    ∷ choice_rule (codes "severity") names.severities
    ∷ choice_rule (codes "fail-on") names.fails
    ∷ []

-- those without a value
abbrev pub switches : List Rule
switches =
    switch_rule (codes "ascii")
    ∷ switch_rule (codes "compact")
    ∷ switch_rule (codes "short")
    ∷ switch_rule (codes "raw")
    ∷ []

-- the others, and the names of inputs
abbrev pub others : List Rule
others =
    number_rule (codes "context")
    ∷ number_rule (codes "max")
    ∷ typed_rule (codes "width") parser.NonEmptyString
    ∷ typed_rule (codes "base") parser.NonEmptyString
    ∷ typed_rule (codes "tool") parser.NonEmptyString
    ∷ typed_rule (codes "matcher") parser.NonEmptyString
    ∷ inputs_rule
    ∷ []

-- a command of this name without words: of an option the last use counts, and the program's own name is
-- no word
abbrev pub bare_command : List ℕ → App
bare_command name = record {
  top = record (new_shape name) {
    no_binary_name = true;
    has_version = true;
    args_override_self = true;
  };
  subs = [];
}

-- the command. (`clap` adds `-h`, `--help`, `-V` and `--version` to the words that it takes.)
abbrev pub command : Names → App
command names =
    fold with_rule (bare_command (codes "ariadne-show")) (choices names ++ switches ++ others)

-- the entries that `clap` finds in words
abbrev pub entries : Names → List (List ℕ) → List Row
entries names words = matches_of (command names) words

-- what `clap` says of words that it finds no entries in: that they ask for a page, or what is wrong
abbrev pub refusals : Names → List (List ℕ) → Kinds
refusals names words = fault_of (command names) words

-- what `clap` makes of the words: it finds these entries, or fails, for want of memory or for one of these
-- reasons
abbrev pub IsParsedBy : List (List ℕ) → Result ArgMatches Error → Type 0
IsParsedBy words parsed = MatchResult parsed
    (λ matches. ForNames (λ names. (refusals names words ≡ [])
    × (rows_of (found_of matches) ≡ entries names words)))
    (λ error. (kind_of error ≡ kind.OutOfMemory)
    ⊎ ForNames (λ names. IsAmong (kind_of error) (refusals names words)))
