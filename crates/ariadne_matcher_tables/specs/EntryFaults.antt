-- What is wrong with a table in TOML, by the fault that is told. There may be no memory at any time.
use Rattle.std.specs.Prelude.{ℕ, ◌≡◌, nat_lt, Bool, false, List}
use Rattle.std.specs.Prelude.{Some, None, is_some, option_and_then, option_map, unwrap_or, string_bytes}
use Rattle.std.specs.List.{Contains}
use Rattle.toml.specs.Data.{as_array, as_str, as_table, get, Data}
use Rattle.ariadne_matcher_tables.specs.TableMembers.{is_among, member_names, number_in, text_at, texts_in}
use Rattle.ariadne_matcher_tables.specs.Options.{editor_severity_named, end_named, escapes_named, severity_named, unit_named}
use Rattle.ariadne_matcher_tables.specs.declared.refusal.Choices.{Choices}
use Rattle.ariadne_matcher_tables.specs.declared.refusal.Choices.TheVariants as choice
use Rattle.ariadne_matcher_tables.specs.declared.refusal.Fault.{Fault}
use Rattle.ariadne_matcher_tables.specs.declared.refusal.Fault.TheVariants as wrong
use Rattle.ariadne_matcher_tables.specs.declared.refusal.Wanted.{Wanted}
use Rattle.ariadne_matcher_tables.specs.declared.refusal.Wanted.TheVariants as kind

-- a value is what it has to be
abbrev pub is_a : Wanted → Data → Bool
is_a kind.Text value = is_some (as_str value)
is_a kind.Number value = is_some (number_in value)
is_a kind.NumberFromOne value = unwrap_or (option_map (nat_lt 0) (number_in value)) false
is_a kind.List value = is_some (as_array value)
is_a kind.Texts value = is_some (option_and_then texts_in (as_array value))
is_a kind.Table value = is_some (as_table value)

-- a word is one of those that a member may be
abbrev pub is_choice : Choices → List ℕ → Bool
is_choice choice.Units word = is_some (unit_named word)
is_choice choice.Ends word = is_some (end_named word)
is_choice choice.Escapes word = is_some (escapes_named (Some word))
is_choice choice.Severities word = is_some (severity_named word)
is_choice choice.EditorSeverities word = is_some (editor_severity_named word)

-- a member is missing, of another kind, or none of the words that it may be
abbrev pub IsOfMember : Data → Fault → Type 0
IsOfMember given (wrong.Memory error) = Unit {0}
IsOfMember given (wrong.Missing member) = get member.now given ≡ None
IsOfMember given (wrong.Kind member wanted) = option_map (is_a wanted) (get member.now given) ≡ Some false
IsOfMember given (wrong.Choice member word choices) =
    (text_at member.now given ≡ Some (string_bytes word)) × (is_choice choices (string_bytes word) ≡ false)
IsOfMember given _ = ⊥

-- a value is no table, or has another member than these
abbrev pub IsOfNames : List (List ℕ) → Data → Fault → Type 0
IsOfNames known given (wrong.Memory error) = Unit {0}
IsOfNames known given wrong.NoTable = as_table given ≡ None
IsOfNames known given (wrong.Unknown name) =
    Contains (member_names given) (string_bytes name) × (is_among known (string_bytes name) ≡ false)
IsOfNames known given _ = ⊥

-- the fault of a member that is this word, and none of those that it may be
abbrev pub IsOfChoice : List ℕ → List ℕ → Choices → Fault → Type 0
IsOfChoice member word choices (wrong.Memory error) = Unit {0}
IsOfChoice member word choices (wrong.Choice named told those) =
    (named.now ≡ member) × (string_bytes told ≡ word) × (those ≡ choices)
IsOfChoice member word choices _ = ⊥
