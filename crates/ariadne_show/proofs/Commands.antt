-- What the words of the command line come to: the steps from `clap`'s clauses to those of `words`.
use Rattle.std.proofs.Common.{◌≡◌, ◌∙◌, ◌&&◌, ◌==◌, ap, ap₂, refl, sym, Bool, true, false, not, is_some, ℕ, List, [], ◌∷◌, length, map, option_map, Option, Some, None, unwrap_or, Result, Ok, Err, IfOk, inl, inr}
use Rattle.std.proofs.Common.{arith, codes}
use Rattle.std.proofs.lemmas.Bool.{eqb-true}
use Rattle.std.specs.Str.Parse.{ParsesUnsigned}
use Rattle.std.specs.Borrow.{Bor}
use Rattle.clap.specs.Simple.{app_of_fields}
use Rattle.clap.specs.Words.{AddsArg, App, FailsBy, HasMatchesOf, Rule, app_of, fault_of, is_simple, is_simple_and_free}
use Rattle.clap.specs.Words.{ReadsOne, found_of, matches_of, new_app, rows_of, rule_of, with_rule}
use Rattle.clap.specs.declared.Error.{Error}
use Rattle.clap.specs.declared.ArgMatches.{ArgMatches}
use Rattle.clap.proofs.OnLiterals.{clap_on_literals}
use Rattle.clap.specs.declared.builder.Command.TheViews.{out-Command as fields_of}
use Rattle.clap.specs.Walk.{is_empty, is_simple_arg}
use Rattle.clap.specs.declared.builder.arg.Arg.{Arg}
use Rattle.clap.specs.declared.builder.command.Command.{Command}
use Rattle.clap.specs.declared.builder.value_parser.ValueParser.{ValueParser}
use Rattle.ariadne_show.specs.CommandWords.{AreNames, ForNames, IsParsedBy, Names, bare_command, command, entries, refusals}
use Rattle.ariadne_show.specs.OptionMeanings.{AreInputsOf, AreOptionsOf, IsNumber, IsNumberIn, IsRefusedFor, IsWidthIn, input_path, value}
use Rattle.ariadne_show.specs.Faults.{TellsWords}
use Rattle.ariadne_show.specs.declared.fault.Fault.{Fault}
use Rattle.ariadne_show.specs.declared.fault.Fault.TheVariants.{NoText, Words, Unread, UnreadFile}
use Rattle.ariadne_show.specs.declared.fault.Fault.TheVariants.{Writer, BrokenPipe, Memory}
use Rattle.ariadne_show.specs.CommandWords.{option_rule, texts_in, typed_rule}
use Rattle.ariadne_show.specs.OptionMeanings.{path_named, paths_named}
use Rattle.ariadne_show.specs.declared.options.Input.{Input}
use Rattle.ariadne_show.specs.declared.options.Options.{Options}
use Rattle.ariadne_show.specs.declared.options.Width.{Width}

-- of two that hold both, the second does
second : (a b : Bool) → (a && b) ≡ true → b ≡ true
second true b e = e
second false b e = cc

is_not : (a : Bool) → not a ≡ true → a ≡ false
is_not true e = cc
is_not false e = refl

last_of : (a b c d e f g h i j : Bool) → (a && (b && (c && (d && (e && (f && (g && (h && (i && j))))))))) ≡ true → j ≡ true
last_of a b c d e f g h i j all =
    second i j (second h _ (second g _ (second f _ (second e _ (second d _ (second c _ (second b _ (second a _ all))))))))

-- a simple argument is not global
not_global : (a : Arg) → is_simple_arg a ≡ true → a.global ≡ false
not_global a simple = is_not a.global (last_of (is_empty a.overrides.items) (is_empty a.default_vals_ifs.items) (is_empty a.groups.items)
    (not (is_some a.val_delim)) (not (is_some a.terminator)) (not a.allow_hyphen_values) (not a.allow_negative_numbers) (not a.require_equals)
    (not a.last) (not a.global) simple)

-- a command with one argument more has its rule more
pub with_one : (old new : Command) (a : Arg) (r : Rule) (app : App) → AddsArg old a new → rule_of a ≡ r → r.is_simple ≡ true → app_of old ≡ app
    → app_of new ≡ with_rule app r
with_one old new a r app added is simple was =
    let own : is_simple_arg a ≡ true = ap (λ (x : Rule). x.is_simple) is ∙ simple in
    added.shape (not_global a own) ∙ ap₂ with_rule was is

-- an option whose values a parser judges
pub typed : (a b : Arg) (name : List ℕ) (q : ValueParser) → rule_of a ≡ option_rule name
    → b ≡ record a { value_parser = b.value_parser } → b.value_parser ≡ Some q → rule_of b ≡ typed_rule name q
typed a b name q is others parser =
    ap rule_of others ∙ ap₂ (λ (r : Rule) (p : _). record r { parser = p }) is parser

-- a new command with the settings of ours
pub with_settings : (a b c d e : Command) (name : List ℕ) (version help : Bor (List ℕ)) → app_of a ≡ new_app name
    → fields_of b ≡ record (fields_of a) { version = Some version }
    → fields_of c ≡ record (fields_of b) { help_str = Some help }
    → fields_of d ≡ record (fields_of c) { no_binary_name = true }
    → fields_of e ≡ record (fields_of d) { args_override_self = true }
    → app_of e ≡ bare_command name
with_settings a b c d e name version help new versioned helped unnamed overriding =
    let settings : fields_of e ≡ record (fields_of a) {
      version = Some version;
      help_str = Some help;
      no_binary_name = true;
      args_override_self = true;
    } = rw (overriding, unnamed, helped, versioned) refl in
    ap app_of_fields settings ∙ ap (λ (x : App). record x {
      top = record x.top { has_version = true; no_binary_name = true; args_override_self = true };
    }) new

-- what `clap` says of words it says exactly of this command
is_exact : (names : Names) → is_simple_and_free (command names) ≡ true
unfolding clap_on_literals
is_exact names = refl

is_ready : (names : Names) → is_simple (command names) ≡ true
unfolding clap_on_literals
is_ready names = refl

pub parsed : (names : Names) → AreNames names → (app : App) → app ≡ command names → (words : List (List ℕ)) → (r : Result ArgMatches Error)
    → IfOk r (HasMatchesOf app words) → (is_simple_and_free app ≡ true → FailsBy (fault_of app words) r) → IsParsedBy words r
parsed names are app is words (Ok m) matches kinds =
    let none : fault_of app words ≡ [] = kinds (ap is_simple_and_free is ∙ is_exact names) in
    let rows = matches (ap is_simple is ∙ is_ready names) in
    (names, are, (rw is at none, rows.0 ∙ ap (λ (a : App). matches_of a words) is))
parsed names are app is words (Err e) matches kinds = elim (kinds (ap is_simple_and_free is ∙ is_exact names)) [
  | inl memory ↦ inl memory
  | inr among ↦ inr (names, are, rw is at among)
]

-- words whose width is none are refused for that
pub wrong_width : (words : List (List ℕ)) (m : ArgMatches) (fault : Fault) → IsParsedBy words (Ok m)
    → IsWidthIn (value (rows_of (found_of m)) (codes "width")) None → TellsWords fault → IsRefusedFor words fault
wrong_width words m (Words text) parsed none tells =
    let rows = parsed.2 in
    ((parsed.0, parsed.1, inr (rw rows.1 at none)), tells)
wrong_width words m NoText parsed none tells = absurd tells
wrong_width words m Unread parsed none tells = absurd tells
wrong_width words m (UnreadFile path reason) parsed none tells = absurd tells
wrong_width words m Writer parsed none tells = absurd tells
wrong_width words m BrokenPipe parsed none tells = absurd tells
wrong_width words m (Memory refused) parsed none tells = absurd tells

-- words that `clap` finds nothing wrong with, and whose width is one, ask for what their rows say
pub asked : (words : List (List ℕ)) (m : ArgMatches) (options : Options) (width : Width) (inputs : List Input) → IsParsedBy words (Ok m)
    → IsWidthIn (value (rows_of (found_of m)) (codes "width")) (Some width) → AreOptionsOf (rows_of (found_of m)) options
    → options.width ≡ width → AreInputsOf (rows_of (found_of m)) inputs
    → ForNames (λ names. (refusals names words ≡ []) × AreOptionsOf (entries names words) options × AreInputsOf (entries names words) inputs
    × IsWidthIn (value (entries names words) (codes "width")) (Some options.width))
asked words m options width inputs parsed is_width are same read =
    let rows = parsed.2 in
    (parsed.0, parsed.1, (rows.0, rw rows.1 at are, rw rows.1 at read, rw same (rw rows.1 at is_width)))

-- ---- numbers

number : {E : Type 0} (text : List ℕ) (r : Option ℕ) (gives : List ℕ → Result ℕ E → Type 0)
    → ((u : List ℕ) (x : Result ℕ E) → gives u x → ParsesUnsigned 64 10 u x) → ReadsOne gives text r → IsNumber text r
number text (Some n) gives only read =
    let parsed = only text (Ok n) read in
    (parsed.0.0, parsed.1)
number text None gives only read = λ numeral fits. only text (Err read.0) read.1 (numeral, fits)

-- what `get_one` reads of an option is the number that its value says
pub number_in : {E : Type 0} (given : Option (List ℕ)) (r : Option ℕ) (gives : List ℕ → Result ℕ E → Type 0)
    → ((u : List ℕ) (x : Result ℕ E) → gives u x → ParsesUnsigned 64 10 u x)
    → (given ≡ None → r ≡ None) → ((t : List ℕ) → given ≡ Some t → ReadsOne gives t r) → IsNumberIn given r
number_in None r gives only none some = none refl
number_in (Some text) r gives only none some = number text r gives only (some text refl)

-- ---- inputs

-- the names that `clap` found, or none
pub names_given : (names none : Bor (List (Bor (List ℕ)))) (found : Option (Bor (List (Bor (List ℕ))))) (given : Option (List (List ℕ)))
    → names ≡ unwrap_or found none → option_map texts_in found ≡ given → none.now ≡ [] → texts_in names ≡ unwrap_or given []
names_given names none None given is same empty = rw (is, ← same) (ap (map (λ name. name.now)) empty)
names_given names none (Some found) given is same empty = rw (is, ← same) refl

each_named : (names : List (Bor (List ℕ))) → map path_named (map (λ name. name.now) names) ≡ map (λ name. path_named name.now) names
each_named [] = refl
each_named (name ∷ names) = ap (λ paths. path_named name.now ∷ paths) (each_named names)

-- the inputs of names, if there are any, and else of `-` alone
pub some_inputs : (inputs : List Input) (names : List (Bor (List ℕ))) (given : List (List ℕ)) → map (λ name. name.now) names ≡ given
    → (length names == 0) ≡ false → map input_path inputs ≡ map (λ name. path_named name.now) names → map input_path inputs ≡ paths_named given
some_inputs inputs [] given is some are = cc
some_inputs inputs (name ∷ names) given is some are = rw (← is) (are ∙ sym (each_named (name ∷ names)))

pub no_inputs : (inputs : List Input) (names : List (Bor (List ℕ))) (given : List (List ℕ)) → map (λ name. name.now) names ≡ given
    → (length names == 0) ≡ true → map input_path inputs ≡ None ∷ [] → map input_path inputs ≡ paths_named given
no_inputs inputs [] given is none are = rw (← is) are
no_inputs inputs (name ∷ names) given is none are =
    let bad : length (name ∷ names) ≡ 0 = eqb-true _ _ none in
    absurd (omega arith)
