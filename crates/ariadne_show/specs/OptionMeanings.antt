-- What the words of the command line ask for, by the entries that `clap` finds in them.
use Rattle.std.specs.Prelude.{◌≡◌, ◌≢◌, ◌⊎◌, ℕ, ◌<◌, ◌^◌, Bool, false, List, [], ◌∷◌, map, codes}
use Rattle.std.specs.Prelude.{Option, Some, None, if◌then◌else◌, option_map, unwrap_or, ⊤}
use Rattle.std.specs.Option.{option_map_or}
use Rattle.std.specs.Str.{bytes_eq}
use Rattle.std.specs.Str.Parse.{IsNumeral, digits_value, without_leading_plus}
use Rattle.clap.specs.Words.{IsAmong, Row, all_of, first_of, one_of}
use Rattle.clap.specs.declared.error.kind.ErrorKind.{ErrorKind}
use Rattle.clap.specs.declared.error.kind.ErrorKind.TheVariants as kind
use Rattle.ariadne_parse.specs.declared.unit.Unit.{Unit}
use Rattle.ariadne_parse.specs.declared.unit.Unit.TheVariants as unit
use Rattle.ariadne_parse.specs.declared.diagnostic.Severity.{Severity}
use Rattle.ariadne_parse.specs.declared.diagnostic.Severity.TheVariants as severity
use Rattle.ariadne_parse.specs.declared.telling.Format.{Format}
use Rattle.ariadne_parse.specs.declared.telling.Format.TheVariants as format
use Rattle.ariadne_show.specs.Faults.{TellsWords}
use Rattle.ariadne_show.specs.CommandWords.{Names, entries, refusals, ForNames}
use Rattle.ariadne_show.specs.declared.fault.Fault.{Fault}
use Rattle.ariadne_show.specs.declared.fault.Fault.TheVariants.{Words, Memory}
use Rattle.ariadne_show.specs.declared.options.Colors.{Colors}
use Rattle.ariadne_show.specs.declared.options.Colors.TheVariants as colors
use Rattle.ariadne_show.specs.declared.options.FailOn.{FailOn}
use Rattle.ariadne_show.specs.declared.options.FailOn.TheVariants as fail_on
use Rattle.ariadne_show.specs.declared.options.Input.{Input}
use Rattle.ariadne_show.specs.declared.options.Input.TheVariants as input
use Rattle.ariadne_show.specs.declared.options.Options.{Options}
use Rattle.ariadne_show.specs.declared.options.Output.{Output}
use Rattle.ariadne_show.specs.declared.options.Output.TheVariants as output
use Rattle.ariadne_show.specs.declared.options.Style.{Style}
use Rattle.ariadne_show.specs.declared.options.Width.{Width}
use Rattle.ariadne_show.specs.declared.options.Width.TheVariants as width
use Rattle.ariadne_show.specs.declared.pages.HelpPage.TheVariants.{Help, Version}
use Rattle.ariadne_show.specs.declared.words.Request.{Request}
use Rattle.ariadne_show.specs.declared.words.Request.TheVariants.{Show, Page}

-- ---- what an entry means

-- the value of an option, and whether one without a value was given
abbrev pub value : List Row → List ℕ → Option (List ℕ)
value rows name = first_of name rows

abbrev pub is : Option (List ℕ) → List ℕ → Bool
is given text = option_map_or (λ held. bytes_eq held text) given false

abbrev pub is_on : List Row → List ℕ → Bool
is_on rows name = is (value rows name) (codes "true")

abbrev pub format_of : Option (List ℕ) → Format
format_of name =
    if is name (codes "rustc") then format.Rustc else
    (if is name (codes "gcc") then format.Gcc else
    (if is name (codes "lines") then format.Lines else
    (if is name (codes "report") then format.Report else format.Auto)))

abbrev pub unit_of : Option (List ℕ) → Unit
unit_of name =
    if is name (codes "chars") then unit.Char else
    (if is name (codes "utf16") then unit.Utf16 else
    (if is name (codes "display") then unit.Display else unit.Byte))

abbrev pub is_zero : Option (List ℕ) → Bool
is_zero name = is name (codes "0")

abbrev pub colors_of : Option (List ℕ) → Colors
colors_of name =
    if is name (codes "always") then colors.Always else
    (if is name (codes "never") then colors.Never else colors.Auto)

abbrev pub floor_of : Option (List ℕ) → Severity
floor_of name =
    if is name (codes "error") then severity.Error else
    (if is name (codes "warning") then severity.Warning else severity.Note)

abbrev pub fail_on_of : Option (List ℕ) → FailOn
fail_on_of name =
    if is name (codes "warning") then fail_on.Warning else
    (if is name (codes "never") then fail_on.Never else fail_on.Error)

-- what `--output` says; and where that is not given, what `--short` does
abbrev pub output_named : List ℕ → Output
output_named name =
    if bytes_eq name (codes "short") then output.Short else
    (if bytes_eq name (codes "github") then output.Github else
    (if bytes_eq name (codes "sarif") then output.Sarif else output.Picture))

abbrev pub output_of : Option (List ℕ) → Bool → Output
output_of (Some name) is_short = output_named name
output_of None is_short = if is_short then output.Short else output.Picture

-- the number that a text says, if there is a text
abbrev pub IsNumber : List ℕ → Option ℕ → Type 0
IsNumber text (Some n) =
    IsNumeral 10 (without_leading_plus text) × (n ≡ digits_value 10 (without_leading_plus text))
IsNumber text None = IsNumeral 10 (without_leading_plus text)
    → digits_value 10 (without_leading_plus text) < 2 ^ 64 → ⊥

abbrev pub IsNumberIn : Option (List ℕ) → Option ℕ → Type 0
IsNumberIn None number = number ≡ None
IsNumberIn (Some text) number = IsNumber text number

-- the same, or 0 where none is said
abbrev pub IsCountIn : Option (List ℕ) → ℕ → Type 0
IsCountIn text count = (number : Option ℕ) × IsNumberIn text number × (count ≡ unwrap_or number 0)

-- the width that a text says, if it says one: `auto`, `full`, or a number
abbrev pub IsWidth : List ℕ → Option Width → Type 0
IsWidth text (Some width.Auto) = text ≡ codes "auto"
IsWidth text (Some width.Full) = text ≡ codes "full"
IsWidth text (Some (width.Columns n)) = IsNumber text (Some n)
IsWidth text None = (text ≢ codes "auto") × (text ≢ codes "full") × IsNumber text None

-- the same, or `auto` where there is no text
abbrev pub IsWidthIn : Option (List ℕ) → Option Width → Type 0
IsWidthIn None asked = asked ≡ Some width.Auto
IsWidthIn (Some text) asked = IsWidth text asked

-- ---- what the entries ask for

-- the style with so many context lines: whether there are colours is not decided yet, nor how wide lines
-- are
abbrev pub style_of : List Row → ℕ → Style
style_of rows context_lines = record {
  is_colored = false;
  is_ascii = is_on rows (codes "ascii");
  is_compact = is_on rows (codes "compact");
  context_lines = context_lines;
  width = 0;
}

pub record AreOptionsOf (rows : List Row) (options : Options) : Type 0 where
  pub format : options.reading.format ≡ format_of (value rows (codes "format"))
  pub unit : options.reading.counting.unit ≡ unit_of (value rows (codes "columns"))
  pub from_zero : options.reading.counting.is_from_zero ≡ is_zero (value rows (codes "first-column"))
  pub style : options.style ≡ style_of rows options.style.context_lines
  pub context : IsCountIn (one_of (codes "context") rows) options.style.context_lines
  pub colors : options.colors ≡ colors_of (value rows (codes "color"))
  pub output : options.output
      ≡ output_of (value rows (codes "output")) (is_on rows (codes "short"))
  pub raw : options.is_raw ≡ is_on rows (codes "raw")
  pub floor : options.floor ≡ floor_of (value rows (codes "severity"))
  pub limit : IsNumberIn (one_of (codes "max") rows) options.limit
  pub fail_on : options.fail_on ≡ fail_on_of (value rows (codes "fail-on"))
  pub base : option_map (λ folder. folder.now) options.base ≡ value rows (codes "base")
  pub tool : option_map (λ name. name.now) options.tool ≡ value rows (codes "tool")
  pub matcher : option_map (λ path. path.now) options.matcher ≡ value rows (codes "matcher")

-- the name of an input, if it is not standard input, which is named `-`
abbrev pub input_path : Input → Option (List ℕ)
input_path input.Standard = None
input_path (input.File path) = Some path.now

abbrev pub path_named : List ℕ → Option (List ℕ)
path_named name = if bytes_eq name (codes "-") then None else Some name

-- the inputs, in their order: standard input where none is named
abbrev pub paths_named : List (List ℕ) → List (Option (List ℕ))
paths_named [] = None ∷ []
paths_named (name ∷ names) = map path_named (name ∷ names)

abbrev pub AreInputsOf : List Row → List Input → Type 0
AreInputsOf rows inputs =
    map input_path inputs ≡ paths_named (unwrap_or (all_of (codes "file") rows) [])

-- ---- what the words ask for

-- the words ask for this
abbrev pub IsAskedOf : Names → List (List ℕ) → Request → Type 0
IsAskedOf names words (Show options inputs) = (refusals names words ≡ [])
    × AreOptionsOf (entries names words) options × AreInputsOf (entries names words) inputs.items
    × IsWidthIn (value (entries names words) (codes "width")) (Some options.width)
IsAskedOf names words (Page Help) = IsAmong kind.DisplayHelp (refusals names words)
IsAskedOf names words (Page Version) = IsAmong kind.DisplayVersion (refusals names words)

abbrev pub IsAskedBy : List (List ℕ) → Request → Type 0
IsAskedBy words asked = ForNames (λ names. IsAskedOf names words asked)

-- something is wrong with words: what `clap` says of them is more than that they ask for a page, or
-- their width is none
abbrev pub AreWrong : List (List ℕ) → Type 0
AreWrong words = ForNames (λ names. ((what : ErrorKind) × IsAmong what (refusals names words)
    × (what ≢ kind.DisplayHelp) × (what ≢ kind.DisplayVersion))
    ⊎ IsWidthIn (value (entries names words) (codes "width")) None)

-- why the words ask for nothing: they are wrong, which is told, or there was no memory
abbrev pub IsRefusedFor : List (List ℕ) → Fault → Type 0
IsRefusedFor words (Words text) = AreWrong words × TellsWords (Words text)
IsRefusedFor words (Memory refused) = ⊤
IsRefusedFor words _ = ⊥
