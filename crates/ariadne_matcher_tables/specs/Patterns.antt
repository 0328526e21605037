-- The rows of an entry in TOML: patterns, how often they may fit, and what their groups catch, by their names.
use Rattle.std.specs.Prelude.{ℕ, ◌≡◌, ◌⊎◌, ◌-◌, ◌==◌, nat_lt, Bool, true, false, not, ◌&&◌, ◌||◌, if◌then◌else◌}
use Rattle.std.specs.Prelude.{List, [], ◌∷◌, codes, length, map, slice_index, take}
use Rattle.std.specs.Prelude.{Option, Some, None, is_some, option_and_then, option_map, string_bytes}
use Rattle.std.specs.List.{list_all, list_any, AllZip, Any, Contains}
use Rattle.std.specs.Option.{option_or}
use Rattle.std.specs.Str.{bytes_eq}
use Rattle.regex.specs.Names.{IsIndexOf}
use Rattle.regex.specs.Patterns.{default_config}
use Rattle.regex.specs.Strings.{regex_config, regex_names, regex_source, IsDefaultFailure, IsReadFromSource}
use Rattle.regex.specs.declared.string.regex.Regex.{Regex}
use Rattle.toml.specs.Data.{as_str, as_table, Data, Members, no_members, member}
use Rattle.ariadne_matcher_tables.specs.TableMembers.{is_among}
use Rattle.ariadne_matchers.specs.declared.entry.Groups.{Groups}
use Rattle.ariadne_matchers.specs.declared.entry.Often.{Often}
use Rattle.ariadne_matchers.specs.declared.entry.Often.TheVariants.{Once, Maybe, Many, Loop}
use Rattle.ariadne_matchers.specs.declared.entry.Row.{Row}
use Rattle.ariadne_matcher_tables.specs.declared.patterns.TheConstants.{NAMES}
use Rattle.ariadne_matcher_tables.specs.declared.refusal.Fault.{Fault}
use Rattle.ariadne_matcher_tables.specs.declared.refusal.Fault.TheVariants as wrong

-- ---- what is given

-- the only member of a table, if it is a text: its name, and the text
abbrev pub lone_in : Members → Option (List ℕ × List ℕ)
lone_in no_members = None
lone_in (member name value no_members) = option_map (λ text. (name, text)) (as_str value)
lone_in (member name value (member other more others)) = None

abbrev pub lone_member : Data → Option (List ℕ × List ℕ)
lone_member given = option_and_then lone_in (as_table given)

-- how often a row of this name fits
abbrev pub often_named : List ℕ → Option Often
often_named name =
    if bytes_eq name (codes "once") then Some Once else
    (if bytes_eq name (codes "maybe") then Some Maybe else
    (if bytes_eq name (codes "many") then Some Many else
    (if bytes_eq name (codes "loop") then Some Loop else None)))

abbrev pub row_named : List ℕ × List ℕ → Option (Often × List ℕ)
row_named named = option_map (λ often. (often, named.1)) (often_named named.0)

-- how often a row fits, and its pattern: once, where it is the pattern alone
unfoldable pub given_row : Data → Option (Often × List ℕ)
given_row given =
    option_or (option_map (λ text. (Once, text)) (as_str given)) (option_and_then row_named (lone_member given))

-- ---- a row

-- a pattern begins with `^`, and ends with `$`
abbrev pub is_whole : List ℕ → Bool
is_whole text = nat_lt 1 (length text) && slice_index text 0 == 94 && slice_index text (length text - 1) == 36

-- the names of groups
abbrev pub group_names : List (List ℕ)
group_names = map (λ it. it.now) NAMES

-- a group has no name, or one that says what it catches
abbrev pub is_known : Option (List ℕ) → Bool
is_known None = true
is_known (Some name) = is_among group_names name

-- a pattern is what its text reads as
pub record IsOfSource (text : List ℕ) (pattern : Regex) : Type 0 where
  pub source : regex_source pattern ≡ text
  pub config : regex_config pattern ≡ default_config
  pub read : IsReadFromSource pattern

-- groups are those of these names
pub record AreGroupsNamed (names : List (Option (List ℕ))) (groups : Groups) : Type 0 where
  pub file_is : IsIndexOf names (codes "file") groups.file
  pub line_is : IsIndexOf names (codes "line") groups.line
  pub column_is : IsIndexOf names (codes "column") groups.column
  pub end_line_is : IsIndexOf names (codes "endLine") groups.end_line
  pub end_column_is : IsIndexOf names (codes "endColumn") groups.end_column
  pub location_is : groups.location ≡ None
  pub severity_is : IsIndexOf names (codes "severity") groups.severity
  pub code_is : IsIndexOf names (codes "code") groups.code
  pub message_is : IsIndexOf names (codes "message") groups.message
  pub quoted_is : IsIndexOf names (codes "quoted") groups.quoted
  pub marks_is : IsIndexOf names (codes "marks") groups.marks

-- a row is what is given
pub record IsRowOf (given : Data) (row : Row) : Type 0 where
  pub text : List ℕ
  pub told : given_row given ≡ Some (row.often, text)
  pub whole : is_whole text ≡ true
  pub pattern_is : IsOfSource text row.pattern
  pub names_known : list_all is_known (regex_names row.pattern) ≡ true
  pub groups_are : AreGroupsNamed (regex_names row.pattern) row.groups

-- ---- all rows

-- a row is a loop, and another stands once
abbrev pub is_looped : Often → Bool
is_looped Once = false
is_looped Maybe = false
is_looped Many = false
is_looped Loop = true

abbrev pub is_once : Often → Bool
is_once Once = true
is_once Maybe = false
is_once Many = false
is_once Loop = false

-- the first row stands once, and no loop in front of the last
abbrev pub are_ordered : List Row → Bool
are_ordered [] = false
are_ordered (row ∷ others) =
    is_once row.often && not (list_any (λ other. is_looped other.often) (take (length others - 1) others))

-- a row takes a file, or a line
abbrev pub take_file : List Row → Bool
take_file rows = list_any (λ row. is_some row.groups.file) rows

abbrev pub takes_line_in : Groups → Bool
takes_line_in groups = is_some groups.line || is_some groups.location

abbrev pub take_line : List Row → Bool
take_line rows = list_any (λ row. takes_line_in row.groups) rows

-- rows stand in an order that they may have, and take a file and a line
pub record AreInOrder (rows : List Row) : Type 0 where
  pub ordered : are_ordered rows ≡ true
  pub file : take_file rows ≡ true
  pub line : take_line rows ≡ true

-- ---- what is wrong, by the fault that is told

-- a pattern's text is no regular expression
abbrev pub IsOfPattern : List ℕ → Fault → Type 0
IsOfPattern text (wrong.Memory error) = Unit {0}
IsOfPattern text (wrong.Pattern told error) = (string_bytes told ≡ text) × IsDefaultFailure text error
IsOfPattern text _ = ⊥

-- a group has a name that says nothing
abbrev pub IsOfGroups : List (Option (List ℕ)) → Fault → Type 0
IsOfGroups names (wrong.Memory error) = Unit {0}
IsOfGroups names (wrong.Group name) =
    Contains names (Some (string_bytes name)) × (is_known (Some (string_bytes name)) ≡ false)
IsOfGroups names _ = ⊥

-- a row is none, may fit a part of a line, is no regular expression, or has a group that says nothing
abbrev pub IsOfRow : Data → Fault → Type 0
IsOfRow given (wrong.Memory error) = Unit {0}
IsOfRow given wrong.Row = given_row given ≡ None
IsOfRow given (wrong.Part text) =
    (option_map (λ row. row.1) (given_row given) ≡ Some (string_bytes text)) × (is_whole (string_bytes text) ≡ false)
IsOfRow given (wrong.Pattern text error) =
    (option_map (λ row. row.1) (given_row given) ≡ Some (string_bytes text)) × IsDefaultFailure (string_bytes text) error
IsOfRow given (wrong.Group name) =
    (pattern : Regex) × (option_map (λ row. row.1) (given_row given) ≡ Some (regex_source pattern))
    × IsOfSource (regex_source pattern) pattern × IsOfGroups (regex_names pattern) (wrong.Group name)
IsOfRow given _ = ⊥

-- rows stand in another order, or take no file or no line
abbrev pub IsOfOrder : List Row → Fault → Type 0
IsOfOrder rows wrong.Order = are_ordered rows ≡ false
IsOfOrder rows wrong.NoFile = take_file rows ≡ false
IsOfOrder rows wrong.NoLine = take_line rows ≡ false
IsOfOrder rows _ = ⊥

-- one of the rows has the fault, or all have it together
abbrev pub AreOutOfOrder : List Data → Fault → Type 0
AreOutOfOrder given fault = (rows : List Row) × AllZip IsRowOf given rows × IsOfOrder rows fault

abbrev pub IsOfRows : List Data → Fault → Type 0
IsOfRows given fault = Any (λ row. IsOfRow row fault) given ⊎ AreOutOfOrder given fault
