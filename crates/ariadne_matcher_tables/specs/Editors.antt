-- Problem matchers of VS Code in JSON: what stands there, the entries that they are, and what is wrong with them.
use Rattle.std.specs.Prelude.{ℕ, ◌≡◌, ◌⊎◌, ◌-◌, ◌≤◌, nat_lt, Bool, true, false, if◌then◌else◌, List, [], ◌∷◌}
use Rattle.std.specs.Prelude.{codes, map, Option, Some, None, is_some, option_and_then, option_map}
use Rattle.std.specs.Prelude.{unwrap_or, string_bytes}
use Rattle.std.specs.List.{list_any, AllZip, Any}
use Rattle.std.specs.Option.{option_or}
use Rattle.regex.specs.Strings.{group_count, regex_source}
use Rattle.regex.specs.declared.string.regex.Regex.{Regex}
use Rattle.serde_json.specs.Data.{Data, Items, no_items, item}
use Rattle.serde_json.specs.Find.{as_array, as_bool, as_number, as_str, as_u64, get}
use Rattle.serde_json.specs.Read.{read as read_text}
use Rattle.ariadne_matcher_tables.specs.Options.{editor_severity_named}
use Rattle.ariadne_matcher_tables.specs.Patterns.{AreInOrder, IsOfOrder, IsOfPattern, IsOfSource}
use Rattle.ariadne_matcher_tables.specs.TableRefusals.{called_by}
use Rattle.ariadne_matcher_tables.specs.MatcherTables.{AreEach, IsOfEach}
use Rattle.ariadne_matchers.specs.declared.entry.Entry.{Entry}
use Rattle.ariadne_matchers.specs.declared.entry.Groups.{Groups}
use Rattle.ariadne_matchers.specs.declared.entry.Often.{Often}
use Rattle.ariadne_matchers.specs.declared.entry.Often.TheVariants.{Once, Loop}
use Rattle.ariadne_matchers.specs.declared.entry.Row.{Row}
use Rattle.ariadne_matchers.specs.declared.measure.Unit.TheVariants.{Utf16}
use Rattle.ariadne_matcher_tables.specs.declared.refusal.Fault.{Fault}
use Rattle.ariadne_matcher_tables.specs.declared.refusal.Fault.TheVariants as wrong
use Rattle.ariadne_matcher_tables.specs.declared.refusal.Refusal.{Refusal}
use Rattle.ariadne_matcher_tables.specs.declared.refusal.Refusal.TheVariants as refused
use Rattle.ariadne_matcher_tables.specs.declared.refusal.Wanted.{Wanted}
use Rattle.ariadne_matcher_tables.specs.declared.refusal.Wanted.TheVariants as kind

-- ---- members

abbrev pub text_at : List ℕ → Data → Option (List ℕ)
text_at name given = option_and_then as_str (get name given)

abbrev pub number_in : Data → Option ℕ
number_in value = option_and_then as_u64 (as_number value)

abbrev pub truth_at : List ℕ → Data → Option Bool
truth_at name given = option_and_then as_bool (get name given)

-- the items of a list, or one value as a list
abbrev pub list_of : Items → List Data
list_of no_items = []
list_of (item value others) = value ∷ list_of others

abbrev pub listed : Data → List Data
listed value = unwrap_or (option_map list_of (as_array value)) (value ∷ [])

-- ---- one matcher

-- its name, or else its owner's
abbrev pub name_at : Data → Option (List ℕ)
name_at given = option_or (text_at (codes "name") given) (text_at (codes "owner") given)

-- a number of a group that a pattern has
abbrev pub group_in : ℕ → Data → Option ℕ
group_in groups value = option_and_then (λ number. if nat_lt number groups then Some number else None) (number_in value)

-- the group that a member names, if it is there
abbrev pub IsGroupAt : Regex → Data → List ℕ → Option ℕ → Type 0
IsGroupAt pattern given name group = option_map Some group ≡ option_map (group_in (group_count pattern)) (get name given)

-- groups are those of these numbers
pub record AreGroupsAt (pattern : Regex) (given : Data) (groups : Groups) : Type 0 where
  pub file_is : IsGroupAt pattern given (codes "file") groups.file
  pub line_is : IsGroupAt pattern given (codes "line") groups.line
  pub column_is : IsGroupAt pattern given (codes "column") groups.column
  pub end_line_is : IsGroupAt pattern given (codes "endLine") groups.end_line
  pub end_column_is : IsGroupAt pattern given (codes "endColumn") groups.end_column
  pub location_is : IsGroupAt pattern given (codes "location") groups.location
  pub severity_is : IsGroupAt pattern given (codes "severity") groups.severity
  pub code_is : IsGroupAt pattern given (codes "code") groups.code
  pub message_is : IsGroupAt pattern given (codes "message") groups.message
  pub quoted_is : groups.quoted ≡ None
  pub marks_is : groups.marks ≡ None

-- a row fits once, or each line that does tells a diagnostic
abbrev pub often_by : Option Bool → Often
often_by None = Once
often_by (Some false) = Once
often_by (Some true) = Loop

-- a row is what a pattern is
pub record IsRowAt (given : Data) (row : Row) : Type 0 where
  pub text : List ℕ
  pub told : text_at (codes "regexp") given ≡ Some text
  pub pattern_is : IsOfSource text row.pattern
  pub often_is : row.often ≡ often_by (truth_at (codes "loop") given)
  pub groups_are : AreGroupsAt row.pattern given row.groups

-- where no group is the message, all that fits the last row is
abbrev pub with_whole : Row → Row
with_whole row = record row { groups = record row.groups { message = Some 0 } }

abbrev pub whole_last : List Row → List Row
whole_last [] = []
whole_last (row ∷ []) = with_whole row ∷ []
whole_last (row ∷ other ∷ rows) = row ∷ whole_last (other ∷ rows)

abbrev pub say_message : List Row → Bool
say_message rows = list_any (λ row. is_some row.groups.message) rows

abbrev pub with_message : List Row → List Row
with_message rows = if say_message rows then rows else whole_last rows

-- the rows are those of a pattern, or of a list of them
pub record AreRowsAt (given : Data) (rows : List Row) : Type 0 where
  pub pattern : Data
  pub pattern_given : get (codes "pattern") given ≡ Some pattern
  pub own : List Row
  pub own_are : AllZip IsRowAt (listed pattern) own
  pub message_told : rows ≡ with_message own
  pub in_order : AreInOrder rows

-- an entry is what a problem matcher is, but for its rows. Columns are those of an editor
pub record IsSaidAt (given : Data) (entry : Entry) : Type 0 where
  pub name_is : string_bytes entry.name ≡ unwrap_or (name_at given) (codes "matcher")
  pub tools_are : map string_bytes entry.tools.items ≡ unwrap_or (name_at given) (codes "matcher") ∷ []
  pub unit_is : entry.measure.unit ≡ Utf16
  pub tabs_are : entry.measure.tabs ≡ 1
  pub first_column_is : entry.first_column ≡ 1
  pub end_is : entry.ends_at_last ≡ false
  pub severity_is : Some entry.severity ≡ editor_severity_named (unwrap_or (text_at (codes "severity") given) (codes "error"))
  pub message_is : entry.message ≡ None
  pub join_is : string_bytes entry.join ≡ 10 ∷ []
  pub escapes_are : entry.is_escaped ≡ false

pub record IsEntryAt (given : Data) (entry : Entry) : Type 0 where
  pub said : IsSaidAt given entry
  pub rows_are : AreRowsAt given entry.rows.items

-- ---- what is wrong with one, by the fault that is told

abbrev pub is_a : Wanted → Data → Bool
is_a kind.Text value = is_some (as_str value)
is_a kind.Number value = is_some (number_in value)
is_a kind.NumberFromOne value = false
is_a kind.List value = is_some (as_array value)
is_a kind.Texts value = false
is_a kind.Table value = false

-- a member is missing, of another kind, or no severity
abbrev pub IsOfMember : Data → Fault → Type 0
IsOfMember given (wrong.Memory error) = Unit {0}
IsOfMember given (wrong.Missing member) = get member.now given ≡ None
IsOfMember given (wrong.Kind member wanted) = option_map (is_a wanted) (get member.now given) ≡ Some false
IsOfMember given (wrong.Choice member word choices) =
    (text_at member.now given ≡ Some (string_bytes word)) × (editor_severity_named (string_bytes word) ≡ None)
IsOfMember given _ = ⊥

-- a member is no number, or that of a group that a pattern doesn't have
abbrev pub IsOfGroups : Regex → Data → Fault → Type 0
IsOfGroups pattern given (wrong.Kind member wanted) = option_map (is_a wanted) (get member.now given) ≡ Some false
IsOfGroups pattern given (wrong.NoGroup member number groups) =
    (option_and_then number_in (get member.now given) ≡ Some number) × (group_count pattern ≤ number)
    × (groups ≡ group_count pattern - 1)
IsOfGroups pattern given _ = ⊥

abbrev pub IsOfItsGroups : Data → Fault → Type 0
IsOfItsGroups given fault =
    (pattern : Regex) × (text_at (codes "regexp") given ≡ Some (regex_source pattern))
    × IsOfSource (regex_source pattern) pattern × IsOfGroups pattern given fault

-- a pattern's text is none that can be read
abbrev pub IsOfItsText : Data → Fault → Type 0
IsOfItsText given fault = (text : List ℕ) × (text_at (codes "regexp") given ≡ Some text) × IsOfPattern text fault

abbrev pub IsOfRow : Data → Fault → Type 0
IsOfRow given fault = IsOfMember given fault ⊎ (IsOfItsText given fault ⊎ IsOfItsGroups given fault)

-- one of the rows has the fault, or they have together
abbrev pub AreOutOfOrder : List Data → Fault → Type 0
AreOutOfOrder given fault = (own : List Row) × AllZip IsRowAt given own × IsOfOrder (with_message own) fault

abbrev pub IsOfRows : List Data → Fault → Type 0
IsOfRows given fault = Any (λ row. IsOfRow row fault) given ⊎ AreOutOfOrder given fault

abbrev pub IsOfItsRows : Data → Fault → Type 0
IsOfItsRows given fault =
    (pattern : Data) × (get (codes "pattern") given ≡ Some pattern) × IsOfRows (listed pattern) fault

-- one of its members is wrong, or its rows are
abbrev pub IsOfEntry : Data → Fault → Type 0
IsOfEntry given fault = IsOfMember given fault ⊎ IsOfItsRows given fault

-- ---- all of them

abbrev pub AreEntriesAt : List Data → List Entry → Type 0
AreEntriesAt = AreEach IsEntryAt

-- the entry of a number is wrong
abbrev pub IsOfEntryAt : ℕ → Data → Refusal → Type 0
IsOfEntryAt number given (refused.Memory error) = Unit {0}
IsOfEntryAt number given (refused.Text line what) = ⊥
IsOfEntryAt number given (refused.Whole fault) = ⊥
IsOfEntryAt number given (refused.Entry name fault) =
    (string_bytes name ≡ called_by number (name_at given)) × IsOfEntry given fault

abbrev pub IsOfEntries : List Data → Refusal → Type 0
IsOfEntries = IsOfEach IsEntryAt IsOfEntryAt

-- the matchers of a text: itself, or those that its member has
abbrev pub matchers_in : Data → List Data
matchers_in value = listed (unwrap_or (get (codes "problemMatcher") value) value)

pub record IsEditorTable (text : List ℕ) (entries : List Entry) : Type 0 where
  pub value : Data
  pub read : read_text text ≡ Some value
  pub entries_are : AreEntriesAt (matchers_in value) entries

-- a text is refused by a line of it if it is no JSON, and else for the first entry that is wrong
abbrev pub IsRefusalAt : List ℕ → Refusal → Type 0
IsRefusalAt text (refused.Memory error) = Unit {0}
IsRefusalAt text (refused.Text line what) = read_text text ≡ None
IsRefusalAt text (refused.Whole fault) = ⊥
IsRefusalAt text (refused.Entry name fault) =
    (value : Data) × (read_text text ≡ Some value) × IsOfEntries (matchers_in value) (refused.Entry name fault)
