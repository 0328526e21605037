-- A table of matchers in TOML: what stands there, the entries and words that it is, and what is wrong with it.
use Rattle.std.specs.Prelude.{ℕ, ◌≡◌, ◌⊎◌, ◌+◌, ◌++◌, Bool, true, List, [], ◌∷◌, codes, map, take}
use Rattle.std.specs.Prelude.{Option, Some, None, option_and_then, option_map, slice_get, unwrap_or, string_bytes, MatchOption}
use Rattle.std.specs.List.{AllZip, list_any, IsDistinct}
use Rattle.std.specs.Str.{bytes_eq}
use Rattle.toml.specs.Data.{get, string, integer, float, boolean, datetime, array, table, Data, Members}
use Rattle.toml.specs.Parse.{parse_document}
use Rattle.toml.specs.View.{items_of}
use Rattle.ariadne_matcher_tables.specs.EntryFaults.{IsOfMember, IsOfNames}
use Rattle.ariadne_matcher_tables.specs.TableMembers.{list_at, number_at, text_at, texts_at, texts_in, HasOnly}
use Rattle.ariadne_matcher_tables.specs.Options.{end_named, escapes_named, severity_named, stops_of, unit_named}
use Rattle.ariadne_matcher_tables.specs.TableRefusals.{called_by, IsOfText}
use Rattle.ariadne_matcher_tables.specs.Patterns.{AreInOrder, IsOfRows, IsRowOf}
use Rattle.ariadne_matcher_tables.specs.declared.entries.TheConstants.{MEMBERS, TABLE_MEMBERS, WORD_MEMBERS}
use Rattle.ariadne_matchers.specs.declared.entry.Entry.{Entry}
use Rattle.ariadne_matchers.specs.declared.entry.Row.{Row}
use Rattle.ariadne_matchers.specs.declared.entry.Severity.{Severity}
use Rattle.ariadne_matchers.specs.declared.entry.Severity.TheVariants.{Error, Warning, Note}
use Rattle.ariadne_matchers.specs.declared.entry.Word.{Word}
use Rattle.ariadne_matcher_tables.specs.declared.refusal.Fault.{Fault}
use Rattle.ariadne_matcher_tables.specs.declared.refusal.Fault.TheVariants as wrong
use Rattle.ariadne_matcher_tables.specs.declared.refusal.Refusal.{Refusal}
use Rattle.ariadne_matcher_tables.specs.declared.refusal.Refusal.TheVariants as refused
use Rattle.ariadne_matchers.specs.declared.table.Table.{Table}

-- ---- one entry

-- the members that it may have
abbrev pub entry_members : List (List ℕ)
entry_members = map (λ it. it.now) MEMBERS

-- the tools are one text, or the texts of a list
abbrev pub tools_in : Data → Option (List (List ℕ))
tools_in (string tool) = Some (tool ∷ [])
tools_in (integer _) = None
tools_in (float _) = None
tools_in (boolean _) = None
tools_in (datetime _) = None
tools_in (array items) = texts_in items
tools_in (table _) = None

-- an entry is what stands there, but for its rows. What is left out: columns count characters from 1, and an end is
-- the one behind the last; it is an error; rows of a message have a line feed between them
pub record IsSaidOf (given : Data) (entry : Entry) : Type 0 where
  pub name_is : Some (string_bytes entry.name) ≡ text_at (codes "name") given
  pub tools_are : Some (map string_bytes entry.tools.items) ≡ option_and_then tools_in (get (codes "tool") given)
  pub unit_is : Some entry.measure.unit ≡ unit_named (unwrap_or (text_at (codes "columns") given) (codes "characters"))
  pub tabs_are : entry.measure.tabs ≡ stops_of entry.measure.unit (number_at (codes "tabs") given)
  pub first_column_is : entry.first_column ≡ unwrap_or (number_at (codes "first-column") given) 1
  pub end_is : Some entry.ends_at_last ≡ end_named (unwrap_or (text_at (codes "end") given) (codes "behind"))
  pub severity_is : Some entry.severity ≡ severity_named (unwrap_or (text_at (codes "severity") given) (codes "error"))
  pub message_is : option_map string_bytes entry.message ≡ text_at (codes "message") given
  pub join_is : string_bytes entry.join ≡ unwrap_or (text_at (codes "join") given) (10 ∷ [])
  pub escapes_are : Some entry.is_escaped ≡ escapes_named (text_at (codes "escapes") given)

-- its rows are what stands there
pub record AreItsRows (given : Data) (rows : List Row) : Type 0 where
  pub values : List Data
  pub listed : list_at (codes "rows") given ≡ Some (items_of values)
  pub rows_are : AllZip IsRowOf values rows
  pub in_order : AreInOrder rows

pub record IsEntryOf (given : Data) (entry : Entry) : Type 0 where
  pub only : HasOnly entry_members given
  pub said : IsSaidOf given entry
  pub rows : AreItsRows given entry.rows.items

-- what is wrong with one: with the names of its members, with one of them, or with its rows
abbrev pub IsOfItsRows : Data → Fault → Type 0
IsOfItsRows given fault =
    (values : List Data) × (list_at (codes "rows") given ≡ Some (items_of values)) × IsOfRows values fault

abbrev pub IsOfEntryRows : Data → Fault → Type 0
IsOfEntryRows given fault = IsOfMember given fault ⊎ IsOfItsRows given fault

abbrev pub IsOfEntry : Data → Fault → Type 0
IsOfEntry given fault = IsOfNames entry_members given fault ⊎ IsOfEntryRows given fault

-- ---- all entries

-- an entry has this name
abbrev pub is_named_so : List ℕ → Entry → Bool
is_named_so name entry = bytes_eq (string_bytes entry.name) name

abbrev pub has_name : List Entry → List ℕ → Bool
has_name entries name = list_any (is_named_so name) entries

-- entries are those of a list, and each has a name of its own
pub record AreEach {D : Type 0} (Is : D → Entry → Type 0) (values : List D) (entries : List Entry) : Type 0 where
  pub are : AllZip Is values entries
  pub distinct : IsDistinct bytes_eq (map (λ entry. string_bytes entry.name) entries)

abbrev pub AreEntries : List Data → List Entry → Type 0
AreEntries = AreEach IsEntryOf

pub record AreEntriesOf (given : Data) (entries : List Entry) : Type 0 where
  pub values : List Data
  pub listed : list_at (codes "matcher") given ≡ Some (items_of values)
  pub entries_are : AreEntries values entries

-- the entry of a number is wrong
abbrev pub IsOfEntryAt : ℕ → Data → Refusal → Type 0
IsOfEntryAt number given (refused.Memory error) = Unit {0}
IsOfEntryAt number given (refused.Text line what) = ⊥
IsOfEntryAt number given (refused.Whole fault) = ⊥
IsOfEntryAt number given (refused.Entry name fault) =
    (string_bytes name ≡ called_by number (text_at (codes "name") given)) × IsOfEntry given fault

-- one in front has the name of an entry
abbrev pub IsSecond : List Entry → List ℕ → Refusal → Type 0
IsSecond front called (refused.Memory error) = Unit {0}
IsSecond front called (refused.Text line what) = ⊥
IsSecond front called (refused.Whole fault) = ⊥
IsSecond front called (refused.Entry name fault) =
    (string_bytes name ≡ called) × (fault ≡ wrong.Again) × (has_name front called ≡ true)

abbrev pub IsSecondOf : {D : Type 0} → (D → Entry → Type 0) → List Entry → D → Refusal → Type 0
IsSecondOf Is front given it = (entry : Entry) × Is given entry × IsSecond front (string_bytes entry.name) it

-- the first entry of a list that is refused: it is wrong, or has the name of one in front
pub record IsOfEach {D : Type 0} (Is : D → Entry → Type 0) (IsWrong : ℕ → D → Refusal → Type 0) (values : List D) (it : Refusal) : Type 0 where
  pub place : ℕ
  pub value : D
  pub there : slice_get values place ≡ Some value
  pub front : List Entry
  pub in_front : AreEach Is (take place values) front
  pub wrong : IsWrong (place + 1) value it ⊎ IsSecondOf Is front value it

abbrev pub IsOfEntries : List Data → Refusal → Type 0
IsOfEntries = IsOfEach IsEntryOf IsOfEntryAt

-- ---- the words

-- the members that they may be in
abbrev pub word_members : List (List ℕ)
word_members = map (λ it. it.now) WORD_MEMBERS

-- those for a severity
abbrev pub words_for : Severity → List ℕ → Data → List (List ℕ × Severity)
words_for severity member given = map (λ text. (text, severity)) (unwrap_or (texts_at member given) [])

-- those for each
abbrev pub words_in : Data → List (List ℕ × Severity)
words_in given =
    words_for Error (codes "error") given ++ (words_for Warning (codes "warning") given
    ++ words_for Note (codes "note") given)

-- none where there are none
abbrev pub words_at : Data → List (List ℕ × Severity)
words_at given = unwrap_or (option_map words_in (get (codes "severities") given)) []

abbrev pub word_told : Word → List ℕ × Severity
word_told word = (string_bytes word.text, word.severity)

-- what is wrong with them
abbrev pub IsOfWords : Data → Fault → Type 0
IsOfWords given fault = IsOfNames word_members given fault ⊎ IsOfMember given fault

abbrev pub IsOfItsWords : Data → Fault → Type 0
IsOfItsWords given fault = (words : Data) × (get (codes "severities") given ≡ Some words) × IsOfWords words fault

abbrev pub IsOfTableWords : Data → Fault → Type 0
IsOfTableWords given fault = IsOfMember given fault ⊎ IsOfItsWords given fault

-- ---- a table

-- the members that it may have
abbrev pub table_members : List (List ℕ)
table_members = map (λ it. it.now) TABLE_MEMBERS

-- a table is what stands there
pub record IsTableOfData (given : Data) (it : Table) : Type 0 where
  pub only : HasOnly table_members given
  pub words_are : map word_told it.words.items ≡ words_at given
  pub entries_are : AreEntriesOf given it.entries.items

-- a table is what a text in TOML is
pub record IsTableOf (text : List ℕ) (it : Table) : Type 0 where
  pub members : Members
  pub read : parse_document text ≡ Some members
  pub is_table : IsTableOfData (table members) it

-- what is wrong with one that no entry has
abbrev pub IsOfWhole : Data → Fault → Type 0
IsOfWhole given fault = IsOfNames table_members given fault ⊎ IsOfTableWords given fault

-- another by what is wrong with it, or with an entry
abbrev pub IsOfWholeTable : Data → Refusal → Type 0
IsOfWholeTable given (refused.Memory error) = Unit {0}
IsOfWholeTable given (refused.Text line what) = ⊥
IsOfWholeTable given (refused.Whole fault) = IsOfWhole given fault
IsOfWholeTable given (refused.Entry name fault) = ⊥

abbrev pub IsOfItsEntries : Data → Refusal → Type 0
IsOfItsEntries given it =
    (values : List Data) × (list_at (codes "matcher") given ≡ Some (items_of values)) × IsOfEntries values it

abbrev pub IsOfTable : Data → Refusal → Type 0
IsOfTable given it = IsOfWholeTable given it ⊎ IsOfItsEntries given it

abbrev pub IsRefusalOf : List ℕ → Refusal → Type 0
IsRefusalOf text it = MatchOption (parse_document text) (IsOfText text it) (λ members. IsOfTable (table members) it)
