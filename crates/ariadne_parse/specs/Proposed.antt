-- What a tool proposes: changes of one file, in one or several ways, and which helps say the same in words.
use Rattle.std.specs.Prelude.{ℕ, if◌then◌else◌, Bool, true, false}
use Rattle.std.specs.Prelude.{List, [], ◌∷◌, ◌++◌, codes, map, string_bytes, Vec}
use Rattle.std.specs.Prelude.{Option, Some, None, is_some, option_and_then, option_map}
use Rattle.std.specs.List.{cons_option, fold, list_all}
use Rattle.std.specs.Str.{bytes_eq, trim_start}
use Rattle.std.specs.declared.alloc.Global.{Global}
use Rattle.serde_json.specs.Data.{Data, Items, no_items, item}
use Rattle.serde_json.specs.Find.{get}
use Rattle.ariadne_parse.specs.declared.unit.Unit.{Unit}
use Rattle.ariadne_parse.specs.declared.unit.Unit.TheVariants.{Byte, Char}
use Rattle.ariadne_parse.specs.Members.{all_items, gcc_location_at, items_in, list_at, span_value_end, span_value_start, text_at, words_at}
use Rattle.ariadne_parse.specs.Spans.{is_same_location}
use Rattle.ariadne_parse.specs.declared.diagnostic.Change.{Change}
use Rattle.ariadne_parse.specs.declared.diagnostic.Proposal.{Proposal}
use Rattle.ariadne_parse.specs.declared.diagnostic.Location.{Location}
use Rattle.ariadne_parse.specs.declared.proposals.FileChange.{FileChange}

-- ---- proposals

-- a change as it is read: where the piece begins, in front of what it ends, and the text that is put there
pub record Edit : Type 0 where
  pub start : Location
  pub end : Location
  pub put_in : List ℕ

abbrev pub edit_of : Change → Edit
edit_of change = record { start = change.start; end = change.end; put_in = string_bytes change.put_in }

-- a way: its changes
abbrev pub way_of : Vec Change Global → List Edit
way_of way = map edit_of way.items

-- a proposal as it is read: its helps are those from the first number to before the second
pub record Proposed : Type 0 where
  pub helps : ℕ × ℕ
  pub why : List ℕ
  pub file : List ℕ
  pub unit : Unit
  pub is_past_mark : Bool
  pub ways : List (List Edit)

abbrev pub proposed : Proposal → Proposed
proposed it = record {
  helps = (it.helps.start, it.helps.end);
  why = string_bytes it.why;
  file = string_bytes it.file;
  unit = it.unit;
  is_past_mark = it.is_past_mark;
  ways = map way_of it.ways.items;
}

-- ---- changes, each with the file that it is of

abbrev pub Filed : Type 0
Filed = List ℕ × Edit

abbrev pub filed : FileChange → Filed
filed change =
    (change.file.now, record { start = change.start; end = change.end; put_in = change.put_in.now })

-- the file of changes, if there are some, and all are of one
abbrev pub one_file : List Filed → Option (List ℕ)
one_file [] = None
one_file (first ∷ others) = if list_all (λ other. bytes_eq other.0 first.0) others then Some first.0 else None

-- the changes that items tell, of those that tell one
abbrev pub changes_by : (Data → Option Filed) → Items → List Filed
changes_by change no_items = []
changes_by change (item d items) = cons_option (change d) (changes_by change items)

-- ---- ways

-- a change begins another way: it is the first of all, or begins where that does
abbrev pub begins_behind : List Edit → Edit → Bool
begins_behind [] change = true
begins_behind (first ∷ others) change = is_same_location first.start change.start

abbrev pub begins_way : List (List Edit) → Edit → Bool
begins_way [] change = true
begins_way (way ∷ ways) change = begins_behind way change

-- the last way goes on with a change
abbrev pub gone_on : Edit → List (List Edit) → List (List Edit)
gone_on change [] = []
gone_on change (way ∷ []) = (way ++ change ∷ []) ∷ []
gone_on change (way ∷ next ∷ ways) = way ∷ gone_on change (next ∷ ways)

-- ways with a change more
abbrev pub with_edit : List (List Edit) → Edit → List (List Edit)
with_edit ways change = if begins_way ways change then ways ++ (change ∷ []) ∷ [] else gone_on change ways

-- the ways that changes are
abbrev pub ways_of : List Filed → List (List Edit)
ways_of changes = fold (λ ways change. with_edit ways change.1) [] changes

-- ---- rustc

-- a span that suggests a text tells the change of what it covers to that
abbrev pub rustc_change : Data → Option Filed
rustc_change d =
    option_map
    (λ text. (words_at (codes "file_name") d, record { start = span_value_start d; end = span_value_end d; put_in = text }))
    (text_at (codes "suggested_replacement") d)

abbrev pub rustc_changes : Data → List Filed
rustc_changes d = changes_by rustc_change (items_in (list_at (codes "spans") d))

-- what suggestions propose that these helps say, if they are all of one file: each is a way. The helps say why
abbrev pub rustc_proposed_by : ℕ × ℕ → List ℕ → List Filed → Option Proposed
rustc_proposed_by helps why changes =
    option_map
    (λ file. record {
      helps = helps;
      why = why;
      file = file;
      unit = Char;
      is_past_mark = false;
      ways = ways_of changes;
    })
    (one_file changes)

-- ---- gcc

-- a fix-it tells a change if it says where it begins and ends, and what to put there
abbrev pub gcc_change : Data → Option Filed
gcc_change d =
    option_and_then
    (λ file.
    option_and_then
    (λ start.
    option_and_then
    (λ end. option_map (λ text. (file, record { start = start; end = end; put_in = text })) (text_at (codes "string") d))
    (gcc_location_at (codes "next") d))
    (gcc_location_at (codes "start") d))
    (option_and_then (text_at (codes "file")) (get (codes "start") d))

-- what fix-its propose that these helps say, if each tells a change: all their changes, as one way. They say why
abbrev pub gcc_proposed_by : ℕ × ℕ → List ℕ → List Filed → Option Proposed
gcc_proposed_by helps why changes =
    option_map
    (λ file. record {
      helps = helps;
      why = why;
      file = file;
      unit = Byte;
      is_past_mark = true;
      ways = map (λ change. change.1) changes ∷ [];
    })
    (one_file changes)

abbrev pub gcc_proposed : ℕ × ℕ → List ℕ → Items → Option Proposed
gcc_proposed helps why fixits =
    if all_items (λ d. is_some (gcc_change d)) fixits
    then gcc_proposed_by helps why (changes_by gcc_change fixits)
    else None

abbrev pub fixits_of : Data → Items
fixits_of d = items_in (list_at (codes "fixits") d)

-- those of a note say why, as the note does
abbrev pub gcc_note_proposed : ℕ × ℕ → Data → Option Proposed
gcc_note_proposed helps d = gcc_proposed helps (trim_start (words_at (codes "message") d)) (fixits_of d)
