-- A diagnostic that lines tell by a matcher, as a report of the program's own form: a value of JSON, whose members
-- stand in the order of their names. Its one label stands in the file that the tool named. Lines and columns count
-- from 1, and columns count characters.
use Rattle.std.specs.Prelude.{ℕ, ◌≡◌, ◌+◌, List, codes, length, string_bytes}
use Rattle.std.specs.Prelude.{Option, Some, None, option_map, String, IfSome}
use Rattle.std.specs.Option.{option_or}
use Rattle.std.specs.declared.alloc.Global.{Global}
use Rattle.serde_json.specs.Data.{Data, Members, array, item, no_items, no_members, number, object, put, string, unsigned}
use Rattle.ariadne_parse.specs.Columns.{line_of}
use Rattle.ariadne_matchers.specs.Catches.{Catch}
use Rattle.ariadne_matchers.specs.MatchedDiagnostics.{IsMatchedOf}
use Rattle.ariadne_matchers.specs.declared.entry.Entry.{Entry}
use Rattle.ariadne_matchers.specs.declared.entry.Severity.{Severity}
use Rattle.ariadne_matchers.specs.declared.entry.Severity.TheVariants as severity
use Rattle.ariadne_matchers.specs.declared.entry.Word.{Word}
use Rattle.ariadne_matchers.specs.declared.matched.End.{End}
use Rattle.ariadne_matchers.specs.declared.matched.Matched.{Matched}
use Rattle.ariadne_matchers.specs.declared.placed.Placed.{Placed}
use Rattle.ariadne_matching.specs.declared.matchers.Measured.{Measured}

-- ---- spots

-- a line and a column, or a line alone
abbrev pub spot_of : ℕ → Option ℕ → Data
spot_of line None = array (item (number (unsigned line)) no_items)
spot_of line (Some column) = array (item (number (unsigned line)) (item (number (unsigned column)) no_items))

-- the column behind a line of a text, if it has the line
abbrev pub column_behind : List ℕ → ℕ → Option ℕ
column_behind text line = option_map (λ it. length it + 1) (line_of text line)

-- the column in front of which a label ends: the one behind its last line, where none is told
abbrev pub end_column : List ℕ → End → Option ℕ
end_column text end = option_or end.column (column_behind text end.line)

-- ---- the label

abbrev pub with_end : List ℕ → Option End → Members → Members
with_end text None members = members
with_end text (Some end) members = put (codes "end") (spot_of end.line (end_column text end)) members

abbrev pub label_of : Matched → Placed → List ℕ → Data
label_of matched placed text =
    object (with_end text placed.end
    (put (codes "start") (spot_of placed.line placed.column)
    (put (codes "file") (string (string_bytes matched.file)) no_members)))

abbrev pub labels_of : Matched → Placed → List ℕ → Data
labels_of matched placed text = array (item (label_of matched placed text) no_items)

-- ---- the report

abbrev pub kind_word : Severity → List ℕ
kind_word severity.Error = codes "error"
kind_word severity.Warning = codes "warning"
kind_word severity.Note = codes "note"

abbrev pub with_code : Option (String Global) → Members → Members
with_code None members = members
with_code (Some code) members = put (codes "code") (string (string_bytes code)) members

abbrev pub report_of : Matched → Placed → List ℕ → Data
report_of matched placed text =
    object (with_code matched.code
    (put (codes "message") (string (string_bytes matched.message))
    (put (codes "labels") (labels_of matched placed text)
    (put (codes "kind") (string (kind_word matched.severity)) no_members))))

-- ---- what lines tell

-- what lines tell by an entry, of which this was caught: a diagnostic, in the entry's measure, if they name a place
pub record IsMeasuredBy (entry : Entry) (words : List Word) (caught : List Catch) (measured : Option Measured) : Type 0 where
  pub told : IsMatchedOf entry words caught (option_map (λ it. it.matched) measured)
  pub measure : IfSome measured (λ it. it.measure ≡ entry.measure)

-- nothing where there is no such entry
abbrev pub IsMeasuredOf : Option Entry → List Word → List Catch → Option Measured → Type 0
IsMeasuredOf None words caught measured = measured ≡ None
IsMeasuredOf (Some entry) words caught measured = IsMeasuredBy entry words caught measured
