-- What a snippet quotes, and what its lines say: what its marks cover, below which of them labels stand,
-- and what is to be changed.
use Rattle.std.specs.Prelude.{Bool, false, ◌&&◌, ◌||◌, if◌then◌else◌, nat_lt, slice_get}
use Rattle.std.specs.Prelude.{ℕ, ◌+◌, ◌-◌, ◌^◌, ◌≡◌, ◌≢◌, true, ◌<◌, ◌≤◌, min, List, ◌∷◌, ◌++◌, [], All, chars, length, map}
use Rattle.std.specs.Prelude.{Option, Some, None, IsSomeAnd, is_some, option_and_then, option_map}
use Rattle.std.specs.List.{range_with_len, AllZip}
use Rattle.std.specs.Str.{trim}
use Rattle.ariadne_parse.specs.declared.unit.Unit.{Unit as ColumnUnit}
use Rattle.ariadne_parse.specs.declared.unit.Unit.TheVariants.{Char}
use Rattle.ariadne_snippets.specs.Ends.{IsEnd}
use Rattle.ariadne_snippets.specs.Gutters.{gutter_in, GutterIn}
use Rattle.ariadne_snippets.specs.Marks.{char_in, mark_runs, place_in, runs_from}
use Rattle.ariadne_snippets.specs.RowPieces.{GoesOn, IsIn}
use Rattle.ariadne_snippets.specs.Rows.{column_behind, run_with}
use Rattle.std.specs.Option.{option_or}
use Rattle.ariadne_snippets.specs.Words.{added_in, unfiled_in, words_in, noted, helped, advised, placed, placed_elsewhere, inserted, changed}
use Rattle.ariadne_snippets.specs.Words.{LineWords}
use Rattle.ariadne_snippets.specs.declared.snippet.Advice.{Advice}
use Rattle.ariadne_snippets.specs.declared.snippet.Advice.TheVariants.{Puts, Changes, Replaces}
use Rattle.ariadne_snippets.specs.Quotes.{Quotes}
use Rattle.ariadne_snippets.specs.Units.{in_units, unit_begins}
use Rattle.ariadne_snippets.specs.declared.units.Units.TheVariants.{Utf16}
use Rattle.ariadne_snippets.specs.declared.put.Insertion.{Insertion}
use Rattle.ariadne_snippets.specs.declared.quote.Quote.{Quote}
use Rattle.ariadne_snippets.specs.declared.quoted.Quoted.{Quoted}
use Rattle.ariadne_snippets.specs.declared.run.Run.{Run}
use Rattle.ariadne_snippets.specs.declared.rows.Part.{Part}
use Rattle.ariadne_snippets.specs.declared.rows.Piece.{Piece}
use Rattle.ariadne_snippets.specs.declared.snippet.Form.{Form}
use Rattle.ariadne_snippets.specs.declared.snippet.Form.TheVariants.{Unread, Framed}
use Rattle.ariadne_snippets.specs.declared.snippet.Snippet.{Snippet}
use Rattle.ariadne_snippets.specs.declared.snippet.Stage.TheVariants.{Ended, Rows}
use Rattle.ariadne_snippets.specs.declared.taken.Fix.{Fix}
use Rattle.ariadne_snippets.specs.declared.taken.FixKind.{FixKind}
use Rattle.ariadne_snippets.specs.declared.taken.FixKind.TheVariants.{Put, PutLine, Become, Remove}
use Rattle.ariadne_snippets.specs.declared.taken.Label.{Label}
use Rattle.ariadne_snippets.specs.declared.taken.Mark.{Mark}
use Rattle.ariadne_snippets.specs.declared.taken.Point.{Point}
use Rattle.ariadne_snippets.specs.declared.taken.Taken.{Taken}
use Rattle.ariadne_snippets.specs.declared.taken.Taken.TheVariants.{NotOfSnippet, Nothing, Ranges, Labels, Begun, Fixes, Note, Help, More, At, Elsewhere}

-- ---- quotes

-- a quote is that of a line in a text: as the text shows it, character by character, or in units of UTF-16
pub data IsQuoteOf (quote : Quote) (text line : List ℕ) : Type 0 where
  as_shown : quote.chars.items ≡ text → Quotes text line quote.begins.items → IsQuoteOf quote text line
  by_characters : (begins : List ℕ) → Quotes text line begins → quote.chars.items ≡ line
      → quote.begins.items ≡ range_with_len 0 (length line + 1) → IsQuoteOf quote text line
  by_units : (begins : List ℕ) → Quotes text line begins → quote.chars.items ≡ in_units Utf16 line
      → quote.begins.items ≡ unit_begins Utf16 0 line → IsQuoteOf quote text line

-- the same line is quoted
pub record IsSameLine (before after : Quoted) : Type 0 where
  pub number : after.number ≡ before.number
  pub quote : after.quote ≡ before.quote

-- what is quoted behind a line of output: what was, nothing, or a line of the file, by the end of it
pub data QuotesNext (line : List ℕ) (source : Option (List ℕ)) (before after : Option Quoted)
    : Type 0 where
  kept : after ≡ before → QuotesNext line source before after
  dropped : after ≡ None → QuotesNext line source before after
  same_line : (old new : Quoted) → before ≡ Some old → after ≡ Some new → IsSameLine old new
      → QuotesNext line source before after
  newly_quoted : (new : Quoted) (text file_line : List ℕ) → after ≡ Some new → IsEnd text line
      → source ≡ Some file_line → IsQuoteOf new.quote (chars text) file_line
      → QuotesNext line source before after

-- ---- marks

-- how long the line is that is quoted
abbrev pub line_length : Quoted → ℕ
line_length quoted = length quoted.quote.begins.items - 1

-- the character of it in a column
abbrev pub char_at : Quoted → ℕ → ℕ
char_at quoted column =
    char_in quoted.quote.begins.items (place_in quoted.unit column 0 quoted.quote.chars.items)

-- its point there
abbrev pub point_at : Quoted → ℕ → Point
point_at quoted column = record { line = quoted.number; offset = char_at quoted column }

-- the point behind the character in front of a column
abbrev pub point_behind : Quoted → ℕ → Point
point_behind quoted column = record { line = quoted.number; offset = char_at quoted (column - 1) + 1 }

-- what a mark covers, and where its first `^` stands
pub record Extent : Type 0 where
  pub start : Point
  pub end : Point
  pub caret : Option Point

abbrev pub extent_of : Mark → Extent
extent_of mark = record { start = mark.start; end = mark.end; caret = mark.caret }

-- the point at a `^`
abbrev pub caret_in : Quoted → Option ℕ → Option Point
caret_in quoted caret = option_map (point_at quoted) caret

-- what a run covers: from the character in its first column to that in its last
abbrev pub covered : Quoted → Run → Extent
covered quoted run = record {
  start = point_at quoted run.start;
  end = point_behind quoted run.end;
  caret = caret_in quoted run.caret;
}

-- a point stands in front of another
pub data IsBefore (point other : Point) : Type 0 where
  in_line : point.line ≡ other.line → point.offset < other.offset → IsBefore point other
  in_line_above : point.line < other.line → IsBefore point other

-- or is it
pub data IsUpTo (point other : Point) : Type 0 where
  itself : point ≡ other → IsUpTo point other
  in_front : IsBefore point other → IsUpTo point other

-- a mark is that of a run: it ends where the run does, and has its first `^`. It begins where the run does,
-- or further in front: where other marks are drawn over it, or a range over lines ends
pub record IsMarkOf (quoted : Quoted) (run : Run) (mark : Mark) : Type 0 where
  pub start : IsUpTo mark.start (point_at quoted run.start)
  pub end : mark.end ≡ point_behind quoted run.end
  pub caret : mark.caret ≡ caret_in quoted run.caret

-- a mark covers one character at least, and ends in the line that is quoted, or with what ends it
pub record Covers (quoted : Quoted) (mark : Mark) : Type 0 where
  pub some : IsBefore mark.start mark.end
  pub line : mark.end.line ≡ quoted.number
  pub bound : mark.end.offset ≤ line_length quoted + 1

-- a part of a row begins in the column behind what stands in front of it: each character there has one. The
-- row itself begins this many columns further right than it stands
pub record IsPartOf (moved : ℕ) (row : List ℕ) (part : Part) : Type 0 where
  pub front : List ℕ
  pub rest : List ℕ
  pub is_there : row ≡ front ++ part.marks.now ++ rest
  pub column : part.column ≡ column_behind Char moved front

-- the runs of parts
abbrev pub runs_of : ColumnUnit → List Part → List Run
runs_of unit [] = []
runs_of unit (part ∷ parts) = runs_from unit part.column part.marks.now ++ runs_of unit parts

-- the marks of a row, in parts between which texts may be written. Their runs are known from then on
pub record AreMarksIn (quoted : Quoted) (row : List ℕ) (marks : List Mark) : Type 0 where
  pub parts : List Part
  pub stand : All (IsPartOf quoted.moved row) parts
  pub runs : quoted.runs.items ≡ runs_of quoted.unit parts
  pub each : AllZip (IsMarkOf quoted) quoted.runs.items marks
  pub cover : All (Covers quoted) marks

-- ---- labels

-- a column is behind the first one of a run, and no other mark says that it is the run's own: a `^` does
abbrev pub has_caret_before : ℕ → Option ℕ → Bool
has_caret_before column None = false
has_caret_before column (Some caret) = nat_lt caret column

abbrev pub is_inside : Run → ℕ → Bool
is_inside run column = nat_lt run.start column && (run.is_dashed || has_caret_before column run.caret)

-- the point in a column of a mark, if a range of its own begins there
abbrev pub inner_of : Quoted → ℕ → Option Run → Option Point
inner_of quoted column None = None
inner_of quoted column (Some run) =
    if is_inside run column then Some (point_at quoted (min column (2 ^ 63 - 1))) else None

abbrev pub inner_at : Quoted → ℕ → ℕ → Option Point
inner_at quoted mark column = inner_of quoted column (slice_get quoted.runs.items mark)

-- a text of a row is the label of the first mark above its column, or of what begins there
pub record IsLabelIn (runs : List Run) (inner : ℕ → ℕ → Option Point) (row : List ℕ) (label : Label) : Type 0 where
  pub text : IsIn label.text.now row
  pub column : ℕ
  pub mark : run_with runs column ≡ Some label.mark
  pub inner_point : label.inner ≡ inner label.mark column

-- a mark below the line has this number
pub record IsMarked (quoted : Quoted) (mark : ℕ) : Type 0 where
  pub column : ℕ
  pub is_there : run_with quoted.runs.items column ≡ Some mark

-- ---- changes

-- where something is to be changed, how, and to what
pub record Change : Type 0 where
  pub at : Point
  pub kind : FixKind
  pub text : List ℕ

abbrev pub change_told : Fix → Change
change_told fix = record { at = fix.at; kind = fix.kind; text = fix.text.now }

-- what a run of `-` marks is to be removed
abbrev pub removal : Quoted → Run → Change
removal quoted run = record { at = point_at quoted run.start; kind = Remove; text = [] }

-- a text is to be put where it stands below a line
abbrev pub insertion : Quoted → Piece → Change
insertion quoted piece = record {
  at = point_at quoted (min piece.column (2 ^ 63 - 1));
  kind = Put;
  text = piece.text.now;
}

-- a line is to be changed as a whole
abbrev pub change_of_line : ℕ → FixKind → List ℕ → Change
change_of_line number kind text = record {
  at = record { line = number; offset = 0 };
  kind = kind;
  text = text;
}

-- a line of output tells how a line of the file is to be: in its words, as a line in place of one that goes, or
-- behind a help
pub data TellsHow (line : List ℕ) (number : ℕ) (text : List ℕ) : Type 0 where
  in_words : words_in line ≡ Some (changed number text) → TellsHow line number text
  in_place : words_in line ≡ Some (inserted number text) → TellsHow line number text
  behind_gutter : (gutter : GutterIn) → gutter_in line ≡ Some gutter → gutter.number ≡ Some number
      → gutter.text ≡ text → TellsHow line number text

-- a line of output tells a line that is to be put in: as one that is inserted, or as one that becomes it
pub data TellsLine (line : List ℕ) (number : ℕ) (text : List ℕ) : Type 0 where
  as_inserted : words_in line ≡ Some (inserted number text) → TellsLine line number text
  as_changed : words_in line ≡ Some (changed number text) → TellsLine line number text

-- the texts of a row
abbrev pub ArePiecesIn : List ℕ → List Piece → Type 0
ArePiecesIn row pieces = All (λ piece. IsIn piece.text.now row) pieces

-- what a row says is to be changed of the line that is quoted
pub data AreFixesIn (quoted : Quoted) (row : List ℕ) (fixes : List Fix) : Type 0 where
  removals : map change_told fixes ≡ map (removal quoted) (mark_runs quoted.unit row)
      → AreFixesIn quoted row fixes
  insertions : (pieces : List Piece) → ArePiecesIn row pieces
      → map change_told fixes ≡ map (insertion quoted) pieces → AreFixesIn quoted row fixes

-- a piece is to be put into a line
abbrev pub put_into : ℕ → Insertion → Change
put_into number piece = record {
  at = record { line = number; offset = piece.offset };
  kind = Put;
  text = piece.text.now;
}

-- a line is to be so by pieces that are put into it
pub record IsPutInto (number : ℕ) (text : List ℕ) (fixes : List Fix) : Type 0 where
  pub pieces : List Insertion
  pub are_there : All (λ piece. IsIn piece.text.now text) pieces
  pub told : map change_told fixes ≡ map (put_into number) pieces

-- and what a line of output does. Where a help puts in more than one line, each counts those above it
pub data AreFixesOf (quoted : Option Quoted) (line : List ℕ) (fixes : List Fix) : Type 0 where
  line_added : (number : ℕ) (text : List ℕ) → added_in line ≡ Some text
      → map change_told fixes ≡ change_of_line number PutLine (trim text) ∷ [] → AreFixesOf quoted line fixes
  line_inserted : (number above : ℕ) (text : List ℕ) → TellsLine line number text
      → map change_told fixes ≡ change_of_line (number - above) PutLine (trim text) ∷ []
      → AreFixesOf quoted line fixes
  line_changed_below : (number above : ℕ) (text : List ℕ) → words_in line ≡ Some (changed number text)
      → map change_told fixes ≡ change_of_line (number - above) Become (trim text) ∷ []
      → AreFixesOf quoted line fixes
  put_in_line : (number : ℕ) (text : List ℕ) → TellsHow line number text → IsPutInto number text fixes
      → AreFixesOf quoted line fixes
  line_put : (number : ℕ) (text : List ℕ) → TellsHow line number text
      → map change_told fixes ≡ change_of_line number PutLine (trim text) ∷ []
      → AreFixesOf quoted line fixes
  line_changed : (number : ℕ) (text : List ℕ) → TellsHow line number text
      → map change_told fixes ≡ change_of_line number Become (trim text) ∷ []
      → AreFixesOf quoted line fixes
  in_row : (row : List ℕ) → IsIn row line → IsSomeAnd quoted (λ q. AreFixesIn q row fixes)
      → AreFixesOf quoted line fixes

-- ---- what lines say

-- a line says a note: in its words, of a text that stands in no file, or as a detail below a place, without the
-- blanks in front of all details
pub data IsNote (line text : List ℕ) : Type 0 where
  note_in_words : words_in line ≡ Some (noted text) → IsNote line text
  of_unfiled : unfiled_in line ≡ Some text → IsNote line text
  detail : GoesOn line text → IsNote line text

pub data IsHelp (line text : List ℕ) : Type 0 where
  of_place : words_in line ≡ Some (helped text) → IsHelp line text
  of_lines : words_in line ≡ Some (advised text) → IsHelp line text

-- what a row below a quoted line says
abbrev pub RowTells : Quoted → List ℕ → Taken → Type 0
RowTells quoted row NotOfSnippet = Unit {0}
RowTells quoted row Nothing = Unit {0}
RowTells quoted row (Ranges marks) =
    (part : List ℕ) × IsIn part row × AreMarksIn quoted part marks.items
RowTells quoted row (Labels labels) = All (IsLabelIn quoted.runs.items (inner_at quoted) row) labels.items
RowTells quoted row (Begun mark start) = ⊥
RowTells quoted row (Fixes fixes) = AreFixesIn quoted row fixes.items
RowTells quoted row (Note text) = ⊥
RowTells quoted row (Help text) = ⊥
RowTells quoted row (More text) = ⊥
RowTells quoted row (At place) = ⊥
RowTells quoted row (Elsewhere place) = ⊥

-- what a line of output says, which may be a row behind a gutter
abbrev pub TellsOf : Option Quoted → List ℕ → Taken → Type 0
TellsOf quoted line NotOfSnippet = Unit {0}
TellsOf quoted line Nothing = Unit {0}
TellsOf quoted line (Ranges marks) =
    (part : List ℕ) × IsIn part line × IsSomeAnd quoted (λ q. AreMarksIn q part marks.items)
TellsOf quoted line (Labels labels) =
    (row : List ℕ) × IsIn row line
    × IsSomeAnd quoted (λ q. All (IsLabelIn q.runs.items (inner_at q) row) labels.items)
TellsOf quoted line (Begun mark start) = IsSomeAnd quoted (λ q. IsMarked q mark × (start.line < q.number))
TellsOf quoted line (Fixes fixes) = AreFixesOf quoted line fixes.items
TellsOf quoted line (Note text) = IsNote line text.now
TellsOf quoted line (Help text) = IsHelp line text.now
TellsOf quoted line (More text) = GoesOn line text.now
TellsOf quoted line (At place) = words_in line ≡ Some (placed place.now)
TellsOf quoted line (Elsewhere place) = words_in line ≡ Some (placed_elsewhere place.now)

-- ---- first rows

-- a row shows a line of the file whole: it is that line, or has it behind a gutter that names a number
pub data ShowsWhole (row : List ℕ) (source : Option (List ℕ)) : Type 0 where
  as_it_is : gutter_in row ≡ None → source ≡ Some (chars row) → ShowsWhole row source
  has_it : (gutter : GutterIn) → gutter_in row ≡ Some gutter → is_some gutter.number ≡ true
      → source ≡ Some (chars gutter.text) → ShowsWhole row source

-- a line is one of the snippet
abbrev pub IsTaken : Taken → Type 0
IsTaken taken = taken ≢ NotOfSnippet

-- ---- the state of a snippet

-- nothing of it was read yet
pub record IsUnread (number : ℕ) (character : Option ℕ) (snippet : Snippet) : Type 0 where
  pub line : snippet.line ≡ number
  pub caret : snippet.caret ≡ character
  pub form : snippet.form ≡ Unread
  pub stage : snippet.stage ≡ Rows
  pub quoted : snippet.quoted ≡ None

-- it has ended, and takes nothing any more
abbrev pub HasEnded : Snippet → Type 0
HasEnded snippet = snippet.stage ≡ Ended

-- it ends where a line is none of it
abbrev pub EndsBy : Snippet → Taken → Type 0
EndsBy snippet NotOfSnippet = HasEnded snippet
EndsBy snippet Nothing = Unit {0}
EndsBy snippet (Ranges marks) = Unit {0}
EndsBy snippet (Labels labels) = Unit {0}
EndsBy snippet (Begun mark start) = Unit {0}
EndsBy snippet (Fixes fixes) = Unit {0}
EndsBy snippet (Note text) = Unit {0}
EndsBy snippet (Help text) = Unit {0}
EndsBy snippet (More text) = Unit {0}
EndsBy snippet (At place) = Unit {0}
EndsBy snippet (Elsewhere place) = Unit {0}

-- the number that the gutter of a line of output names
abbrev pub number_named : List ℕ → Option ℕ
number_named line = option_and_then (λ gutter. gutter.number) (gutter_in line)

-- how many lines a help has put in so far
abbrev pub above : Advice → ℕ
above (Puts lines) = lines
above (Changes lines) = lines
above Replaces = 0

-- the number of the line of the file that words say how to change: that of the words counts these lines
abbrev pub number_changed : ℕ → Option LineWords → Option ℕ
number_changed lines (Some (changed number text)) = Some (number - lines)
number_changed lines _ = None

-- the number of the line that a line of output would quote where no gutter names one: the place's own, or that
-- of the line that is to be changed
abbrev pub number_by : Snippet → List ℕ → Form → Option ℕ
number_by snippet line Unread = Some snippet.line
number_by snippet line (Framed bar) = number_changed (above snippet.advice) (words_in line)
number_by snippet line _ = None

abbrev pub number_quoted : Snippet → List ℕ → Option ℕ
number_quoted snippet line = option_or (number_named line) (number_by snippet line snippet.form)
