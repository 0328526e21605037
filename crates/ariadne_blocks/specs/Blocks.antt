-- A diagnostic of lines of text, as far as its lines were read: its head, the rows of its tool's snippet, and
-- its notes with theirs. Each line is none of it, or is taken in, and then what it tells is told from then on.
-- Lines that may go on with its message are held behind it: they become part of the message where a row
-- follows that quotes a line, and else they turn out to be none of it.
use Rattle.std.specs.Prelude.{ℕ, ◌≡◌, ◌==◌, Bool, true, false, not, ◌&&◌, ◌||◌, if◌then◌else◌}
use Rattle.std.specs.Prelude.{List, [], ◌∷◌, ◌++◌, chars, codes, fold, length, map, reverse, slice_get}
use Rattle.std.specs.Prelude.{Option, None, Some, is_some, option_map, string_bytes}
use Rattle.std.specs.Str.{bytes_eq}
use Rattle.ariadne_parse.specs.declared.unit.Unit.{Unit as ColumnUnit}
use Rattle.ariadne_parse.specs.declared.unit.Unit.TheVariants.{Byte}
use Rattle.ariadne_snippets.specs.Snippets.{number_quoted, HasEnded, IsUnread, QuotesNext, TellsOf}
use Rattle.ariadne_snippets.specs.declared.snippet.Snippet.{Snippet}
use Rattle.ariadne_snippets.specs.declared.taken.Fix.{Fix}
use Rattle.ariadne_snippets.specs.declared.taken.FixKind.{FixKind}
use Rattle.ariadne_snippets.specs.declared.taken.Taken.{Taken}
use Rattle.ariadne_snippets.specs.declared.taken.Taken.TheVariants.{NotOfSnippet, Nothing, Ranges, Labels, Begun, Fixes, Note, Help, More, At, Elsewhere}
use Rattle.ariadne_parse.specs.Arrows.{arrow_in}
use Rattle.ariadne_parse.specs.ArrowsParsed.{span_of_arrow}
use Rattle.ariadne_parse.specs.FixRows.{fix_row_in, FixRow}
use Rattle.ariadne_parse.specs.Noted.{span_row}
use Rattle.ariadne_parse.specs.Spans.{seen, Seen}
use Rattle.ariadne_parse.specs.Proposed.{Edit, Proposed}
use Rattle.ariadne_parse.specs.declared.diagnostic.Diagnostic.{Diagnostic}
use Rattle.ariadne_parse.specs.declared.diagnostic.Span.{Span}
use Rattle.ariadne_blocks.specs.Uncolored.{IsBare}
use Rattle.ariadne_blocks.specs.Events.{event_in, frame, in_file, quoting, telling as telling_event}
use Rattle.ariadne_blocks.specs.Files.{File, file_at, line_at, quotes_escape, source_in}
use Rattle.ariadne_blocks.specs.FixChanges.{column_of, is_path_of, is_parsed_in, kind_of, parsed_change, unescaped}
use Rattle.ariadne_blocks.specs.HelpFixes.{change_unit, fix_help, fix_text}
use Rattle.ariadne_blocks.specs.GoingOn.{behind_head, may_go_on_in, row_in}
use Rattle.ariadne_blocks.specs.MarkMeanings.{Marking, with_begun, with_labels, with_marks}
use Rattle.ariadne_blocks.specs.Messages.{is_of_python, with_lines}
use Rattle.ariadne_blocks.specs.Notes.{are_lines_of, is_line_of, note_spans}
use Rattle.ariadne_blocks.specs.ProposedByRows.{edit_with, proposals_with, Way}
use Rattle.ariadne_blocks.specs.Telling.{Telling, telling}
use Rattle.ariadne_blocks.specs.declared.block.Aside.{Aside}
use Rattle.ariadne_blocks.specs.declared.block.Aside.TheVariants as aside
use Rattle.ariadne_blocks.specs.declared.block.Block.{Block}
use Rattle.ariadne_blocks.specs.declared.fix_rows.ParsedChange.{ParsedChange}
use Rattle.ariadne_blocks.specs.declared.goes_on.GoesOn.{GoesOn}
use Rattle.ariadne_blocks.specs.declared.goes_on.GoesOn.TheVariants.{Cut, Nowhere}
use Rattle.ariadne_blocks.specs.declared.line.Line.{Line}
use Rattle.ariadne_blocks.specs.declared.message.MessageLine.{MessageLine}

-- ---- a block

-- the diagnostic so far, and the bytes of the lines that may turn out to be none of it
abbrev pub parsed_of : Block → Diagnostic
parsed_of block = block.parsed

abbrev pub bytes_of : MessageLine → List ℕ
bytes_of line = line.bytes.items

abbrev pub lines_behind : Block → List (List ℕ)
lines_behind block = map bytes_of block.more.items

-- the path of the file that its next rows quote, and the span that a row named
abbrev pub path_of : Block → List ℕ
path_of block = string_bytes block.rows.path

abbrev pub named_by : Block → Option Span
named_by block = block.named

-- a line that is held: its bytes, and its text
pub record HeldLine : Type 0 where
  pub bytes : List ℕ
  pub text : List ℕ

abbrev pub held_of : MessageLine → HeldLine
held_of line = record { bytes = line.bytes.items; text = string_bytes line.text }

abbrev pub text_of : HeldLine → List ℕ
text_of line = line.text

-- a block as it is read
pub record View : Type 0 where
  -- what it tells
  pub parsed : Telling
  -- the path of the file that its rows quote, the number of the span that they are of, and those of the
  -- spans that the marks read last are of
  pub path : List ℕ
  pub at : ℕ
  pub marked : List ℕ
  -- the lines that are held behind it, and how its message may go on
  pub behind : List HeldLine
  pub goes_on : GoesOn
  -- which text was read last, and the span that a row named
  pub aside : Aside
  pub named : Option Seen
  -- the character of its line, from 0, that its head points at, if that names a column
  pub caret : Option ℕ
  -- what rows below the head or the note that was read last said how to change
  pub changes : List ParsedChange
  -- the number of the help from which on helps say what rows change, and why: what that help begins with
  pub since : ℕ
  pub why : List ℕ

abbrev pub view_of : Block → View
view_of block = record {
  parsed = telling block.parsed;
  path = string_bytes block.rows.path;
  at = block.rows.at;
  marked = block.rows.marked.items;
  behind = map held_of block.more.items;
  goes_on = block.goes_on;
  aside = block.aside;
  named = option_map seen block.named;
  caret = block.caret;
  changes = block.changes.items;
  since = block.since;
  why = string_bytes block.why;
}

-- ---- texts beside the message

-- a note or a help more
abbrev pub with_aside : Aside → List ℕ → Telling → Telling
with_aside aside.Note text parsed = record parsed { notes = parsed.notes ++ text ∷ [] }
with_aside aside.Help text parsed = record parsed { helps = parsed.helps ++ text ∷ [] }
with_aside aside.Change text parsed = record parsed { helps = parsed.helps ++ text ∷ [] }

-- what rows change is said from a help on, which says why
abbrev pub reason_behind : Aside → List ℕ → View → View
reason_behind aside.Note text view = view
reason_behind aside.Help text view = record view { since = length view.parsed.helps; why = text }
reason_behind aside.Change text view = record view { since = length view.parsed.helps; why = text }

abbrev pub with_text : Aside → List ℕ → View → View
with_text aside text view =
    record (reason_behind aside text view) { parsed = with_aside aside text view.parsed; aside = aside }

-- ---- its head and its notes

-- the file of the first of spans, if there is one
abbrev pub first_file : List Seen → List ℕ
first_file spans = file_at (slice_get spans 0)

-- and the line that it begins in
abbrev pub first_line : List Seen → ℕ
first_line spans = line_at (slice_get spans 0)

-- a block of which the head was read, which points at this character: it tells what the head tells, and holds
-- nothing behind it
abbrev pub begun : Telling → List ℕ → Option ℕ → View
begun parsed head caret = record {
  parsed = parsed;
  path = first_file parsed.spans;
  at = 0;
  marked = [];
  behind = [];
  goes_on = behind_head head (slice_get parsed.spans 0);
  aside = aside.Note;
  named = None;
  caret = caret;
  changes = [];
  since = length parsed.helps;
  why = [];
}

pub record IsBegun (parsed : Diagnostic) (head : List ℕ) (caret : Option ℕ) (block : Block) : Type 0 where
  pub tells : parsed_of block ≡ parsed
  pub awaits : IsUnread (first_line (telling parsed).spans) caret block.rows.snippet
  pub behind : lines_behind block ≡ []
  pub view : view_of block ≡ begun (telling parsed) head caret

-- more spans stand behind those of a diagnostic
abbrev pub with_spans : List Seen → Telling → Telling
with_spans spans parsed = record parsed { spans = parsed.spans ++ spans }

-- with a note, its spans stand behind the others, of which the first says what the note says. The next rows
-- are of that, at the character that the note points at
abbrev pub noted : Telling → View → View
noted note view = record view {
  parsed = with_spans (note_spans note.message note.spans) view.parsed;
  path = first_file note.spans;
  at = length view.parsed.spans;
  marked = [];
  goes_on = Nowhere;
  aside = aside.Note;
  changes = [];
  since = length view.parsed.helps;
  why = [];
}

-- a note has no span of its own: it names no column, in the line that a diagnostic begins in, or all the lines
-- that this goes over
abbrev pub is_beside_span : Option Seen → Option Seen → Bool
is_beside_span None other = false
is_beside_span (Some own) None = false
is_beside_span (Some own) (Some span) =
    bytes_eq own.file span.file && (is_line_of own span || are_lines_of own span)

abbrev pub is_beside : Diagnostic → Diagnostic → Bool
is_beside parsed note =
    is_beside_span (slice_get (map seen parsed.spans.items) 0) (slice_get (map seen note.spans.items) 0)

-- so a note is taken in at its spans, or as a text
pub data IsNoted (note : Diagnostic) (caret : Option ℕ) (before after : Block) : Type 0 where
  at_spans : is_beside (parsed_of before) note ≡ false
      → IsUnread (first_line (telling note).spans) caret after.rows.snippet
      → view_of after ≡ noted (telling note) (view_of before) → IsNoted note caret before after
  as_text : is_beside (parsed_of before) note ≡ true → after.rows ≡ before.rows
      → view_of after ≡ with_text aside.Note (telling note).message (record (view_of before) { goes_on = Nowhere })
      → IsNoted note caret before after

-- with a span that a line in front of it told
abbrev pub IsPlacedBy : Span → Block → Block → Type 0
IsPlacedBy span before after =
    view_of after ≡ record (view_of before) { parsed = with_spans (seen span ∷ []) (telling before.parsed) }

-- a note is about a diagnostic: those of Python's tools are about others of their line
abbrev pub is_about_span : Option Seen → Option Seen → Bool
is_about_span None other = false
is_about_span (Some own) None = false
is_about_span (Some own) (Some span) =
    not (is_of_python span.file) || (bytes_eq own.file span.file && own.start.line == span.start.line)

abbrev pub is_about : Diagnostic → Diagnostic → Bool
is_about parsed note =
    is_about_span (slice_get (map seen parsed.spans.items) 0) (slice_get (map seen note.spans.items) 0)

-- ---- lines that go on with the message

-- a text may go on with it: its first word had no room in the line that was read last, of a tool of Python's
abbrev pub may_go_on : List ℕ → View → Bool
may_go_on text view = may_go_on_in view.goes_on text

-- such a line stands last behind the block
abbrev pub with_more : List ℕ → List ℕ → View → View
with_more bytes text view = record view {
  behind = view.behind ++ record { bytes = bytes; text = text } ∷ [];
  goes_on = Cut (length (chars text));
}

-- a line was held so
pub record IsMore (bytes text : List ℕ) (before after : Block) : Type 0 where
  pub may : may_go_on text (view_of before) ≡ true
  pub awaits : IsUnread (first_line (telling before.parsed).spans) before.caret after.rows.snippet
  pub parsed : parsed_of after ≡ parsed_of before
  pub behind : lines_behind after ≡ lines_behind before ++ bytes ∷ []
  pub view : view_of after ≡ with_more bytes text (view_of before)

-- ---- rows

-- the lines behind go on with the message, and none is held any more
abbrev pub with_message : View → View
with_message view = record view {
  parsed = with_lines (map text_of view.behind) view.parsed;
  behind = [];
  goes_on = Nowhere;
}

-- the last of texts goes on with another, behind what stands between both
abbrev pub gone_on : List ℕ → List ℕ → List (List ℕ) → List (List ℕ)
gone_on between more [] = []
gone_on between more (text ∷ []) = (text ++ between ++ more) ∷ []
gone_on between more (text ∷ next ∷ texts) = text ∷ gone_on between more (next ∷ texts)

abbrev pub with_more_of : Aside → List ℕ → List ℕ → Telling → Telling
with_more_of aside.Note between more parsed = record parsed { notes = gone_on between more parsed.notes }
with_more_of aside.Help between more parsed = record parsed { helps = gone_on between more parsed.helps }
with_more_of aside.Change between more parsed = record parsed { helps = gone_on between more parsed.helps }

-- the text that was read last goes on with a line of its own
abbrev pub with_more_text : List ℕ → View → View
with_more_text line view = record view { parsed = with_more_of view.aside (codes "\n") line view.parsed }

-- what the tool says to change is a help, or is told behind the help that was read last, which then says why:
-- `help: change, and so on`, each change in a line of its own
abbrev pub with_change_by : Aside → List ℕ → View → View
with_change_by aside.Note change view = record view { parsed = with_aside aside.Help change view.parsed }
with_change_by aside.Help change view = record view {
  parsed = with_more_of aside.Help (codes ": ") change view.parsed;
  aside = aside.Change;
}
with_change_by aside.Change change view = record view {
  parsed = with_more_of aside.Change (codes ",\n") change view.parsed;
}

-- the columns of changes count what those of the diagnostic's own span do, or bytes
abbrev pub unit_of_changes : Option Seen → ColumnUnit
unit_of_changes None = Byte
unit_of_changes (Some span) = change_unit span.unit

abbrev pub with_fix : Option File → View → Fix → View
with_fix file view fix =
    with_change_by view.aside (fix_help file (unit_of_changes (slice_get view.parsed.spans 0)) fix)
    (record view { changes = view.changes ++ parsed_change fix ∷ [] })

abbrev pub with_changes : Option File → List Fix → View → View
with_changes file fixes view = fold (with_fix file) view fixes

-- what is to be changed below a note is told behind what the note says, which is why: a help begins so, unless one
-- has begun
abbrev pub with_why : List ℕ → View → View
with_why why view = if length why == 0 then view else with_text aside.Help why view

abbrev pub with_reason_at : Option Seen → View → View
with_reason_at None view = view
with_reason_at (Some span) view = with_why span.text view

abbrev pub with_reason_of_note : View → View
with_reason_of_note view =
    if view.at == 0 then view else with_reason_at (slice_get view.parsed.spans view.at) view

abbrev pub with_reason_by : Aside → View → View
with_reason_by aside.Note view = with_reason_of_note view
with_reason_by aside.Help view = view
with_reason_by aside.Change view = view

abbrev pub with_reason : View → View
with_reason view = with_reason_by view.aside view

abbrev pub with_fixes : Option File → List Fix → View → View
with_fixes file fixes view = with_changes file fixes (with_reason view)

-- so is what a row for programs changes, unless a row above told it
abbrev pub fix_row_help : FixRow → FixKind × List ℕ → List ℕ
fix_row_help row change = fix_text change.0 row.start.line (column_of row) change.1

abbrev pub with_help : List ℕ → View → View
with_help help view = with_change_by view.aside help view

abbrev pub with_help_of_row : FixRow → List ℕ → View → View
with_help_of_row row text view =
    let change = kind_of row text in
    if is_parsed_in view.changes row.start.line change.0 change.1 then view
    else with_help (fix_row_help row change) (with_reason view)

-- and it proposes the change
abbrev pub proposing : View → Way
proposing view = record {
  helps = (view.since, length view.parsed.helps);
  why = view.why;
  file = view.path;
  drawn = view.changes;
}

abbrev pub with_proposals : List Proposed → View → View
with_proposals proposals view = record view { parsed = record view.parsed { proposals = proposals } }

abbrev pub with_proposed : Edit → View → View
with_proposed edit view = with_proposals (proposals_with (proposing view) edit view.parsed.proposals) view

abbrev pub with_fix_row : FixRow → View → View
with_fix_row row view =
    let text = unescaped row.text in
    with_proposed (edit_with row text) (with_help_of_row row text view)

-- a row for programs tells a change in the file that the rows quote
abbrev pub fix_row_by : List ℕ → Option FixRow → Option FixRow
fix_row_by path None = None
fix_row_by path (Some row) = if is_path_of path (unescaped row.file) then Some row else None

abbrev pub fix_row_of : List ℕ → View → Option FixRow
fix_row_of text view = fix_row_by view.path (fix_row_in text)

-- a further row of the message
abbrev pub with_message_row : List ℕ → View → View
with_message_row row view = record view {
  parsed = record view.parsed { message = view.parsed.message ++ codes "\n" ++ row };
}

-- what marks and the texts below them tell
abbrev pub with_marking : Marking → View → View
with_marking marking view = record view {
  parsed = record view.parsed { spans = marking.spans };
  marked = marking.marked;
}

abbrev pub with_spans_now : List Seen → View → View
with_spans_now spans view = record view { parsed = record view.parsed { spans = spans } }

-- a block with what a row of this text tells, which was taken so and quotes a line or not
abbrev pub with_row : Option File → List ℕ → Bool → Taken → View → View
with_row file text is_quote NotOfSnippet view = view
with_row file text is_quote Nothing view = if is_quote then with_message view else view
with_row file text is_quote (Ranges marks) view =
    with_marking (with_marks file view.path view.at marks.items view.parsed.spans) view
with_row file text is_quote (Labels labels) view =
    with_spans_now (with_labels view.path view.marked labels.items view.parsed.spans) view
with_row file text is_quote (Begun mark start) view =
    with_spans_now (with_begun view.at view.marked mark start view.parsed.spans) view
with_row file text is_quote (Fixes fixes) view = with_fixes file fixes.items view
with_row file text is_quote (Note note) view = with_text aside.Note note.now view
with_row file text is_quote (Help help) view = with_text aside.Help help.now view
with_row file text is_quote (More line) view =
    with_more_text line.now view
with_row file text is_quote (At span) view =
    record view { named = option_map span_of_arrow (arrow_in text) }
with_row file text is_quote (Elsewhere span) view =
    record view { named = option_map span_of_arrow (arrow_in text) }

-- it is a row of the snippet
abbrev pub is_row : Taken → Bool
is_row NotOfSnippet = false
is_row Nothing = true
is_row (Ranges marks) = true
is_row (Labels labels) = true
is_row (Begun mark start) = true
is_row (Fixes fixes) = true
is_row (Note note) = true
is_row (Help help) = true
is_row (More line) = true
is_row (At span) = true
is_row (Elsewhere span) = true

-- a line has colours, and its text quotes a line with an escape
abbrev pub keeps_escapes : Option File → Line → Snippet → Bool
keeps_escapes file line snippet =
    not (bytes_eq line.whole.now line.text.now) && quotes_escape file snippet line.text.now

-- a text is that of a line as rows are read: without the colours of its tool, or where it quotes a line with an
-- escape, without gcc's own alone. A row of events is read as what stands behind its bar, or tells nothing
pub data IsTextOf (file : Option File) (line : Line) (snippet : Snippet) : List ℕ → Type 0 where
  without_colors : keeps_escapes file line snippet ≡ false
      → IsTextOf file line snippet line.text.now
  without_own : {text : List ℕ} → keeps_escapes file line snippet ≡ true
      → IsBare line.whole.now text → IsTextOf file line snippet text
  of_event : {text : List ℕ} → event_in line.text.now ≡ Some (quoting text) → IsTextOf file line snippet text
  of_frame : event_in line.text.now ≡ Some frame → IsTextOf file line snippet line.text.now

-- a text was taken so by the snippet: what it tells is told from then on, and nothing else changes
pub record IsTaken (file : Option File) (text : List ℕ) (before after : Block) (taken : Taken)
    : Type 0 where
  pub source : Option (List ℕ)
  pub of_file : source ≡ source_in file (number_quoted before.rows.snippet text)
  pub quotes : QuotesNext text source before.rows.snippet.quoted after.rows.snippet.quoted
  pub tells : TellsOf after.rows.snippet.quoted text taken
  pub view : view_of after ≡ with_row file text (is_some source) taken (view_of before)

-- it was taken as a row
pub record IsRowOf (file : Option File) (text : List ℕ) (before after : Block) : Type 0 where
  pub taken : Taken
  pub of_snippet : is_row taken ≡ true
  pub gained : IsTaken file text before after taken

-- a file as a span of which nothing is said: its first line
abbrev pub file_span : List ℕ → Seen
file_span path = span_of_arrow (path, record { line = 1; column = None }, true)

-- so was a line; or it names the file of the next rows of events, or tells an event that is at no span, which is a
-- note; or it is a further row of the message, or one for programs
pub data IsRow (file : Option File) (line : Line) (before after : Block) : Type 0 where
  of_snippet : {text : List ℕ} → IsTextOf file line before.rows.snippet text
      → IsRowOf file text before after → IsRow file line before after
  of_file : {path : List ℕ} → event_in line.text.now ≡ Some (in_file path)
      → view_of after ≡ record (view_of before) { named = Some (file_span path) }
      → IsRow file line before after
  of_no_span : {event : List ℕ} → event_in line.text.now ≡ Some (telling_event event)
      → view_of after ≡ with_text aside.Note event (view_of before) → IsRow file line before after
  of_message : {row : List ℕ} → row_in (view_of before).goes_on line.text.now ≡ Some row
      → view_of after ≡ with_message_row row (view_of before) → IsRow file line before after
  for_programs : {row : FixRow} → fix_row_of line.text.now (view_of before) ≡ Some row
      → view_of after ≡ with_fix_row row (view_of before) → IsRow file line before after

-- its snippet has ended: no line is a row of it any more
abbrev pub HasNoMoreRows : Block → Type 0
HasNoMoreRows block = HasEnded block.rows.snippet

-- a block tells what it told, and holds what it held
pub record IsSameBlock (before after : Block) : Type 0 where
  pub parsed : parsed_of after ≡ parsed_of before
  pub behind : lines_behind after ≡ lines_behind before
  pub view : view_of after ≡ view_of before

-- ---- spans that rows name

-- the span that a row named is handed out
pub record IsNamed (before after : Block) (span : Option Span) : Type 0 where
  pub given : span ≡ named_by before
  pub view : view_of after ≡ record (view_of before) { named = None }

-- the next rows quote the file of a span. The text that was read last is said of the span, if that is the
-- text's own, and the next marks are of it
abbrev pub texts_by : Aside → Telling → List (List ℕ)
texts_by aside.Note parsed = parsed.notes
texts_by aside.Help parsed = parsed.helps
texts_by aside.Change parsed = parsed.helps

abbrev pub texts_of : View → List (List ℕ)
texts_of view = texts_by view.aside view.parsed

abbrev pub with_texts : Aside → List (List ℕ) → Telling → Telling
with_texts aside.Note texts parsed = record parsed { notes = texts }
with_texts aside.Help texts parsed = record parsed { helps = texts }
with_texts aside.Change texts parsed = record parsed { helps = texts }

-- the last of them in front, and the others. What is to be changed from then on is a help of its own
abbrev pub with_said : Seen → View → List (List ℕ) → View
with_said span view [] = view
with_said span view (text ∷ texts) = record view {
  parsed = with_spans (record span { text = text; is_primary = false } ∷ [])
      (with_texts view.aside (reverse texts) view.parsed);
  at = length view.parsed.spans;
  aside = aside.Note;
}

abbrev pub with_own_span : Seen → View → View
with_own_span span view =
    if span.is_primary then with_said span view (reverse (texts_of view)) else view

-- a span that can't be shown is a row below the text that was read last, or a note
abbrev pub with_span_parsed : Seen → View → View
with_span_parsed span view =
    if span.is_primary
    then with_more_text (span_row span.file span.start []) view
    else with_text aside.Note (span_row span.file span.start []) view

abbrev pub IsSpanParsed : Span → Block → Block → Type 0
IsSpanParsed span before after = view_of after ≡ with_span_parsed (seen span) (view_of before)

abbrev pub IsQuotedBy : Span → Block → Block → Type 0
IsQuotedBy span before after =
    view_of after ≡ with_own_span (seen span) (record (view_of before) { path = string_bytes span.file })
