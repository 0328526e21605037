-- What a run has shown: what has reached its output, step by step, by the lines that it has read. Each line is
-- shown once. It passes, or is dropped, or tells diagnostics that are whole; or it is the head of one whose
-- next lines may tell more, and then each of them that belongs to it goes to it, and it is written where the
-- first comes that does not, or at the end. Lines that may stand in front of a diagnostic wait for its head,
-- and then give it their spans, or pass.
use Rattle.std.specs.Prelude.{ℕ, ◌≡◌, Bool, true, false, ◌&&◌, List, [], ◌∷◌, ◌++◌, map}
use Rattle.std.specs.Prelude.{Option, Some, None, Vec, ⊤}
use Rattle.std.specs.Io.KnownBytes.{Appends, IsAtEnd}
use Rattle.std.specs.declared.alloc.Global.{Global}
use Rattle.serde_json.specs.Written.{compact_text}
use Rattle.ariadne_blocks.specs.Blocks.{is_about, lines_behind, parsed_of, IsBegun, IsNoted}
use Rattle.ariadne_blocks.specs.Blocks.{IsPlacedBy as IsSpanAdded}
use Rattle.ariadne_blocks.specs.Repeats.{once}
use Rattle.ariadne_blocks.specs.declared.block.Block.{Block}
use Rattle.ariadne_blocks.specs.declared.line.Line.{Line}
use Rattle.ariadne_outputs.specs.Sarif.{driver_of}
use Rattle.ariadne_outputs.specs.declared.sarif.TheConstants.{BEHIND, FRONT, SARIF_TAIL}
use Rattle.ariadne_search.specs.Folders.{entered_in, followed}
use Rattle.ariadne_search.specs.Make.{move_in}
use Rattle.ariadne_parse.specs.Spans.{seen}
use Rattle.ariadne_documents.specs.Documents.{begins, step_of, text_with, value_of}
use Rattle.ariadne_documents.specs.declared.document.Step.TheVariants.{Broken, Ended, GoesOn}
use Rattle.ariadne_parse.specs.ParsedDiagnostics.{reads_text}
use Rattle.ariadne_parse.specs.declared.diagnostic.Diagnostic.{Diagnostic}
use Rattle.ariadne_parse.specs.declared.diagnostic.Span.{Span}
use Rattle.ariadne_parse.specs.declared.sent.Sent.{Sent}
use Rattle.ariadne_parse.specs.declared.telling.Answer.{Answer}
use Rattle.ariadne_parse.specs.declared.telling.Answer.TheVariants as answer
use Rattle.ariadne_show.specs.Finding.{AreChangedFound, caret_at, is_held, IsHeldOpened, IsOpened, IsSpanSettled, IsUnheldOpened}
use Rattle.ariadne_show.specs.WaitingLines.{bytes_in, lines_of, passing_of}
use Rattle.ariadne_show.specs.Known.{is_note_of, AreMarksSettled, IsMoreInFront, IsNew, IsNoRowInFront, IsPlacedBy}
use Rattle.ariadne_show.specs.Known.{IsRowInFront, MayNotGoOn, SpansNone, Waits, WaitsNot}
use Rattle.ariadne_show.specs.Limits.{more_text}
use Rattle.ariadne_show.specs.InputLines.{IsLineOf, ReadsLine}
use Rattle.ariadne_documents.specs.Answers.{is_whole, reads_values, IsDocumentParsed, IsLineParsed}
use Rattle.ariadne_show.specs.Streams.{StreamBytes}
use Rattle.ariadne_show.specs.Sums.{line_end, sum_text}
use Rattle.ariadne_show.specs.DroppedTallies.{is_tally_behind}
use Rattle.ariadne_show.specs.Writing.{is_document, is_open, nothing_shown, out_of, HasPassed, HavePassed, IsShownOnce, Out}
use Rattle.ariadne_show.specs.declared.finder.Finder.{Finder}
use Rattle.ariadne_show.specs.declared.front.PlacedHead.{PlacedHead}
use Rattle.ariadne_show.specs.declared.front.Role.{Role}
use Rattle.ariadne_show.specs.declared.front.Role.TheVariants as role
use Rattle.ariadne_show.specs.declared.front.WaitingLine.{WaitingLine}
use Rattle.ariadne_show.specs.declared.known.Known.{Known}
use Rattle.ariadne_show.specs.declared.options.Options.{Options}
use Rattle.ariadne_show.specs.declared.options.Output.{Output}
use Rattle.ariadne_show.specs.declared.run.Run.{Run}
use Rattle.ariadne_show.specs.declared.showing.InputEnd.{InputEnd}
use Rattle.ariadne_show.specs.declared.showing.InputEnd.TheVariants.{AtEnd, Unread}
use Rattle.ariadne_show.specs.declared.showing.TheConstants.{VERSION}
use Rattle.ariadne_show.specs.declared.sum.Sum.{Sum}

-- what a run knows, and what it has shown
pub record At : Type 0 where
  pub known : Known
  pub out : Out

abbrev pub at_of : Run → StreamBytes → At
at_of run streams = record { known = run.known; out = out_of run.shown streams }

-- a run whose files were looked for
abbrev pub with_finder : At → Finder → At
with_finder at finder = record at { known = record at.known { finder = finder } }

-- ---- a diagnostic

-- one whose spans are settled was shown, over its files and those that it proposes to change
pub record IsSettledShown (options : Options) (parsed : Diagnostic) (first last : At) : Type 0 where
  pub found : Diagnostic
  pub changed : AreChangedFound parsed found first.known.finder last.known.finder
  pub once : IsShownOnce options last.known.finder.shelf found first.out last.out
  pub known : last.known ≡ record first.known { finder = last.known.finder }

-- ---- the end of a diagnostic of lines of text

-- one of which all lines were read was shown, and lines behind it passed
pub record IsReadWritten (options : Options) (read : Diagnostic) (lines : List (List ℕ)) (first last : At) : Type 0 where
  pub parsed : Diagnostic
  pub marked : Known
  pub settled : AreMarksSettled read parsed first.known marked
  pub shown : At
  pub once : IsSettledShown options parsed (record first { known = marked }) shown
  pub behind : HavePassed options lines shown.out last.out
  pub known : last.known ≡ shown.known

-- so was one that was held, and the lines passed that turned out to be none of it
abbrev pub IsBlockWritten : Options → Block → At → At → Type 0
IsBlockWritten options block first last = IsReadWritten options (parsed_of block) (lines_behind block) first last

-- a run that holds none
abbrev pub without_block : At → At
without_block at = record at { known = record at.known { block = None } }

-- the one in front was, if there is one
pub data IsBlockFinished (options : Options) (first last : At) : Type 0 where
  no_block : first.known.block ≡ None → last ≡ first → IsBlockFinished options first last
  block_written : (block : Block) → first.known.block ≡ Some block
      → IsBlockWritten options block (without_block first) last → IsBlockFinished options first last

-- and then the lines that waited behind it passed
pub record IsFinished (options : Options) (first last : At) : Type 0 where
  pub ended : At
  pub block : IsBlockFinished options first ended
  pub front : HavePassed options (passing_of ended.known.front.items) ended.out last.out
  pub none : last.known.front.items ≡ []
  pub known : last.known ≡ record ended.known { front = last.known.front }

-- a line passed behind all that
pub record IsLinePassed (options : Options) (line : List ℕ) (first last : At) : Type 0 where
  pub finished : At
  pub before : IsFinished options first finished
  pub line_passed : HasPassed options line finished.out last.out
  pub known : last.known ≡ finished.known

-- ---- diagnostics that are whole

-- one has no spans that repeat others any more
pub record HasNoRepeats (parsed single : Diagnostic) : Type 0 where
  pub spans : map seen single.spans.items ≡ once (map seen parsed.spans.items)
  pub others : single ≡ record parsed { spans = single.spans }

-- one was shown over its files
pub record IsWholeShown (options : Options) (parsed : Diagnostic) (first last : At) : Type 0 where
  pub opened : Diagnostic
  pub finder : Finder
  pub files : IsOpened parsed opened first.known.finder finder
  pub single : Diagnostic
  pub repeats : HasNoRepeats opened single
  pub shown : IsSettledShown options single (with_finder first finder) last

-- each was, in their order
pub data AreShown (options : Options) : List Diagnostic → At → At → Type 0 where
  none_shown : {a : At} → AreShown options [] a a
  one_shown_more : {all : List Diagnostic} {a b c : At} → AreShown options all a b
      → (parsed : Diagnostic) → IsWholeShown options parsed b c → AreShown options (all ++ parsed ∷ []) a c

-- behind what was held
pub record AreAllShown (options : Options) (all : List Diagnostic) (first last : At) : Type 0 where
  pub finished : At
  pub before : IsFinished options first finished
  pub whole : AreShown options all finished last

-- ---- lines that waited, and a diagnostic behind them

-- what they are given to, and what was shown meanwhile
pub record Giving : Type 0 where
  pub finder : Finder
  pub block : Block
  pub out : Out

-- a line tells no span
abbrev pub tells_span : Role → Bool
tells_span (role.Span span) = true
tells_span (role.Head head) = false
tells_span role.Scope = false

-- the span of a line goes to the diagnostic, if its file can be read; else the line passed
pub data IsSpanGone (options : Options) (lines : List (List ℕ)) (span : Span) (first last : Giving) : Type 0 where
  gave_span : (settled : Span) → IsSpanSettled span settled first.finder last.finder
      → is_held last.finder settled ≡ true → IsSpanAdded settled first.block last.block
      → last.out ≡ first.out → IsSpanGone options lines span first last
  passed_unread : (settled : Span) → IsSpanSettled span settled first.finder last.finder
      → is_held last.finder settled ≡ false → HavePassed options lines first.out last.out
      → last.block ≡ first.block → IsSpanGone options lines span first last

-- a line gave its span so, or tells none and passed
pub data HasLineGone (options : Options) (line : WaitingLine) (first last : Giving) : Type 0 where
  told_span : (span : Span) → line.role ≡ role.Span span
      → IsSpanGone options (lines_of line) span first last → HasLineGone options line first last
  passed_placeless : tells_span line.role ≡ false → HavePassed options (lines_of line) first.out last.out
      → last.finder ≡ first.finder → last.block ≡ first.block → HasLineGone options line first last

-- so did all that waited, in their order
pub data AreGiven (options : Options) : List WaitingLine → Giving → Giving → Type 0 where
  none_given : {a : Giving} → AreGiven options [] a a
  one_given_more : {lines : List WaitingLine} {a b c : Giving} → AreGiven options lines a b
      → (line : WaitingLine) → HasLineGone options line b c → AreGiven options (lines ++ line ∷ []) a c

-- a run that gives them to a diagnostic
abbrev pub giving : At → Block → Giving
giving at block = record { finder = at.known.finder; block = block; out = at.out }

-- and then no line waits
pub record IsFrontGiven (options : Options) (first : At) (block : Block) (last : At) (given : Block) : Type 0 where
  pub lines : AreGiven options first.known.front.items (giving first block) (giving last given)
  pub none : last.known.front.items ≡ []
  pub known : last.known
      ≡ record first.known { finder = last.known.finder; front = last.known.front }

-- a run that holds a diagnostic
abbrev pub with_block : At → Block → At
with_block at block = record at { known = record at.known { block = Some block } }

-- one is held, behind the one that was in front, and has the spans of the lines that waited
pub record IsBegunBehind (options : Options) (head : List ℕ) (parsed : Diagnostic) (first last : At)
    : Type 0 where
  pub finished : At
  pub before : IsBlockFinished options first finished
  pub begun : Block
  pub head_parsed : IsBegun parsed head (caret_at finished.known.finder parsed) begun
  pub given : At
  pub block : Block
  pub front : IsFrontGiven options finished begun given block
  pub held : last ≡ with_block given block

-- a note was given to a diagnostic, behind the spans of the lines that waited
pub record IsNoteGiven (options : Options) (note : Diagnostic) (first : At) (before : Block) (given : At) (noted : Block)
    : Type 0 where
  pub block : Block
  pub front : IsFrontGiven options first before given block
  pub note_taken : IsNoted note (caret_at given.known.finder note) block noted

-- and that is held
pub record IsNoteAddedTo (options : Options) (before : Block) (note : Diagnostic) (first last : At) : Type 0 where
  pub given : At
  pub noted : Block
  pub note_given : IsNoteGiven options note first before given noted
  pub held : last ≡ with_block given noted

-- ---- heads and notes

-- a head begins a diagnostic where its file can be read; else its line passed
pub data IsHeadShown (options : Options) (line : Line) (parsed : Diagnostic) (first last : At) : Type 0 where
  began : (opened : Diagnostic) (finder : Finder) → IsHeldOpened parsed first.known.finder finder opened
      → IsBegunBehind options line.text.now opened (with_finder first finder) last
      → IsHeadShown options line parsed first last
  head_passed : (finder : Finder) → IsUnheldOpened parsed first.known.finder finder
      → IsLinePassed options line.bytes.now (with_finder first finder) last
      → IsHeadShown options line parsed first last

-- lines passed behind what was held, and a line behind them
pub record HaveBothPassed (options : Options) (lines : List (List ℕ)) (line : List ℕ) (first last : At) : Type 0 where
  pub finished : At
  pub before : IsFinished options first finished
  pub between : Out
  pub lines_passed : HavePassed options lines finished.out between
  pub line_passed : HasPassed options line between last.out
  pub known : last.known ≡ finished.known

-- so does one that waited, at the span that a line names; else its lines passed, and that line
pub data IsPlacedShown (options : Options) (line : Line) (head : PlacedHead) (first last : At) : Type 0 where
  began_placed : (opened : Diagnostic) (finder : Finder) → IsHeldOpened head.parsed first.known.finder finder opened
      → IsBegunBehind options line.text.now opened (with_finder first finder) last
      → IsPlacedShown options line head first last
  all_passed : (finder : Finder) → IsUnheldOpened head.parsed first.known.finder finder
      → HaveBothPassed options (bytes_in head.lines.items) line.bytes.now (with_finder first finder) last
      → IsPlacedShown options line head first last

-- a note was given to the diagnostic in front that it is about, or began one of its own
pub data IsHeldNoteShown (options : Options) (line : Line) (note : Diagnostic) (first last : At) : Type 0 where
  note_added : (block : Block) → first.known.block ≡ Some block → is_about (parsed_of block) note ≡ true
      → IsNoteAddedTo options block note (without_block first) last → IsHeldNoteShown options line note first last
  note_began : is_note_of note first.known ≡ false → IsBegunBehind options line.text.now note first last
      → IsHeldNoteShown options line note first last

-- it was, where its file can be read; else its line passed
pub data IsNoteShown (options : Options) (line : Line) (note : Diagnostic) (first last : At) : Type 0 where
  note_shown : (opened : Diagnostic) (finder : Finder) → IsHeldOpened note first.known.finder finder opened
      → IsHeldNoteShown options line opened (with_finder first finder) last → IsNoteShown options line note first last
  note_passed : (finder : Finder) → IsUnheldOpened note first.known.finder finder
      → IsLinePassed options line.bytes.now (with_finder first finder) last
      → IsNoteShown options line note first last

-- ---- other lines of text

-- a run that makes its way through folders as a line says
pub record IsFollowed (text : List ℕ) (first last : At) : Type 0 where
  pub entered : entered_in last.known.finder.folders
      ≡ followed (move_in text) (entered_in first.known.finder.folders)
  pub others : last ≡ with_finder first
      (record first.known.finder { folders = last.known.finder.folders })

-- a line that belongs to no diagnostic is a sum of its tool's own behind one, and is dropped, or passed
pub data IsOtherShown (options : Options) (line : Line) (first last : At) : Type 0 where
  tally : is_tally_behind line.text.now first.known first.out.shown ≡ true → IsFinished options first last
      → IsOtherShown options line first last
  passed : (finished followed : At) → is_tally_behind line.text.now first.known first.out.shown ≡ false
      → IsFinished options first finished → IsFollowed line.text.now finished followed
      → HasPassed options line.bytes.now followed.out last.out → last.known ≡ followed.known
      → IsOtherShown options line first last

-- a line of text that names no kind beside a span names the span of a head that waits, waits itself, goes on
-- with a message, or is another
pub data IsTextShown (options : Options) (line : Line) (first last : At) : Type 0 where
  names_span : (known : Known) (head : PlacedHead) → IsPlacedBy line.text.now first.known known head
      → IsPlacedShown options line head (record first { known = known }) last
      → IsTextShown options line first last
  waits_in_front : SpansNone line.text.now first.known first.known
      → Waits line first.known last.known → last.out ≡ first.out
      → IsTextShown options line first last
  goes_on : SpansNone line.text.now first.known first.known
      → WaitsNot line first.known first.known
      → IsMoreInFront line first.known last.known → last.out ≡ first.out
      → IsTextShown options line first last
  other : SpansNone line.text.now first.known first.known
      → WaitsNot line first.known first.known → MayNotGoOn line first.known
      → IsOtherShown options line first last → IsTextShown options line first last

-- ---- lines

-- a line that is no row of a snippet was shown by what it tells
pub data IsAnswered (options : Options) (line : Line) (first last : At) : Answer → Type 0 where
  of_text : reads_text options.reading.format ≡ true → IsTextShown options line first last
      → IsAnswered options line first last answer.Nothing
  of_no_form : reads_text options.reading.format ≡ false → IsLinePassed options line.bytes.now first last
      → IsAnswered options line first last answer.Nothing
  dropped : IsFinished options first last → IsAnswered options line first last answer.Dropped
  whole : (all : Vec Diagnostic Global) → AreAllShown options all.items first last
      → IsAnswered options line first last (answer.Diagnostics all)
  head : (parsed : Diagnostic) → IsHeadShown options line parsed first last
      → IsAnswered options line first last (answer.Head parsed)
  note : (parsed : Diagnostic) → IsNoteShown options line parsed first last
      → IsAnswered options line first last (answer.Note parsed)

-- a line was taken in as a row of the snippet of the diagnostic in front, or was shown by what it tells
pub data IsReadShown (options : Options) (line : Line) (first last : At) : Type 0 where
  row : IsRowInFront line first.known last.known → last.out ≡ first.out
      → IsReadShown options line first last
  no_row : (tried parsed_by : Known) (answer : Answer) → IsNoRowInFront first.known tried
      → IsLineParsed options.reading line.text.now tried.sent parsed_by.sent answer
      → parsed_by ≡ record tried { sent = parsed_by.sent }
      → IsAnswered options line (record first { known = parsed_by }) last answer
      → IsReadShown options line first last

-- so was one of these bytes
pub record IsLineShown (options : Options) (bytes : List ℕ) (first last : At) : Type 0 where
  pub line : Line
  pub read : IsLineOf bytes line
  pub shown : IsReadShown options line first last

-- lines were read, and each was shown, in their order
pub data AreLinesShown (options : Options) : Option (List ℕ) → Option (List ℕ) → At → At → Type 0 where
  no_line : {i : Option (List ℕ)} {a : At} → AreLinesShown options i i a a
  one_line_more : {i j k : Option (List ℕ)} {a b c : At} → AreLinesShown options i j a b
      → (bytes : List ℕ) → ReadsLine j k bytes → IsLineShown options bytes b c
      → AreLinesShown options i k a c

-- ---- documents of JSON over many lines

-- bytes were shown as the lines that they are
pub record AreBytesShown (options : Options) (bytes : List ℕ) (first last : At) : Type 0 where
  pub rest : Option (List ℕ)
  pub lines : AreLinesShown options (Some bytes) rest first last
  pub ended : IsAtEnd rest

-- a run that holds these messages of cargo's
abbrev pub with_sent : At → Sent → At
with_sent at sent = record at { known = record at.known { sent = sent } }

-- a document was shown by its diagnostics, or is dropped; else its lines were shown
pub data IsDocumentShown (options : Options) (bytes : List ℕ) (first last : At) : Type 0 where
  told_diagnostics : (sent : Sent) (all : Vec Diagnostic Global)
      → IsDocumentParsed options.reading.format (value_of bytes) first.known.sent sent (answer.Diagnostics all)
      → AreAllShown options all.items (with_sent first sent) last → IsDocumentShown options bytes first last
  told_dropped : (sent : Sent)
      → IsDocumentParsed options.reading.format (value_of bytes) first.known.sent sent answer.Dropped
      → IsFinished options (with_sent first sent) last → IsDocumentShown options bytes first last
  told_none : (sent : Sent) (parsed : Answer)
      → IsDocumentParsed options.reading.format (value_of bytes) first.known.sent sent parsed
      → is_whole parsed ≡ false → AreBytesShown options bytes (with_sent first sent) last
      → IsDocumentShown options bytes first last

-- what a run holds: the lines of a document that goes on, if there is one; and what it knows and has shown
pub record Holding : Type 0 where
  pub document : Option (List ℕ)
  pub at : At

abbrev pub holding_of : Option (List ℕ) → At → Holding
holding_of document at = record { document = document; at = at }

-- a line begins a document
abbrev pub begins_document : Options → List ℕ → Bool
begins_document options line = reads_values options.reading.format && begins line

-- behind no document, a line is held where it begins one, or was shown
pub data IsOutsideShown (options : Options) (line : List ℕ) (first : At) (last : Holding) : Type 0 where
  document_begun : begins_document options line ≡ true
      → last ≡ holding_of (Some (text_with [] line)) first → IsOutsideShown options line first last
  line_shown : begins_document options line ≡ false → last.document ≡ None
      → IsLineShown options line first last.at → IsOutsideShown options line first last

-- behind a document, it goes on or ends with a line; or the document is none, and its lines were shown
pub data IsInsideShown (options : Options) (text line : List ℕ) (first : At) (last : Holding) : Type 0 where
  document_goes_on : step_of text line ≡ GoesOn
      → last ≡ holding_of (Some (text_with text line)) first → IsInsideShown options text line first last
  document_ended : step_of text line ≡ Ended → last.document ≡ None
      → IsDocumentShown options (text_with text line) first last.at
      → IsInsideShown options text line first last
  document_broken : (shown : At) → step_of text line ≡ Broken → AreBytesShown options text first shown
      → IsOutsideShown options line shown last → IsInsideShown options text line first last

abbrev pub IsNextBehind : Options → List ℕ → Option (List ℕ) → At → Holding → Type 0
IsNextBehind options line None first last = IsOutsideShown options line first last
IsNextBehind options line (Some text) first last = IsInsideShown options text line first last

abbrev pub IsNextShown : Options → List ℕ → Holding → Holding → Type 0
IsNextShown options line first last = IsNextBehind options line first.document first.at last

-- the lines of an input were read, and each was shown or is held, in their order
pub data AreNextShown (options : Options) : Option (List ℕ) → Option (List ℕ) → Holding → Holding → Type 0 where
  no_next : {i : Option (List ℕ)} {a : Holding} → AreNextShown options i i a a
  one_next_more : {i j k : Option (List ℕ)} {a b c : Holding} → AreNextShown options i j a b
      → (bytes : List ℕ) → ReadsLine j k bytes → IsNextShown options bytes b c
      → AreNextShown options i k a c

-- the lines of a document that doesn't end were shown
abbrev pub IsHeldShown : Options → Option (List ℕ) → At → At → Type 0
IsHeldShown options None first last = last ≡ first
IsHeldShown options (Some text) first last = AreBytesShown options text first last

-- ---- a whole run

-- the head of a document, which names the program's version
abbrev pub document_head : List ℕ
document_head = FRONT.now ++ compact_text (driver_of VERSION.now) ++ BEHIND.now

-- what stands in front of all: that, where the output is one
abbrev pub IsStartedIn : Bool → Option (List ℕ) → Option (List ℕ) → Type 0
IsStartedIn true before after = Appends before after document_head
IsStartedIn false before after = after ≡ before

abbrev pub IsStarted : Output → Option (List ℕ) → Option (List ℕ) → Type 0
IsStarted output before after = IsStartedIn (is_document output) before after

-- the input ends there, or a line can't be read
abbrev pub EndsSo : Option (List ℕ) → InputEnd → Type 0
EndsSo rest AtEnd = IsAtEnd rest
EndsSo rest (Unread fault) = ⊤

-- the lines of an input were shown, up to its end or to one that can't be read
pub record HaveLinesEnded (options : Options) (input : Option (List ℕ)) (first last : Holding) (ending : InputEnd)
    : Type 0 where
  pub rest : Option (List ℕ)
  pub lines : AreNextShown options input rest first last
  pub ended : EndsSo rest ending

-- what is held behind the last line was shown
pub record IsRestShown (options : Options) (first : Holding) (last : At) : Type 0 where
  pub document_shown : At
  pub document : IsHeldShown options first.document first.at document_shown
  pub held : IsFinished options document_shown last

-- an input was shown so, and then what is held, in both cases
pub record IsInputShown (options : Options) (input : Option (List ℕ)) (first last : At) (ending : InputEnd)
    : Type 0 where
  pub lines_shown : Holding
  pub lines : HaveLinesEnded options input (holding_of None first) lines_shown ending
  pub rest : IsRestShown options lines_shown last

-- what stands behind all: how many more diagnostics there are, and the sum of what was told, on lines of their
-- own; beside a document, behind its end
pub data IsEnded (output : Output) (first : Out) (last : StreamBytes) : Type 0 where
  in_lines : (closed more : Option (List ℕ)) → is_document output ≡ false
      → Appends first.output closed (line_end (is_open first.shown.written) (sum_text first.shown.sum))
      → Appends closed more (more_text first.shown.drawn) → Appends more last.output (sum_text first.shown.sum)
      → last.beside ≡ first.beside → IsEnded output first last
  in_document : (more : Option (List ℕ)) → is_document output ≡ true
      → Appends first.output last.output SARIF_TAIL.now → Appends first.beside more (more_text first.shown.drawn)
      → Appends more last.beside (sum_text first.shown.sum) → IsEnded output first last

-- an input was shown to its end, and what stands behind all
pub record IsShownToEnd (options : Options) (input : Option (List ℕ)) (first : At) (after : StreamBytes) (sum : Sum)
    : Type 0 where
  pub finished : At
  pub lines : IsInputShown options input first finished AtEnd
  pub end : IsEnded options.output finished.out after
  pub summed : sum ≡ finished.out.shown.sum

-- it was shown so by a run, behind what stands in front of all
pub record IsShownBy (options : Options) (input : Option (List ℕ)) (run : Run) (before after : StreamBytes) (sum : Sum)
    : Type 0 where
  pub started : StreamBytes
  pub start : IsStarted options.output before.output started.output
  pub beside : started.beside ≡ before.beside
  pub shown : IsShownToEnd options input (at_of run started) after sum

-- all that an input tells was shown, by a run that knew nothing
pub record IsAllShown (options : Options) (input : Option (List ℕ)) (before after : StreamBytes) (sum : Sum) : Type 0 where
  pub run : Run
  pub is_new : IsNew run.known
  pub nothing : run.shown ≡ nothing_shown
  pub shown : IsShownBy options input run before after sum
