-- What a run knows behind the lines that it has read, and how a line changes it that is held: as a row of a
-- snippet, as one that may go on with a message, or as one that waits for what follows.
use Rattle.std.specs.Prelude.{ℕ, ◌≡◌, ◌==◌, Bool, true, false, not, ◌&&◌, ◌||◌, List, [], ◌∷◌, ◌++◌, flat_map, length, map}
use Rattle.std.specs.Prelude.{Option, Some, None, is_some}
use Rattle.ariadne_blocks.specs.Blocks.{is_about, may_go_on, path_of, parsed_of, view_of, HasNoMoreRows, IsMore, IsNamed}
use Rattle.ariadne_blocks.specs.Blocks.{IsSpanParsed, IsQuotedBy, IsRow, IsSameBlock}
use Rattle.ariadne_blocks.specs.MarkedLocations.{all_settled, marks_at, marks_of}
use Rattle.ariadne_blocks.specs.Repeats.{once}
use Rattle.ariadne_blocks.specs.declared.block.Block.{Block}
use Rattle.ariadne_blocks.specs.declared.line.Line.{Line}
use Rattle.ariadne_parse.specs.Arrows.{arrow_in}
use Rattle.ariadne_parse.specs.ArrowsParsed.{span_of_arrow}
use Rattle.ariadne_parse.specs.Spans.{seen}
use Rattle.ariadne_parse.specs.Sent.{has_text}
use Rattle.ariadne_parse.specs.declared.diagnostic.Diagnostic.{Diagnostic}
use Rattle.ariadne_parse.specs.declared.diagnostic.Span.{Span}
use Rattle.ariadne_parse.specs.declared.diagnostic.Location.{Location}
use Rattle.ariadne_show.specs.Finding.{file_at, is_held, IsNewFinder, IsSpanSettled}
use Rattle.ariadne_show.specs.WaitingLines.{added_row, ends_in_head, lines_of, HasRow, IsRoleOf}
use Rattle.ariadne_show.specs.declared.finder.Finder.{Finder}
use Rattle.ariadne_show.specs.declared.front.PlacedHead.{PlacedHead}
use Rattle.ariadne_show.specs.declared.front.Role.TheVariants as role
use Rattle.ariadne_show.specs.declared.front.WaitingHead.{WaitingHead}
use Rattle.ariadne_show.specs.declared.front.WaitingLine.{WaitingLine}
use Rattle.ariadne_show.specs.declared.known.Known.{Known}

-- ---- at first

-- nothing was read yet
pub record IsNew (known : Known) : Type 0 where
  pub finder : IsNewFinder known.finder
  pub sent : (text : List ℕ) → has_text known.sent text ≡ false
  pub block : known.block ≡ None
  pub front : known.front.items ≡ []
  pub marked : known.marked.items ≡ []

-- ---- what is waited for

-- lines wait
abbrev pub has_waiting_lines : Known → Bool
has_waiting_lines known = not (length known.front.items == 0)

-- a diagnostic is held, and no line waits behind it
abbrev pub has_open_block : Known → Bool
has_open_block known = is_some known.block && not (has_waiting_lines known)

-- a diagnostic is held, or lines wait
abbrev pub is_waited_for : Known → Bool
is_waited_for known = is_some known.block || has_waiting_lines known

-- a note is about the diagnostic that is held, if one is
abbrev pub is_note_of_block : Diagnostic → Option Block → Bool
is_note_of_block note None = false
is_note_of_block note (Some block) = is_about (parsed_of block) note

abbrev pub is_note_of : Diagnostic → Known → Bool
is_note_of note known = is_note_of_block note known.block

-- ---- rows of a snippet

-- where a row names a span whose file can be read, the next rows quote that; any other span is told
pub data IsNamedQuoted (first last : Finder) (before after : Block) : Type 0 where
  names_none : IsNamed before after None → last ≡ first → IsNamedQuoted first last before after
  unread : (named : Block) (span settled : Span) → IsNamed before named (Some span)
      → IsSpanSettled span settled first last → is_held last settled ≡ false
      → IsSpanParsed settled named after → IsNamedQuoted first last before after
  quotes : (named : Block) (span settled : Span) → IsNamed before named (Some span)
      → IsSpanSettled span settled first last → is_held last settled ≡ true
      → IsQuotedBy settled named after → IsNamedQuoted first last before after

-- a line was taken in as a row of the snippet of a diagnostic, which had not ended
pub record IsRowOf (line : Line) (first last : Finder) (before after : Block) : Type 0 where
  pub goes_on : HasNoMoreRows before → ⊥
  pub row : Block
  pub taken : IsRow (file_at first.shelf (path_of before)) line before row
  pub named : IsNamedQuoted first last row after

-- or it is none: then the snippet has ended, and nothing has changed that is told
pub record IsNoRowOf (first last : Finder) (before after : Block) : Type 0 where
  pub ends : HasNoMoreRows after
  pub block : IsSameBlock before after
  pub finder : last ≡ first

abbrev pub IsRowTaken : Line → Finder → Finder → Block → Block → Bool → Type 0
IsRowTaken line first last before after true = IsRowOf line first last before after
IsRowTaken line first last before after false = IsNoRowOf first last before after

-- a run that holds a diagnostic, and has looked for files
abbrev pub with_row : Known → Finder → Block → Known
with_row known finder block = record known { finder = finder; block = Some block }

-- a line was taken in as a row of the snippet of the diagnostic in front, behind which no line waits
pub record IsRowInFront (line : Line) (first last : Known) : Type 0 where
  pub before : Block
  pub after : Block
  pub held : first.block ≡ Some before
  pub alone : first.front.items ≡ []
  pub row : IsRowOf line first.finder last.finder before after
  pub known : last ≡ with_row first last.finder after

-- or it is none: no diagnostic is open, or it is no row of that, and then no line is one any more
pub data IsNoRowInFront (first last : Known) : Type 0 where
  none_open : has_open_block first ≡ false → last ≡ first → IsNoRowInFront first last
  not_of_it : (before after : Block) → first.block ≡ Some before → HasNoMoreRows after → IsSameBlock before after
      → last ≡ record first { block = Some after } → IsNoRowInFront first last

abbrev pub IsTriedAsRow : Line → Known → Known → Bool → Type 0
IsTriedAsRow line first last true = IsRowInFront line first last
IsTriedAsRow line first last false = IsNoRowInFront first last

-- ---- lines that may go on with a message

-- a line was taken in so, for the diagnostic in front
pub record IsMoreInFront (line : Line) (first last : Known) : Type 0 where
  pub before : Block
  pub after : Block
  pub held : first.block ≡ Some before
  pub alone : first.front.items ≡ []
  pub more : IsMore line.bytes.now line.text.now before after
  pub known : last ≡ record first { block = Some after }

-- or it may not: no diagnostic is open, or its message ends there
pub data MayNotGoOn (line : Line) (known : Known) : Type 0 where
  goes_on_with_none : has_open_block known ≡ false → MayNotGoOn line known
  goes_not_on : (block : Block) → known.block ≡ Some block
      → may_go_on line.text.now (view_of block) ≡ false → MayNotGoOn line known

pub record IsNoMore (line : Line) (first last : Known) : Type 0 where
  pub none : MayNotGoOn line first
  pub same : last ≡ first

abbrev pub IsMoreTaken : Line → Known → Known → Bool → Type 0
IsMoreTaken line first last true = IsMoreInFront line first last
IsMoreTaken line first last false = IsNoMore line first last

-- ---- lines that wait

-- the head that waits last has a row more
pub record IsRowAdded (line row : List ℕ) (first last : Known) : Type 0 where
  pub in_front : List WaitingLine
  pub shorter : WaitingLine
  pub longer : WaitingLine
  pub had : first.front.items ≡ in_front ++ shorter ∷ []
  pub has : last.front.items ≡ in_front ++ longer ∷ []
  pub grown : HasRow line row shorter longer
  pub known : last ≡ record first { front = last.front }

-- a line waits with that head, as a further row of its message
pub record WaitsWithHead (line : Line) (first last : Known) : Type 0 where
  pub row : List ℕ
  pub parsed : added_row first.front.items line.text.now ≡ Some row
  pub added : IsRowAdded line.bytes.now row first last

-- or behind those that do, since it may stand in front of a diagnostic
pub record WaitsBehind (line : Line) (first last : Known) : Type 0 where
  pub waiting : WaitingLine
  pub adds_none : added_row first.front.items line.text.now ≡ None
  pub role : IsRoleOf (is_waited_for first) line.text.now (Some waiting.role)
  pub bytes : lines_of waiting ≡ line.bytes.now ∷ []
  pub behind : last.front.items ≡ first.front.items ++ waiting ∷ []
  pub known : last ≡ record first { front = last.front }

pub data Waits (line : Line) (first last : Known) : Type 0 where
  with_head : WaitsWithHead line first last → Waits line first last
  behind_others : WaitsBehind line first last → Waits line first last

-- or it may do neither
pub record WaitsNot (line : Line) (first last : Known) : Type 0 where
  pub adds_none : added_row first.front.items line.text.now ≡ None
  pub role : IsRoleOf (is_waited_for first) line.text.now None
  pub same : last ≡ first

abbrev pub IsWaiting : Line → Known → Known → Bool → Type 0
IsWaiting line first last true = Waits line first last
IsWaiting line first last false = WaitsNot line first last

-- a head that waited has the span that an arrow names
pub record HasSpan (arrow : List ℕ × Location × Bool) (waiting : WaitingLine) (head : PlacedHead) : Type 0 where
  pub waited : WaitingHead
  pub span : Span
  pub is_head : waiting.role ≡ role.Head waited
  pub lines : head.lines ≡ waiting.lines
  pub named : seen span ≡ span_of_arrow arrow
  pub spans : head.parsed.spans.items ≡ waited.parsed.spans.items ++ span ∷ []
  pub others : head.parsed ≡ record waited.parsed { spans = head.parsed.spans }

abbrev pub IsPlacedNow : List ℕ × Location × Bool → WaitingLine → Option PlacedHead → Type 0
IsPlacedNow arrow waiting None = ⊥
IsPlacedNow arrow waiting (Some head) = HasSpan arrow waiting head

-- that is the last line that waits, and it waits no more
pub record IsHeadPlaced (arrow : List ℕ × Location × Bool) (first last : Known) (head : PlacedHead) : Type 0 where
  pub waiting : WaitingLine
  pub has_span : HasSpan arrow waiting head
  pub waited : first.front.items ≡ last.front.items ++ waiting ∷ []
  pub known : last ≡ record first { front = last.front }

abbrev pub IsPlacedAt : List ℕ × Location × Bool → Known → Known → Option PlacedHead → Type 0
IsPlacedAt arrow first last None = ⊥
IsPlacedAt arrow first last (Some head) = IsHeadPlaced arrow first last head

-- so it has that which a line names
pub record IsPlacedBy (text : List ℕ) (first last : Known) (head : PlacedHead) : Type 0 where
  pub arrow : List ℕ × Location × Bool
  pub named : arrow_in text ≡ Some arrow
  pub placed : IsHeadPlaced arrow first last head

-- or the line names none, or no head waits so
pub record SpansNone (text : List ℕ) (first last : Known) : Type 0 where
  pub none : (is_some (arrow_in text) && ends_in_head first.front.items) ≡ false
  pub same : last ≡ first

abbrev pub IsPlacedIn : List ℕ → Known → Known → Option PlacedHead → Type 0
IsPlacedIn text first last None = SpansNone text first last
IsPlacedIn text first last (Some head) = IsPlacedBy text first last head

-- ---- notes

-- the diagnostic in front is given out for a note that is about it
pub record IsGivenOut (note : Diagnostic) (first last : Known) (block : Block) : Type 0 where
  pub held : first.block ≡ Some block
  pub about : is_about (parsed_of block) note ≡ true
  pub known : last ≡ record first { block = None }

-- or the note is about none
pub record IsAboutNone (note : Diagnostic) (first last : Known) : Type 0 where
  pub none : is_note_of note first ≡ false
  pub same : last ≡ first

abbrev pub IsBlockTaken : Diagnostic → Known → Known → Option Block → Type 0
IsBlockTaken note first last None = IsAboutNone note first last
IsBlockTaken note first last (Some block) = IsGivenOut note first last block

-- ---- the end of a diagnostic

-- a diagnostic of which all lines were read is settled: its spans without marks have those that were drawn at the
-- same locations, and then those that repeat others are left out
pub record AreMarksSettled (parsed settled : Diagnostic) (first last : Known) : Type 0 where
  pub spans : map seen settled.spans.items
      ≡ once (all_settled [] (map marks_of first.marked.items) (map seen parsed.spans.items))
  pub others : settled ≡ record parsed { spans = settled.spans }
  pub marked : map marks_of last.marked.items
      ≡ flat_map marks_at (all_settled [] (map marks_of first.marked.items) (map seen parsed.spans.items))
  pub known : last ≡ record first { marked = last.marked }
