-- The files that were read: their characters, and the sources that pictures are drawn over.
use Rattle.std.specs.Prelude.{ℕ, ◌≡◌, ◌≤◌, ◌+◌, ◌^◌, Bool, true, not, if◌then◌else◌, List, [], ◌∷◌, ◌++◌, length, slice_get}
use Rattle.std.specs.Prelude.{nat_eq, Option, Some, None, is_some, unwrap_or, chars, string_bytes}
use Rattle.std.specs.List.{All, AllZip, find, list_all, starts_with, take_while}
use Rattle.std.specs.Str.{is_utf8}
use Rattle.ariadne_safe.specs.Visible.{visible_bytes}
use Rattle.ariadne_safe.specs.declared.text.TextKind.TheVariants.{CompilerLines, OneRow}
use Rattle.ariadne.specs.Listing.{Listing, listed_lines}
use Rattle.ariadne_safe.specs.Sources.{given_of, listing_of, name_of, sources_of}
use Rattle.ariadne_safe.specs.declared.sources.SafeSource.{SafeSource}
use Rattle.ariadne_search.specs.Search.{candidates}
use Rattle.ariadne_search.specs.declared.search.Search.{Search}
use Rattle.ariadne_parse.specs.declared.diagnostic.Span.{Span}
use Rattle.ariadne_parse.specs.declared.diagnostic.Proposal.{Proposal}
use Rattle.ariadne_parse.specs.declared.diagnostic.QuotedLine.{QuotedLine}
use Rattle.ariadne_show.specs.FoundSpans.{Files, files_of, held_at, quoted_in, read_in}
use Rattle.ariadne_show.specs.Quoted.{lines_held, text_held, IsQuotedFile}
use Rattle.ariadne_show.specs.declared.held.FileText.{FileText}
use Rattle.ariadne_show.specs.declared.held.HeldFile.{HeldFile}
use Rattle.ariadne_show.specs.declared.shelf.Shelf.{Shelf}

-- ---- a file

-- the byte order mark of UTF-8
abbrev pub byte_order_mark : List ℕ
byte_order_mark = 239 ∷ 187 ∷ 191 ∷ []

-- the characters of bytes: those of UTF-8, or where they are not that, one for each byte
abbrev pub characters : List ℕ → List ℕ
characters bytes = if is_utf8 bytes then chars bytes else bytes

-- a text is that of these bytes
pub record IsTextOf (bytes : List ℕ) (file : FileText) : Type 0 where
  pub utf8 : file.is_utf8 ≡ is_utf8 bytes
  pub mark : file.has_mark ≡ starts_with nat_eq bytes byte_order_mark
  pub text : chars (string_bytes file.text) ≡ characters bytes

-- a file of these bytes is held
pub record IsFileOf (bytes : List ℕ) (held : HeldFile) : Type 0 where
  pub utf8 : held.is_utf8 ≡ is_utf8 bytes
  pub mark : held.has_mark ≡ starts_with nat_eq bytes byte_order_mark
  pub columns : held.columns ≡ characters bytes
  pub whole : held.above ≡ 0
  pub read : held.is_read ≡ true

-- a text as it is shown, in the lines of compilers, of which the first stands below others
abbrev pub shown_text : ℕ → List ℕ → Listing
shown_text above text = record { text = visible_bytes CompilerLines text; display_offset = above }

-- a source is that of the file at a path: it has the path as its name, and shows the characters that are
-- held of it, in lines that are numbered as the file's
pub record IsSourceOf (path : List ℕ) (held : HeldFile) (source : SafeSource) : Type 0 where
  pub name : name_of source ≡ Some (visible_bytes OneRow path)
  pub text : chars (given_of source) ≡ held.columns
  pub shown : listing_of source ≡ shown_text held.above (given_of source)

-- nothing is held of a file that is quoted: no line of it is, or the numbers of the lines would pass the
-- greatest one of the machine
abbrev pub IsNotQuoted : List ℕ → List QuotedLine → Type 0
IsNotQuoted path quoted =
    (lines : ℕ × ℕ) → lines_held path quoted ≡ Some lines
    → 2 ^ 64 ≤ lines.0 + length (listed_lines (shown_text 0 (text_held path quoted lines)))

-- ---- files

-- the sources, by the numbers of the files
abbrev pub sources_in : Shelf → List SafeSource
sources_in shelf = sources_of shelf.sources

-- the file at a path was read: these were its bytes, and the source with its number is its own
pub record IsRead (sources : List SafeSource) (path : List ℕ) (held : HeldFile) : Type 0 where
  pub bytes : List ℕ
  pub file : IsFileOf bytes held
  pub source : SafeSource
  pub numbered : slice_get sources held.number ≡ Some source
  pub own : IsSourceOf path held source

-- lines of the file at a path are held as they are quoted, and the source with its number is its own
pub record IsQuoted (sources : List SafeSource) (path : List ℕ) (held : HeldFile) : Type 0 where
  pub lines : List QuotedLine
  pub file : IsQuotedFile path lines held
  pub source : SafeSource
  pub numbered : slice_get sources held.number ≡ Some source
  pub own : IsSourceOf path held source

-- each file that was read has its source, and so has each one that is quoted
pub record HaveSources (shelf : Shelf) : Type 0 where
  pub read : (path : List ℕ) (held : HeldFile) → read_in shelf path ≡ Some (Some held)
      → IsRead (sources_in shelf) path held
  pub quoted : (path : List ℕ) (held : HeldFile) → quoted_in shelf path ≡ Some held
      → IsQuoted (sources_in shelf) path held

-- ---- one after the other

-- the bytes of a file were read, and its source stands behind the others
pub record IsHeldBehind (old new : List SafeSource) (path bytes : List ℕ) (held : HeldFile) : Type 0 where
  pub file : IsFileOf bytes held
  pub source : SafeSource
  pub behind : new ≡ old ++ source ∷ []
  pub number : held.number ≡ length old
  pub own : IsSourceOf path held source

-- lines of a file are held as they are quoted, and its source stands behind the others
pub record IsQuotedBehind (old new : List SafeSource) (path : List ℕ) (lines : List QuotedLine) (held : HeldFile) : Type 0 where
  pub file : IsQuotedFile path lines held
  pub source : SafeSource
  pub behind : new ≡ old ++ source ∷ []
  pub number : held.number ≡ length old
  pub own : IsSourceOf path held source

-- a file was read, or it could not be
abbrev pub IsTried : List SafeSource → List SafeSource → List ℕ → Option HeldFile → Type 0
IsTried old new path None = new ≡ old
IsTried old new path (Some held) = (bytes : List ℕ) × IsHeldBehind old new path bytes held

-- what was tried stays as it was then
abbrev pub AreKept : Files → Files → Type 0
AreKept old new = (path : List ℕ) → is_some (old path) ≡ true → new path ≡ old path

-- the files at paths were tried, now or before
abbrev pub are_tried : Files → List (List ℕ) → Bool
are_tried files paths = list_all (λ path. is_some (files path)) paths

pub record HaveTried (paths : List (List ℕ)) (old new : Shelf) : Type 0 where
  pub kept : AreKept (read_in old) (read_in new)
  pub tried : are_tried (read_in new) paths ≡ true
  pub quoted : (path : List ℕ) → quoted_in new path ≡ quoted_in old path
  pub sources : HaveSources new

-- ---- the file that a name means

-- the file at a path was read
abbrev pub is_read : Files → List ℕ → Bool
is_read files path = is_some (held_at files path)

-- the first path whose file was, and those in front of it, or all where there is none
abbrev pub first_read : Files → List (List ℕ) → Option (List ℕ)
first_read files paths = find (is_read files) paths

abbrev pub in_front : Files → List (List ℕ) → List (List ℕ)
in_front files paths = take_while (λ path. not (is_read files path)) paths

-- the first of these paths was found whose file can be read: those in front of it were tried
pub record IsFirst (files : Files) (paths : List (List ℕ)) (found : Option (List ℕ)) : Type 0 where
  pub tried : are_tried files (in_front files paths) ≡ true
  pub first : found ≡ first_read files paths

pub record HaveSearched (paths : List (List ℕ)) (found : Option (List ℕ)) (old new : Shelf) : Type 0 where
  pub kept : AreKept (read_in old) (read_in new)
  pub first : IsFirst (read_in new) paths found
  pub quoted : (path : List ℕ) → quoted_in new path ≡ quoted_in old path
  pub sources : HaveSources new

-- ---- the files of spans

-- a span has the path of its file, where that was found, and is else as it was
pub record IsSettled (search : Search) (files : Files) (before after : Span) : Type 0 where
  pub found : Option (List ℕ)
  pub first : IsFirst files (candidates search (string_bytes before.file)) found
  pub file : string_bytes after.file ≡ unwrap_or found (string_bytes before.file)
  pub others : after ≡ record before { file = after.file }

-- and its file was looked for
pub record IsSettledNow (search : Search) (before after : Span) (old new : Shelf) : Type 0 where
  pub kept : AreKept (read_in old) (read_in new)
  pub settled : IsSettled search (read_in new) before after
  pub quoted : (path : List ℕ) → quoted_in new path ≡ quoted_in old path
  pub sources : HaveSources new

-- what is held as it is quoted are these lines
abbrev pub AreQuotedIn : List QuotedLine → Shelf → Type 0
AreQuotedIn lines shelf =
    (path : List ℕ) → (held : HeldFile) → quoted_in shelf path ≡ Some held → IsQuotedFile path lines held

-- of the file at a path lines are held, if it could not be read and some are quoted
abbrev pub IsHeldIfQuoted : List QuotedLine → Shelf → List ℕ → Type 0
IsHeldIfQuoted lines shelf path = held_at (files_of shelf) path ≡ None → IsNotQuoted path lines

-- those of one file are now, and no file was read for that
pub record IsQuotedNow (lines : List QuotedLine) (path : List ℕ) (old new : Shelf) : Type 0 where
  pub same : (q : List ℕ) → read_in new q ≡ read_in old q
  pub kept : (q : List ℕ) → is_some (quoted_in old q) ≡ true → quoted_in new q ≡ quoted_in old q
  pub quoted : AreQuotedIn lines new
  pub held : IsHeldIfQuoted lines new path
  pub sources : HaveSources new

-- those of the files of spans are, and none but these
pub record AreQuoted (lines : List QuotedLine) (spans : List Span) (old new : Shelf) : Type 0 where
  pub same : (q : List ℕ) → read_in new q ≡ read_in old q
  pub quoted : AreQuotedIn lines new
  pub held : All (λ span. IsHeldIfQuoted lines new (string_bytes span.file)) spans
  pub sources : HaveSources new

-- the files of all spans were looked for, and of those that can't be read the lines are held that are quoted
pub record AreOpened (search : Search) (lines : List QuotedLine) (before after : List Span) (old new : Shelf)
    : Type 0 where
  pub kept : AreKept (read_in old) (read_in new)
  pub settled : AllZip (IsSettled search (read_in new)) before after
  pub quoted : AreQuotedIn lines new
  pub held : All (λ span. IsHeldIfQuoted lines new (string_bytes span.file)) after
  pub sources : HaveSources new

-- ---- the files of proposals

-- a proposal has the path of its file, where that was found, and is else as it was
pub record IsFileSettled (search : Search) (files : Files) (before after : Proposal) : Type 0 where
  pub found : Option (List ℕ)
  pub first : IsFirst files (candidates search (string_bytes before.file)) found
  pub file : string_bytes after.file ≡ unwrap_or found (string_bytes before.file)
  pub others : after ≡ record before { file = after.file }

-- and its file was looked for
pub record IsFileSettledNow (search : Search) (before after : Proposal) (old new : Shelf) : Type 0 where
  pub kept : AreKept (read_in old) (read_in new)
  pub settled : IsFileSettled search (read_in new) before after
  pub quoted : (path : List ℕ) → quoted_in new path ≡ quoted_in old path
  pub sources : HaveSources new

-- the files of all of them were
pub record AreFilesSettled (search : Search) (before after : List Proposal) (old new : Shelf) : Type 0 where
  pub kept : AreKept (read_in old) (read_in new)
  pub settled : AllZip (IsFileSettled search (read_in new)) before after
  pub quoted : (path : List ℕ) → quoted_in new path ≡ quoted_in old path
  pub sources : HaveSources new
