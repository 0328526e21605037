-- What a run finds of the files that diagnostics name: where it looks for them, and what it has read.
use Rattle.std.specs.Prelude.{ℕ, ◌≡◌, ◌↔◌, Bool, true, false, List, [], ◌∷◌, Option, None, Some, is_some, option_and_then, option_map}
use Rattle.std.specs.Prelude.{slice_get, IsTrue, string_bytes}
use Rattle.ariadne_blocks.specs.Files.{File}
use Rattle.ariadne_parse.specs.declared.unit.Unit.TheVariants.{Byte}
use Rattle.ariadne_search.specs.Folders.{entered_in}
use Rattle.ariadne_search.specs.Search.{texts_of, outer_of, IsElsewhere}
use Rattle.ariadne_search.specs.declared.search.Search.{Search}
use Rattle.ariadne_parse.specs.declared.diagnostic.Diagnostic.{Diagnostic}
use Rattle.ariadne_parse.specs.declared.diagnostic.Span.{Span}
use Rattle.ariadne_show.specs.FoundSpans.{files_of, held_at, unit_in}
use Rattle.ariadne_show.specs.LinesAndColumns.{caret_in_line}
use Rattle.ariadne_show.specs.ReadFiles.{AreFilesSettled, AreOpened, IsSettledNow}
use Rattle.ariadne_show.specs.declared.finder.Finder.{Finder}
use Rattle.ariadne_show.specs.declared.held.HeldFile.{HeldFile}
use Rattle.ariadne_show.specs.declared.shelf.Shelf.{Shelf}

-- ---- where files are looked for

-- nothing was read yet, and make has entered no folder
pub record IsNewFinder (finder : Finder) : Type 0 where
  pub unread : (path : List ℕ) → files_of finder.shelf path ≡ None
  pub entered : entered_in finder.folders ≡ []

-- a search starts where names do, for a tool that names this manifest, if it names one, and in the folders
-- that make has entered
pub record IsSearchFor (finder : Finder) (manifest : Option (List ℕ)) (search : Search) : Type 0 where
  pub base : option_map (λ base. base.now) search.base ≡ option_map string_bytes finder.origin.base
  pub manifest_told : option_map (λ manifest. manifest.now) search.manifest ≡ manifest
  pub elsewhere : IsTrue search.is_elsewhere ↔ IsElsewhere finder.origin manifest
  pub outer : option_map (λ outer. outer.now) search.outer ≡ outer_of finder.origin manifest
  pub entered : texts_of search.entered.now ≡ entered_in finder.folders

-- ---- files that are held

-- the file of a span is: it was read, or a diagnostic quotes it
abbrev pub is_held : Finder → Span → Bool
is_held finder span = is_some (held_at (files_of finder.shelf) (string_bytes span.file))

-- that of the first span of a diagnostic is
abbrev pub is_first_of_held : Finder → List Span → Bool
is_first_of_held finder [] = false
is_first_of_held finder (span ∷ spans) = is_held finder span

abbrev pub is_first_held : Finder → Diagnostic → Bool
is_first_held finder parsed = is_first_of_held finder parsed.spans.items

-- the character of its line, from 0, that the tool points at in the first span of a diagnostic, if that names a
-- column and its file is held
abbrev pub caret_at : Finder → Diagnostic → Option ℕ
caret_at finder parsed =
    option_and_then (caret_in_line (files_of finder.shelf)) (slice_get parsed.spans.items 0)

-- one as a snippet quotes it
abbrev pub quoted_of : HeldFile → File
quoted_of held = record {
  characters = held.columns;
  byte_unit = unit_in held Byte;
  above = held.above;
}

abbrev pub file_at : Shelf → List ℕ → Option File
file_at shelf path = option_map quoted_of (held_at (files_of shelf) path)

-- ---- files that were looked for

-- the files of a diagnostic were: its spans have the paths at which they were found
pub record IsOpened (parsed opened : Diagnostic) (first last : Finder) : Type 0 where
  pub search : Search
  pub looked : IsSearchFor first (option_map string_bytes parsed.manifest) search
  pub spans : AreOpened search parsed.quoted.items parsed.spans.items opened.spans.items first.shelf last.shelf
  pub others : opened ≡ record parsed { spans = opened.spans }
  pub finder : last ≡ record first { shelf = last.shelf }

-- and that of its first span is held
pub record IsHeldOpened (parsed : Diagnostic) (first last : Finder) (opened : Diagnostic) : Type 0 where
  pub files : IsOpened parsed opened first last
  pub held : is_first_held last opened ≡ true

-- or it isn't
pub record IsUnheldOpened (parsed : Diagnostic) (first last : Finder) : Type 0 where
  pub opened : Diagnostic
  pub files : IsOpened parsed opened first last
  pub unheld : is_first_held last opened ≡ false

abbrev pub IsOpenedIfHeld : Diagnostic → Finder → Finder → Option Diagnostic → Type 0
IsOpenedIfHeld parsed first last None = IsUnheldOpened parsed first last
IsOpenedIfHeld parsed first last (Some opened) = IsHeldOpened parsed first last opened

-- those that it proposes to change were: its proposals have the paths at which they were found
pub record AreChangedFound (parsed found : Diagnostic) (first last : Finder) : Type 0 where
  pub search : Search
  pub looked : IsSearchFor first (option_map string_bytes parsed.manifest) search
  pub files : AreFilesSettled search parsed.proposals.items found.proposals.items first.shelf last.shelf
  pub others : found ≡ record parsed { proposals = found.proposals }
  pub finder : last ≡ record first { shelf = last.shelf }

-- that of a span was that a line by itself tells
pub record IsSpanSettled (span settled : Span) (first last : Finder) : Type 0 where
  pub search : Search
  pub looked : IsSearchFor first None search
  pub span_settled : IsSettledNow search span settled first.shelf last.shelf
  pub finder : last ≡ record first { shelf = last.shelf }
