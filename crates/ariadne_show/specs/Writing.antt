-- What is shown: what is written of a diagnostic whose files were read, and of a line that passes, in the
-- form that is asked for, and what is counted. What output and standard error know of their bytes is given
-- before and after each step.
use Rattle.std.specs.Prelude.{ℕ, ◌≡◌, Bool, true, false, if◌then◌else◌, List, [], ◌∷◌, ◌++◌, codes, map}
use Rattle.std.specs.Prelude.{Option}
use Rattle.std.specs.Io.BufRead.{ends_with_byte}
use Rattle.std.specs.Io.KnownBytes.{Appends}
use Rattle.serde_json.specs.Written.{compact_text}
use Rattle.ariadne_parse.specs.declared.unit.Unit.{Unit}
use Rattle.ariadne_parse.specs.declared.unit.Unit.TheVariants.{Byte, Char}
use Rattle.ariadne_outputs.specs.Github.{github_commands, without_command}
use Rattle.ariadne_outputs.specs.Located.{LocatedSpan}
use Rattle.ariadne_outputs.specs.Passing.{passed_line}
use Rattle.ariadne_outputs.specs.Sarif.{result_of}
use Rattle.ariadne_outputs.specs.Short.{short_rows}
use Rattle.ariadne_safe.specs.declared.sources.SafeSource.{SafeSource}
use Rattle.ariadne_parse.specs.declared.diagnostic.Diagnostic.{Diagnostic}
use Rattle.ariadne_show.specs.Drawn.{IsParsedDrawn}
use Rattle.ariadne_show.specs.FoundSpans.{files_of, Files}
use Rattle.ariadne_show.specs.Limits.{drawn_after, is_drawn, limits_of}
use Rattle.ariadne_show.specs.LinesAndColumns.{located_in, main_first}
use Rattle.ariadne_show.specs.ReadFiles.{sources_in}
use Rattle.ariadne_show.specs.Streams.{StreamBytes}
use Rattle.ariadne_show.specs.Sums.{counted, no_sum}
use Rattle.ariadne_show.specs.declared.options.Options.{Options}
use Rattle.ariadne_show.specs.declared.options.Output.{Output}
use Rattle.ariadne_show.specs.declared.options.Output.TheVariants.{Picture, Short, Github, Sarif}
use Rattle.ariadne_show.specs.declared.shelf.Shelf.{Shelf}
use Rattle.ariadne_show.specs.declared.writing.Shown.{Shown}
use Rattle.ariadne_show.specs.declared.writing.Written.{Written}
use Rattle.ariadne_show.specs.declared.writing.Written.TheVariants as written

-- ---- what was shown

-- what was counted, and what the output and standard error have
pub record Out : Type 0 where
  pub shown : Shown
  pub output : Option (List ℕ)
  pub beside : Option (List ℕ)

abbrev pub out_of : Shown → StreamBytes → Out
out_of shown streams = record { shown = shown; output = streams.output; beside = streams.beside }

-- nothing was
abbrev pub nothing_shown : Shown
nothing_shown = record {
  sum = no_sum;
  drawn = record { drawn = 0; more = 0 };
  written = written.Lines;
  is_told_last = false;
}

-- the output ends with a line that no line feed ends
abbrev pub is_open : Written → Bool
is_open written.OpenLine = true
is_open written.Lines = false
is_open written.Picture = false
is_open written.Result = false

-- it is one document, in which no line has room
abbrev pub is_document : Output → Bool
is_document Sarif = true
is_document Github = false
is_document Picture = false
is_document Short = false

-- ---- diagnostics

-- the row between two pictures, where they are not compact
abbrev pub gap : Written → Bool → List ℕ
gap written.Picture false = 10 ∷ []
gap written.Picture true = []
gap written.Lines compact = []
gap written.OpenLine compact = []
gap written.Result compact = []

-- what stands between two results
abbrev pub comma : Written → List ℕ
comma written.Result = codes ",\n"
comma written.Picture = []
comma written.Lines = []
comma written.OpenLine = []

-- what columns count in a form
abbrev pub unit_of : Output → Unit
unit_of Github = Char
unit_of Sarif = Char
unit_of Picture = Byte
unit_of Short = Byte

-- where its spans stand, its own first
abbrev pub spans_of_output : Files → Output → Diagnostic → List LocatedSpan
spans_of_output files output parsed = map (located_in files (unit_of output)) (main_first parsed.spans.items)

-- its text in a form for other programs
abbrev pub text_in : Output → Diagnostic → List LocatedSpan → List ℕ
text_in Github parsed spans = github_commands parsed spans
text_in Sarif parsed spans = compact_text (result_of parsed spans)
text_in Picture parsed spans = short_rows parsed spans
text_in Short parsed spans = short_rows parsed spans

-- what the output ends with behind it
abbrev pub behind_text : Output → Written
behind_text Sarif = written.Result
behind_text Github = written.Lines
behind_text Picture = written.Lines
behind_text Short = written.Lines

-- it is drawn
abbrev pub is_picture : Output → Bool
is_picture Picture = true
is_picture Short = false
is_picture Github = false
is_picture Sarif = false

-- one more was counted
abbrev pub counted_in : Options → Diagnostic → Shown → Shown
counted_in options parsed shown = record shown {
  sum = counted parsed shown.sum;
  drawn = drawn_after (limits_of options) parsed shown.drawn;
  is_told_last = true;
}

-- a diagnostic has been written: as a picture, behind a row where one stands in front; or as a text for
-- other programs, unless it sums up others
pub data IsWritten (options : Options) (files : Files) (sources : List SafeSource) (parsed : Diagnostic)
    (first last : Written) (before after : Option (List ℕ)) : Type 0 where
  as_picture : (parted : Option (List ℕ)) → is_picture options.output ≡ true
      → Appends before parted (gap first options.style.is_compact)
      → IsParsedDrawn options.style files sources parsed parted after → last ≡ written.Picture
      → IsWritten options files sources parsed first last before after
  left_out : is_picture options.output ≡ false → parsed.is_sum ≡ true → after ≡ before → last ≡ first
      → IsWritten options files sources parsed first last before after
  as_text : (parted : Option (List ℕ)) → is_picture options.output ≡ false → parsed.is_sum ≡ false
      → Appends before parted (comma first)
      → Appends parted after (text_in options.output parsed (spans_of_output files options.output parsed))
      → last ≡ behind_text options.output
      → IsWritten options files sources parsed first last before after

-- one whose files were read was counted, and written, if the limits let it
pub data IsShownOnce (options : Options) (shelf : Shelf) (parsed : Diagnostic) (first last : Out) : Type 0 where
  counted_alone : is_drawn (limits_of options) parsed first.shown.drawn ≡ false
      → last ≡ record first { shown = counted_in options parsed first.shown }
      → IsShownOnce options shelf parsed first last
  counted_and_written : (written : Written) → is_drawn (limits_of options) parsed first.shown.drawn ≡ true
      → IsWritten options (files_of shelf) (sources_in shelf) parsed first.shown.written written first.output
      last.output
      → last.shown ≡ record (counted_in options parsed first.shown) { written = written }
      → last.beside ≡ first.beside → IsShownOnce options shelf parsed first last

-- ---- lines that pass

-- a line as it may be shown, or as it is where that is asked for; in a workflow of GitHub's it is no command
abbrev pub shown_line : Output → Bool → List ℕ → List ℕ
shown_line Github colors line = without_command (passed_line colors line)
shown_line Picture colors line = passed_line colors line
shown_line Short colors line = passed_line colors line
shown_line Sarif colors line = passed_line colors line

abbrev pub passing_bytes : Options → List ℕ → List ℕ
passing_bytes options line =
    if options.is_raw then line else shown_line options.output options.style.is_colored line

-- what the output ends with behind it
abbrev pub behind_line : List ℕ → Written
behind_line line = if ends_with_byte 10 line then written.Lines else written.OpenLine

-- a line has passed: to the output, or where that is one document, beside it
pub data HasPassed (options : Options) (line : List ℕ) (first last : Out) : Type 0 where
  to_output : is_document options.output ≡ false
      → Appends first.output last.output (passing_bytes options line) → last.beside ≡ first.beside
      → last.shown ≡ record first.shown { written = behind_line line; is_told_last = false }
      → HasPassed options line first last
  beside_it : is_document options.output ≡ true
      → Appends first.beside last.beside (passing_bytes options line) → last.output ≡ first.output
      → last.shown ≡ record first.shown { is_told_last = false } → HasPassed options line first last

-- lines have, in their order
pub data HavePassed (options : Options) : List (List ℕ) → Out → Out → Type 0 where
  none_passed : {a : Out} → HavePassed options [] a a
  one_passed_more : {lines : List (List ℕ)} {a b c : Out} → HavePassed options lines a b
      → (line : List ℕ) → HasPassed options line b c → HavePassed options (lines ++ line ∷ []) a c
