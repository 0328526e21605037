-- What a line tells, or a document over many lines: by the forms whose values stand in one line; and where it tells
-- nothing by these, as a document of another form.
use Rattle.std.specs.Prelude.{ℕ, ◌≡◌, Bool, true, false, ◌&&◌, List, map, Option, Some, None, Vec}
use Rattle.std.specs.declared.alloc.Global.{Global}
use Rattle.serde_json.specs.Data.{Data}
use Rattle.ariadne_documents.specs.Forms.{line_parsed, parsed_document}
use Rattle.ariadne_parse.specs.ParsedDiagnostics.{IsParsed, IsParsedOfValue}
use Rattle.ariadne_parse.specs.Read.{read, Read}
use Rattle.ariadne_parse.specs.declared.diagnostic.Diagnostic.{Diagnostic}
use Rattle.ariadne_parse.specs.declared.sent.Sent.{Sent}
use Rattle.ariadne_parse.specs.declared.telling.Answer.{Answer}
use Rattle.ariadne_parse.specs.declared.telling.Answer.TheVariants.{Diagnostics, Dropped, Head, Note, Nothing}
use Rattle.ariadne_parse.specs.declared.telling.Format.{Format}
use Rattle.ariadne_parse.specs.declared.telling.Format.TheVariants.{Auto, Gcc, Lines, Report, Rustc}
use Rattle.ariadne_parse.specs.declared.telling.Reading.{Reading}

-- values of JSON are read, also over many lines
abbrev pub reads_values : Format → Bool
reads_values Auto = true
reads_values Rustc = true
reads_values Gcc = true
reads_values Lines = false
reads_values Report = true

-- the forms of documents are looked for where no other form is asked for
abbrev pub reads_documents : Format → Bool
reads_documents Auto = true
reads_documents Rustc = false
reads_documents Gcc = false
reads_documents Lines = false
reads_documents Report = false

-- nothing is told
abbrev pub is_nothing : Answer → Bool
is_nothing Nothing = true
is_nothing Dropped = false
is_nothing (Diagnostics all) = false
is_nothing (Head parsed) = false
is_nothing (Note parsed) = false

-- an answer needs no further lines: diagnostics that are whole, or nothing that is for the reader
abbrev pub is_whole : Answer → Bool
is_whole Nothing = false
is_whole Dropped = true
is_whole (Diagnostics all) = true
is_whole (Head parsed) = false
is_whole (Note parsed) = false

-- what is told may be told by a document
abbrev pub may_be_document : Format → Answer → Bool
may_be_document format parsed = reads_documents format && is_nothing parsed

-- the diagnostics of a document, if it is one
abbrev pub IsOfDocument : Option (List Read) → Answer → Type 0
IsOfDocument None answer = answer ≡ Nothing
IsOfDocument (Some all) answer =
    (found : Vec Diagnostic Global) × (answer ≡ Diagnostics found) × (map read found.items ≡ all)

-- what is told, or else what this document tells
abbrev pub IsOrOfDocument : Bool → Option (List Read) → Answer → Answer → Type 0
IsOrOfDocument true of_document parsed answer = IsOfDocument of_document answer
IsOrOfDocument false of_document parsed answer = answer ≡ parsed

-- what a line tells, where these messages of cargo's were handed on before, and those after
pub record IsLineParsed (reading : Reading) (line : List ℕ) (first last : Sent) (answer : Answer) : Type 0 where
  pub parsed : Answer
  pub by_line : IsParsed reading line first last parsed
  pub document : IsOrOfDocument (may_be_document reading.format parsed) (line_parsed line) parsed answer

-- what a value tells that stands in many
pub record IsValueParsed (format : Format) (d : Data) (first last : Sent) (answer : Answer) : Type 0 where
  pub parsed : Answer
  pub by_value : IsParsedOfValue format d first last parsed
  pub document : IsOrOfDocument (may_be_document format parsed) (parsed_document d) parsed answer

-- what a document tells that is this value, or none
abbrev pub IsDocumentParsed : Format → Option Data → Sent → Sent → Answer → Type 0
IsDocumentParsed format None first last answer = (answer ≡ Nothing) × (last ≡ first)
IsDocumentParsed format (Some d) first last answer = IsValueParsed format d first last answer
