-- What is drawn of a diagnostic: pictures of reports over the files that were read, of which the first
-- has the diagnostic's kind, its code and its message. What input and output know of their bytes is
-- given before and after each step.
use Rattle.std.specs.Prelude.{ℕ, ◌≡◌, if◌then◌else◌, List, [], ◌∷◌, ◌++◌, Option}
use Rattle.std.specs.Prelude.{Some, None, codes, option_map, true, Ok}
use Rattle.std.specs.Prelude.{String, string_bytes, unwrap_or, Vec}
use Rattle.std.specs.declared.alloc.Global.{Global}
use Rattle.std.specs.declared.ops.Range.{Range}
use Rattle.ariadne.specs.Building.{filled_code}
use Rattle.ariadne.specs.CharSet.{CharSet}
use Rattle.ariadne.specs.CharSet.TheVariants.{Ascii, Unicode}
use Rattle.ariadne.specs.LeftOut.{LeftOut}
use Rattle.ariadne.specs.Report.{ConfigFields, Kind, ReportFields, custom, default_config}
use Rattle.ariadne.specs.Report.{error, warning}
use Rattle.ariadne_safe.specs.Pictures.{GotNothingHidden}
use Rattle.ariadne_safe.specs.Visible.{visible_bytes}
use Rattle.ariadne_safe.specs.declared.text.TextKind.TheVariants.{OneRow}
use Rattle.ariadne_safe.specs.SafeReports.{WrittenFor}
use Rattle.ariadne_safe.specs.declared.sources.SafeSource.{SafeSource}
use Rattle.ariadne_safe.specs.declared.sources.NoSource.{NoSource}
use Rattle.ariadne_parse.specs.declared.diagnostic.Diagnostic.{Diagnostic}
use Rattle.ariadne_parse.specs.declared.diagnostic.OwnKind.{OwnKind}
use Rattle.ariadne_parse.specs.declared.diagnostic.Severity.{Severity}
use Rattle.ariadne_parse.specs.declared.diagnostic.Severity.TheVariants.{Error, Warning, Note}
use Rattle.ariadne_show.specs.declared.options.Style.{Style}
use Rattle.ariadne_show.specs.declared.proposed.Room.{Room}
use Rattle.ariadne_show.specs.declared.proposed.Sketch.{Sketch}
use Rattle.ariadne_show.specs.Asides.{helps_of, notes_of}
use Rattle.ariadne_show.specs.FoundSpans.{Files, FoundFields}
use Rattle.ariadne_show.specs.FoundLabels.{severity_color, AreOrdered, labels_of, main_in, shown_header}
use Rattle.ariadne_show.specs.DrawnProposals.{AreSketched}
use Rattle.ariadne_show.specs.TextDiagnostics.{first_line, lines_of}
use Rattle.ariadne_show.specs.Widths.{IsTextWidth, without_rows}

-- ---- what a report is about

-- the kind of a severity: a note is named `Note`
abbrev pub severity_kind : Severity → Kind
severity_kind Error = error
severity_kind Warning = warning
severity_kind Note = custom (codes "Note") (severity_color Note)

-- the name of a diagnostic's own kind
abbrev pub own_name : Option OwnKind → List ℕ
own_name None = []
own_name (Some own) = string_bytes own.name

-- a diagnostic's own kind, with its name as it can be shown, and the colour of the severity where it
-- has none; or that of the severity
abbrev pub kind_for : Option OwnKind → Severity → Kind
kind_for None severity = severity_kind severity
kind_for (Some own) severity =
    custom (visible_bytes OneRow (string_bytes own.name))
    (unwrap_or own.color (severity_color severity))

abbrev pub kind_of : Diagnostic → Kind
kind_of parsed = kind_for parsed.own_kind parsed.severity

-- the characters that strokes and marks are drawn with
abbrev pub char_set_of : Style → CharSet
char_set_of style = if style.is_ascii then Ascii else Unicode

-- the default configuration, but for the colours, the strokes, the size and the context lines that are
-- asked for, and with underlines also where no label of a line has a message
abbrev pub config_of : Style → ConfigFields
config_of style = record default_config {
  color = style.is_colored;
  char_set = char_set_of style;
  compact = style.is_compact;
  lone_underlines = true;
  context_lines = style.context_lines;
}

-- a report has the configuration that is asked for, with lines of so many columns, the kind and the code
-- of a diagnostic, and a text as its message, as they can be shown
pub record IsAbout (style : Style) (width : ℕ) (parsed : Diagnostic) (text : List ℕ)
    (report : ReportFields (ℕ × Range ℕ)) : Type 0 where
  pub config : report.config ≡ record (config_of style) { width = width }
  pub kind : report.kind ≡ kind_of parsed
  pub code : report.code
      ≡ option_map (λ code. filled_code (visible_bytes OneRow (string_bytes code))) parsed.code
  pub message : report.message ≡ Some (visible_bytes OneRow text)

-- a report with the code of a diagnostic, if it has one
abbrev pub coded : Option (String Global) → ReportFields (ℕ × Range ℕ) → ReportFields (ℕ × Range ℕ)
coded None report = report
coded (Some code) report =
    record report { code = Some (filled_code (visible_bytes OneRow (string_bytes code))) }

-- nothing but a head
pub record IsBare (report : ReportFields (ℕ × Range ℕ)) : Type 0 where
  pub labels : report.labels ≡ []
  pub notes : report.notes ≡ []
  pub helps : report.helps ≡ []

-- the room that what is drawn of proposals has in rows of so many columns
abbrev pub room_in : Style → ℕ → Room
room_in style width = record { columns = width; char_set = char_set_of style }

-- a report has the head, the labels, the notes and the helps of a diagnostic whose own span was found.
-- Its lines, notes and helps take the columns that its margin leaves of a row, and what it proposes is
-- drawn in the place of some helps
pub record IsReportOf (style : Style) (files : Files) (parsed : Diagnostic) (main : FoundFields)
    (sources : List SafeSource) (report : ReportFields (ℕ × Range ℕ)) : Type 0 where
  pub width : ℕ
  pub is_width : IsTextWidth style.width sources (without_rows report) width
  pub about : IsAbout style width parsed (string_bytes parsed.message) report
  pub span : report.span ≡ shown_header report.config.index_type sources main
  pub ordered : List FoundFields
  pub spans : AreOrdered files main.number parsed.spans.items ordered
  pub labels : report.labels
      ≡ labels_of report.config.index_type sources parsed.severity style.is_compact ordered
  pub notes : report.notes ≡ notes_of width files parsed
  pub sketches : List Sketch
  pub proposals : AreSketched (room_in style width) files sources parsed.proposals.items sketches
  pub helps : report.helps ≡ helps_of width sketches parsed

-- ---- pictures

-- the picture of a report over sources has reached the output, and hides nothing
pub record IsPicture (sources : List SafeSource) (report : ReportFields (ℕ × Range ℕ))
    (before after : Option (List ℕ)) : Type 0 where
  pub left_out : Vec (LeftOut NoSource) Global
  pub written : WrittenFor sources report before after (Ok left_out)
  pub hides : GotNothingHidden before after

-- that of a note with a text has
pub record IsSaid (style : Style) (text : List ℕ) (before after : Option (List ℕ)) : Type 0 where
  pub sources : List SafeSource
  pub report : ReportFields (ℕ × Range ℕ)
  pub config : report.config ≡ config_of style
  pub kind : report.kind ≡ severity_kind Note
  pub code : report.code ≡ None
  pub message : report.message ≡ Some (visible_bytes OneRow text)
  pub bare : IsBare report
  pub picture : IsPicture sources report before after

-- those of texts have, one behind the other
pub data AreSaid (style : Style) : List (List ℕ) → Option (List ℕ) → Option (List ℕ) → Type 0 where
  nothing_said : {o : Option (List ℕ)} → AreSaid style [] o o
  one_said_more : {texts : List (List ℕ)} {o p q : Option (List ℕ)} → AreSaid style texts o p
      → (text : List ℕ) → IsSaid style text p q → AreSaid style (texts ++ text ∷ []) o q

-- that of its first line has, which has nothing but a head
pub record IsHeadDrawn (style : Style) (parsed : Diagnostic) (before after : Option (List ℕ))
    : Type 0 where
  pub sources : List SafeSource
  pub report : ReportFields (ℕ × Range ℕ)
  pub about : IsAbout style 0 parsed (first_line parsed) report
  pub bare : IsBare report
  pub picture : IsPicture sources report before after

-- where its own span was found, the picture of the report of a diagnostic has; else that of its first
-- line, and then those of the others, of which the last says why
pub data IsParsedDrawn (style : Style) (files : Files) (sources : List SafeSource)
    (parsed : Diagnostic) (before after : Option (List ℕ)) : Type 0 where
  in_one : (main : FoundFields) (report : ReportFields (ℕ × Range ℕ))
      → main_in files parsed ≡ Some main → IsReportOf style files parsed main sources report
      → IsPicture sources report before after → IsParsedDrawn style files sources parsed before after
  in_lines : (headed : Option (List ℕ)) → main_in files parsed ≡ None
      → IsHeadDrawn style parsed before headed → AreSaid style (lines_of files parsed) headed after
      → IsParsedDrawn style files sources parsed before after
