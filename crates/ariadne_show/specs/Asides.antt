-- What a report says beside: the notes and helps of a diagnostic, what is drawn in the place of helps, and
-- a note for each of its spans that can't be drawn.
use Rattle.std.specs.Prelude.{ℕ, ◌+◌, ◌==◌, ◌&&◌, nat_le, nat_lt, Bool, not, if◌then◌else◌}
use Rattle.std.specs.Prelude.{List, [], ◌∷◌, ◌++◌, map, filter}
use Rattle.std.specs.List.{flat_map, list_any}
use Rattle.std.specs.Prelude.{Option, Some, None, String, string_bytes, codes, decimal}
use Rattle.std.specs.declared.alloc.Global.{Global}
use Rattle.std.specs.declared.ops.Range.{Range}
use Rattle.ariadne.specs.Report.{ReportFields}
use Rattle.ariadne_safe.specs.Visible.{visible_bytes}
use Rattle.ariadne_safe.specs.declared.text.TextKind.TheVariants.{Aside}
use Rattle.ariadne_parse.specs.declared.diagnostic.Diagnostic.{Diagnostic}
use Rattle.ariadne_parse.specs.declared.diagnostic.Span.{Span}
use Rattle.ariadne_show.specs.FoundSpans.{Files, is_found}
use Rattle.ariadne_show.specs.Wrapped.{wrapped}
use Rattle.ariadne_show.specs.declared.proposed.Sketch.{Sketch}

-- a column behind a colon, if there is one
abbrev pub column_text : Option ℕ → List ℕ
column_text None = []
column_text (Some column) = codes ":" ++ decimal column

-- where a span begins, FILE:LINE:COLUMN, and then what is said of it
abbrev pub location_name : Span → List ℕ
location_name span =
    string_bytes span.file ++ codes ":" ++ decimal span.start.line ++ column_text span.start.column
    ++ codes ": "

abbrev pub location_text : Span → List ℕ → List ℕ
location_text span said = location_name span ++ said

-- the spans that can't be drawn
abbrev pub missing : Files → List Span → List Span
missing files spans = filter (λ span. not (is_found files span)) spans

-- a help or a note as it can be shown, in rows of so many columns, or of any number where that is 0
abbrev pub aside_text : ℕ → List ℕ → List ℕ
aside_text columns text = visible_bytes Aside (wrapped columns text)

-- the notes: of these spans, and of the diagnostic
abbrev pub missing_notes : ℕ → Files → List Span → List (List ℕ)
missing_notes columns files spans =
    map (λ span. aside_text columns (location_text span (string_bytes span.text))) (missing files spans)

abbrev pub aside_notes : ℕ → List (String Global) → List (List ℕ)
aside_notes columns texts = map (λ text. aside_text columns (string_bytes text)) texts

abbrev pub notes_of : ℕ → Files → Diagnostic → List (List ℕ)
notes_of columns files parsed =
    missing_notes columns files parsed.spans.items ++ aside_notes columns parsed.notes.items

-- a proposal that is drawn begins at the help with this number, and stands in its place
abbrev pub begins_at : ℕ → Sketch → Bool
begins_at number sketch = sketch.helps.start == number

abbrev pub covers : ℕ → Sketch → Bool
covers number sketch = nat_le sketch.helps.start number && nat_lt number sketch.helps.end

-- the texts of a proposal that is drawn
abbrev pub sketch_texts : Sketch → List (List ℕ)
sketch_texts sketch = map (λ text. visible_bytes Aside (string_bytes text)) sketch.texts.items

-- those of the proposals that begin at the help with this number
abbrev pub texts_at : ℕ → List Sketch → List (List ℕ)
texts_at number sketches = flat_map sketch_texts (filter (begins_at number) sketches)

-- a help with this number, unless a proposal stands in its place
abbrev pub own_text : ℕ → List Sketch → ℕ → String Global → List (List ℕ)
own_text columns sketches number help =
    if list_any (covers number) sketches then [] else aside_notes columns (help ∷ [])

-- what stands for it: the texts of the proposals that begin there, and then the help
abbrev pub help_texts : ℕ → List Sketch → ℕ → String Global → List (List ℕ)
help_texts columns sketches number help =
    texts_at number sketches ++ own_text columns sketches number help

-- the helps, of which the first has this number
unfoldable pub helps_from : ℕ → List Sketch → ℕ → List (String Global) → List (List ℕ)
helps_from columns sketches number [] = []
helps_from columns sketches number (help ∷ helps) =
    help_texts columns sketches number help ++ helps_from columns sketches (number + 1) helps

abbrev pub helps_of : ℕ → List Sketch → Diagnostic → List (List ℕ)
helps_of columns sketches parsed = helps_from columns sketches 0 parsed.helps.items

-- a report with more notes, and with more helps
abbrev pub with_notes : List (List ℕ) → ReportFields (ℕ × Range ℕ) → ReportFields (ℕ × Range ℕ)
with_notes notes report = record report { notes = report.notes ++ notes }

abbrev pub with_helps : List (List ℕ) → ReportFields (ℕ × Range ℕ) → ReportFields (ℕ × Range ℕ)
with_helps helps report = record report { helps = report.helps ++ helps }
