-- Pictures behind pictures.
use Rattle.std.proofs.Common.{◌≡◌, ◌∙◌, ap, subst, sym}
use Rattle.std.specs.Prelude.{ℕ, List, Option, Some, None, Result, Ok, Err, OnOk}
use Rattle.std.specs.declared.ops.Range.{Range}
use Rattle.ariadne.specs.Report.{ConfigFields, Kind, ReportFields, new_report}
use Rattle.ariadne_safe.specs.Visible.{visible_bytes}
use Rattle.ariadne_safe.specs.declared.text.TextKind.TheVariants.{OneRow}
use Rattle.ariadne_safe.specs.declared.sources.SafeSource.{SafeSource}
use Rattle.ariadne_parse.specs.declared.diagnostic.Diagnostic.{Diagnostic}
use Rattle.ariadne_parse.specs.declared.diagnostic.Severity.TheVariants.{Note}
use Rattle.ariadne_show.specs.declared.options.Style.{Style}
use Rattle.ariadne_show.specs.Drawn.{config_of, severity_kind, AreSaid, IsAbout, IsBare, IsHeadDrawn, IsPicture, IsReportOf}
use Rattle.ariadne_show.specs.Drawn.{IsSaid, IsParsedDrawn, in_one, in_lines}
use Rattle.ariadne_show.specs.FoundSpans.{Files, FoundFields}
use Rattle.ariadne_show.specs.FoundLabels.{main_in}
use Rattle.ariadne_show.specs.TextDiagnostics.{first_line, lines_of}
use Rattle.ariadne_show.proofs.Heads.{new_bare, said_bare}

-- the picture of a text, after Ok
pub said_if : {T E : Type 0} (r : Result T E) (style : Style) (kind : Kind) (span : ℕ × Range ℕ) (config : ConfigFields)
    (text : List ℕ) (sources : List SafeSource) (r0 built report : ReportFields (ℕ × Range ℕ)) (o p : Option (List ℕ))
    → r0 ≡ record (new_report kind span) { config = config } → config ≡ config_of style → kind ≡ severity_kind Note
    → built ≡ record r0 { message = Some (visible_bytes OneRow text) } → report ≡ built
    → OnOk r (IsPicture sources report o p) → OnOk r (IsSaid style text o p)
said_if (Ok x) style kind span config text sources r0 built report o p begun looks note made same picture = record {
  sources = sources;
  report = report;
  config = ap (λ (q : ReportFields (ℕ × Range ℕ)). q.config) (same ∙ made)
      ∙ ap (λ (q : ReportFields (ℕ × Range ℕ)). q.config) begun ∙ looks;
  kind = ap (λ (q : ReportFields (ℕ × Range ℕ)). q.kind) (same ∙ made)
      ∙ ap (λ (q : ReportFields (ℕ × Range ℕ)). q.kind) begun ∙ note;
  code = ap (λ (q : ReportFields (ℕ × Range ℕ)). q.code) (same ∙ made)
      ∙ ap (λ (q : ReportFields (ℕ × Range ℕ)). q.code) begun;
  message = ap (λ (q : ReportFields (ℕ × Range ℕ)). q.message) (same ∙ made);
  bare = said_bare r0 report _ (new_bare kind span config r0 begun) (same ∙ made);
  picture = picture;
}
said_if (Err e) style kind span config text sources r0 built report o p begun looks note made same picture = tt

-- of one about a diagnostic
pub head_drawn_if : {T E : Type 0} (r : Result T E) (style : Style) (parsed : Diagnostic) (sources : List SafeSource)
    (report : ReportFields (ℕ × Range ℕ)) (o p : Option (List ℕ)) → IsAbout style 0 parsed (first_line parsed) report → IsBare report
    → OnOk r (IsPicture sources report o p) → OnOk r (IsHeadDrawn style parsed o p)
head_drawn_if (Ok x) style parsed sources report o p about bare picture =
    record { sources = sources; report = report; about = about; bare = bare; picture = picture }
head_drawn_if (Err e) style parsed sources report o p about bare picture = tt

-- of the report of one
pub told_if_in_one : {T E : Type 0} (r : Result T E) (style : Style) (files : Files) (sources : List SafeSource)
    (parsed : Diagnostic) (main : FoundFields) (over : List SafeSource) (report : ReportFields (ℕ × Range ℕ)) (o p : Option (List ℕ))
    → Some main ≡ main_in files parsed → IsReportOf style files parsed main sources report → over ≡ sources → OnOk r (IsPicture over report o p)
    → OnOk r (IsParsedDrawn style files sources parsed o p)
told_if_in_one (Ok x) style files sources parsed main over report o p found is same picture =
    in_one main report (sym found) is (subst (λ (l : List SafeSource). IsPicture l report o p) same picture)
told_if_in_one (Err e) style files sources parsed main over report o p found is same picture = tt

-- others behind it
pub told_if_in_lines : {T E : Type 0} (r : Result T E) (style : Style) (files : Files) (sources : List SafeSource)
    (parsed : Diagnostic) (o m q : Option (List ℕ)) → None ≡ main_in files parsed → IsHeadDrawn style parsed o m
    → OnOk r (AreSaid style (lines_of files parsed) m q) → OnOk r (IsParsedDrawn style files sources parsed o q)
told_if_in_lines (Ok x) style files sources parsed o m q missing head others = in_lines m (sym missing) head others
told_if_in_lines (Err e) style files sources parsed o m q missing head others = tt
