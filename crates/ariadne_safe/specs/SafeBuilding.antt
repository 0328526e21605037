-- What the builder of safe reports, and a safe report, consist of.
use Rattle.std.specs.Prelude.{ℕ, List}
use Rattle.std.specs.declared.ops.Range.{Range}
use Rattle.ariadne.specs.Report.{ReportFields}
use Rattle.ariadne.specs.ReportKind.{ReportKind}
use Rattle.ariadne_safe.specs.declared.report.SafeKind.{SafeKind}
use Rattle.ariadne_safe.specs.declared.report.SafeBuilder.{SafeBuilder}
use Rattle.ariadne_safe.specs.declared.report.SafeReport.{SafeReport}
use Rattle.ariadne_safe.specs.declared.sources.SafeSource.{SafeSource}
use Rattle.ariadne_safe.specs.Sources.{sources_of}

-- the kind whose name was checked
abbrev pub kind_in : SafeKind → ReportKind
kind_in k = k.kind

-- the report in the making, whose texts hide nothing, and the sources that it is over
abbrev pub made_of : SafeBuilder → ReportFields (ℕ × Range ℕ)
made_of b = b.report

abbrev pub sources_under : SafeBuilder → List SafeSource
sources_under b = sources_of b.basis.sources.now

-- the report, and the sources that it is over
abbrev pub report_of : SafeReport → ReportFields (ℕ × Range ℕ)
report_of r = r.report

abbrev pub sources_below : SafeReport → List SafeSource
sources_below r = sources_of r.sources.now
