-- What a kind is, in the fields of a report, and what is printed of it.
use Rattle.std.specs.Prelude.{ℕ, List}
use Rattle.ariadne_picture.specs.Report.{Kind, error, warning, advice, custom}
use Rattle.ariadne_picture.specs.Canvas.{kind_name}
use Rattle.ariadne_report.specs.declared.kind.ReportKind.{ReportKind}
use Rattle.ariadne_report.specs.declared.kind.ReportKind.TheVariants.{Error, Warning, Advice, Custom}

-- the kind as a report's fields have it
abbrev pub kind_of : ReportKind → Kind
kind_of Error = error
kind_of Warning = warning
kind_of Advice = advice
kind_of (Custom name color) = custom name.now color

-- the word that is printed of it
abbrev pub shown_kind : ReportKind → List ℕ
shown_kind kind = kind_name (kind_of kind)
