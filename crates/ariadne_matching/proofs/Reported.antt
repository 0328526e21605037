-- What is reported of lines that an entry fits.
use Rattle.std.proofs.Common.{◌≡◌, List, Option, Some, None, option_map, String, string_bytes, IfSome, sym}
use Rattle.std.specs.declared.alloc.Global.{Global}
use Rattle.ariadne_matchers.specs.Catches.{Catch}
use Rattle.ariadne_matchers.specs.declared.entry.Entry.{Entry}
use Rattle.ariadne_matchers.specs.declared.entry.Word.{Word}
use Rattle.ariadne_matching.specs.MatchedFiles.{report_in, IsReportFor, IsReportOf}
use Rattle.ariadne_matching.specs.MatchedReports.{IsMeasuredOf}
use Rattle.ariadne_matching.specs.declared.files.TextFile.{TextFile}
use Rattle.ariadne_matching.specs.declared.matchers.Measured.{Measured}

-- that in a file is one of the diagnostic
pub report_of_file : (measured : Measured) (file : TextFile) (line : Option (String Global)) → option_map string_bytes line ≡ report_in measured file
    → IfSome line (λ it. IsReportOf measured (string_bytes it))
report_of_file measured file None is = tt
report_of_file measured file (Some it) is = (file, sym is)

-- one of what lines tell is one of the lines
pub report_of_lines : (entry : Option Entry) (words : List Word) (caught : List Catch) (measured : Measured) (line : Option (String Global))
    → IsMeasuredOf entry words caught (Some measured) → IfSome line (λ it. IsReportOf measured (string_bytes it))
    → IfSome line (λ it. IsReportFor entry words caught (string_bytes it))
report_of_lines entry words caught measured None told is = tt
report_of_lines entry words caught measured (Some it) told is = (measured, told, is)
