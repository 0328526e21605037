-- What is told of a file that was read.
use Rattle.std.specs.Prelude.{ℕ, ◌≡◌, ◌++◌, ◌∷◌, [], Bool, false, List, Option, Some, option_map}
use Rattle.serde_json.specs.Written.{compact_text}
use Rattle.ariadne_matchers.specs.MatchedPlaces.{placed_in}
use Rattle.ariadne_matchers.specs.declared.entry.Entry.{Entry}
use Rattle.ariadne_matchers.specs.declared.entry.Word.{Word}
use Rattle.ariadne_matchers.specs.declared.matched.Matched.{Matched}
use Rattle.ariadne_matchers.specs.declared.measure.Measure.{Measure}
use Rattle.ariadne_matchers.specs.declared.measure.Unit.{Unit}
use Rattle.ariadne_matchers.specs.declared.measure.Unit.TheVariants as unit
use Rattle.ariadne_matchers.specs.declared.placed.Placed.{Placed}
use Rattle.ariadne_matchers.specs.Catches.{Catch}
use Rattle.ariadne_matching.specs.MatchedReports.{report_of, IsMeasuredOf}
use Rattle.ariadne_matching.specs.declared.files.TextFile.{TextFile}
use Rattle.ariadne_matching.specs.declared.matchers.Measured.{Measured}

-- what columns count: characters in place of bytes, where a file is no UTF-8
abbrev pub unit_in : Bool → Unit → Unit
unit_in false unit.Bytes = unit.Characters
unit_in is_utf8 other = other

abbrev pub measure_in : TextFile → Measure → Measure
measure_in file measure = record measure { unit = unit_in file.is_utf8 measure.unit }

-- the line of a report
abbrev pub line_of_report : Matched → List ℕ → Placed → List ℕ
line_of_report matched text placed = compact_text (report_of matched placed text) ++ 10 ∷ []

-- the report of a diagnostic as a line, if a file has its line
abbrev pub report_in : Measured → TextFile → Option (List ℕ)
report_in measured file =
    option_map (line_of_report measured.matched file.columns)
    (placed_in measured.matched (measure_in file measured.measure) file.columns)

-- a line is the report of a diagnostic
abbrev pub IsReportOf : Measured → List ℕ → Type 0
IsReportOf measured line = (file : TextFile) × (report_in measured file ≡ Some line)

-- a line is the report of what lines tell by an entry, of which this was caught
abbrev pub IsReportFor : Option Entry → List Word → List Catch → List ℕ → Type 0
IsReportFor entry words caught line =
    (measured : Measured) × IsMeasuredOf entry words caught (Some measured) × IsReportOf measured line
