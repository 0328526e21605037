-- What is written of a report over the sources that a call gives is its picture.
use Rattle.std.proofs.Common.{◌≡◌, ◌∙◌}
use Rattle.std.specs.Prelude.{ℕ, ◌<◌, ⊤, nat_eq, List, [], length, Some}
use Rattle.std.specs.List.{AllByRecursion}
use Rattle.std.specs.declared.ops.Range.{Range}
use Rattle.ariadne.specs.Cache.{SameHeld}
use Rattle.ariadne.specs.Judging.{GrowsFor}
use Rattle.ariadne.specs.LeftOut.{LeftOut}
use Rattle.ariadne.specs.Report.{ReportFields}
use Rattle.ariadne.specs.Written.{IsWritten}
use Rattle.ariadne_calls.specs.RequestedReports.{report_of}
use Rattle.ariadne_calls.specs.CallSources.{contents_of, name_in, AreNamed}
use Rattle.ariadne_calls.specs.Faults.{faults_from, label_faults}
use Rattle.ariadne_calls.specs.CallBuffers.{IsShown, over}
use Rattle.ariadne_calls.specs.declared.given.GivenReport.{GivenReport}
use Rattle.ariadne_calls.specs.declared.given.GivenSource.{GivenSource}
use Rattle.ariadne_calls.specs.declared.sources.Named.{Named}
use Rattle.ariadne_calls.proofs.Firsts.{are_inside}
use Rattle.ariadne_calls.proofs.Same.{same_given, same_name, same_names, same_count, same_held}

pub shown : (report : GivenReport) (sources : List GivenSource) (asked : ReportFields (ℕ × Range ℕ)) (items new : List Named)
    (list : List (LeftOut (Unit {0}))) (before bytes : List ℕ)
    → AreNamed sources items → asked ≡ report_of report → before ≡ []
    → faults_from (label_faults (length sources)) 0 report.labels.now ≡ []
    → ((q : ℕ) → name_in new q ≡ name_in items q)
    → GrowsFor (λ s. s.0) nat_eq asked.labels (contents_of items) (contents_of new)
    → IsWritten {E = Unit {0}} (λ id e. ⊤) (over (name_in items) (contents_of items)) (over (name_in new) (contents_of new)) asked list (Some before) (Some bytes)
    → IsShown report sources list bytes
shown report sources asked items new list before bytes are is none sound naming grows written =
    let there : AllByRecursion (λ label. label.source < length sources) report.labels.now =
    are_inside (length sources) 0 report.labels.now sound in
    let kept : SameHeld nat_eq (contents_of items) (contents_of new) =
    same_held (length sources) report.labels.now items (contents_of new) (same_count sources items are) there (rw is at grows) in
    record {
      names = name_in new;
      contents = contents_of new;
      same_names = λ q. naming q ∙ same_name sources items q are;
      same_contents = rw (same_given sources items are) at kept;
      written = rw (same_given sources items are, same_names sources items are, is, none) at written;
    }
