-- The report of the labels that were made.
use Rattle.std.proofs.Common.{◌≡◌, refl}
use Rattle.std.specs.Prelude.{ℕ, List, [], ◌∷◌, codes, slice_get, Some, option_map}
use Rattle.std.specs.Borrow.{Bor}
use Rattle.std.specs.declared.ops.Range.{Range}
use Rattle.ariadne.specs.Report.{LabelFields, ReportFields, error, new_report}
use Rattle.ariadne_commands.specs.Linted.{plain_config, report_with}

-- a report with these labels, which points at what the first one does
pub report_whole : (labels : List (LabelFields (Bor (List ℕ) × Range ℕ))) (span : Bor (List ℕ) × Range ℕ) (report : ReportFields (Bor (List ℕ) × Range ℕ))
    → Some span ≡ option_map (λ label. label.span) (slice_get labels 0)
    → report ≡ record (new_report error span) { message = Some (codes "unbalanced brackets"); config = plain_config; labels = labels }
    → Some report ≡ report_with labels
report_whole [] span report some is = absurd cc
report_whole (label ∷ labels) span report some is = let same : span ≡ label.span = cc in rw (is, same) refl
