-- By its letters.
use Rattle.ariadne_safe.proofs.ShownReports.{error_shown}
use Rattle.ariadne_safe.proofs.report.SafeKind.error.Goals as goal

pub invariant_of-result : goal.invariant_of-result
invariant_of-result c = record { name_is_shown = error_shown }
