-- What is known while the linter runs.
use Rattle.std.specs.Prelude.{ℕ, List, Option, Result, Ok, Err}
use Rattle.std.specs.Borrow.{Bor}
use Rattle.std.specs.Io.KnownBytes.{Keeps}
use Rattle.std.specs.List.{AllByRecursion}
use Rattle.ariadne.specs.Cache.{held}
use Rattle.ariadne.specs.Listing.{Listing}
use Rattle.ariadne_commands.specs.Linted.{IsCut, IsCutRun, IsWhole, Prints, report_of, same_path}
use Rattle.ariadne_commands.specs.Outcomes.{IsOutcome}
use Rattle.ariadne_commands.specs.declared.checked.Checked.{Checked}
use Rattle.ariadne_commands.specs.declared.fault.Fault.{Fault}
use Rattle.ariadne_commands.specs.declared.fault.Fault.TheVariants.{Usage, Unread, NotUtf8, Writer}
use Rattle.ariadne_commands.specs.declared.fault.Fault.TheVariants.{Memory}
use Rattle.ariadne_commands.specs.declared.fault.Status.{Status}

-- these are the outcomes of the files, where this is held of them
abbrev pub AreOutcomes : List (Bor (List ℕ) × Listing) → List Checked → Type 0
AreOutcomes contents checked =
    AllByRecursion (λ c. IsOutcome (held same_path contents c.path) c.outcome) checked

-- what the writing of the report leaves, by its result
abbrev pub Wrote : List (Bor (List ℕ) × Listing) → List Checked → Option (List ℕ)
    → Option (List ℕ) → Result Unit Fault → Type 0
Wrote contents checked before after (Ok done) = Prints contents before after (report_of checked)
Wrote contents checked before after (Err (Usage line)) = ⊥
Wrote contents checked before after (Err Unread) = ⊥
Wrote contents checked before after (Err NotUtf8) = ⊥
Wrote contents checked before after (Err (Writer sent)) =
    IsCut contents before after sent (report_of checked)
Wrote contents checked before after (Err (Memory refused)) = Keeps before after

-- what a run over files leaves, by its result
abbrev pub RanOver : List (List ℕ) → Option (List ℕ) → Option (List ℕ) → Result Status Fault
    → Type 0
RanOver words before after (Ok status) = IsWhole words before after status
RanOver words before after (Err (Usage line)) = ⊥
RanOver words before after (Err Unread) = ⊥
RanOver words before after (Err NotUtf8) = ⊥
RanOver words before after (Err (Writer sent)) = IsCutRun words before after sent
RanOver words before after (Err (Memory refused)) = Keeps before after
