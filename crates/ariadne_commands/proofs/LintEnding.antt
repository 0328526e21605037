-- How a run ends.
use Rattle.std.proofs.Common.{◌≡◌, inl, inr}
use Rattle.std.specs.Prelude.{ℕ, Bool, true, false, ◌==◌, if◌then◌else◌, List, [], ◌∷◌, length, map, Option, Result, Ok, Err}
use Rattle.std.specs.Result.{IsErrAnd}
use Rattle.ariadne_commands.specs.Faults.{status_of}
use Rattle.ariadne_commands.specs.Linted.{AreChecked, Ended, EndedOver, IsWhole}
use Rattle.ariadne_commands.specs.Linting.{AreOutcomes, RanOver, Wrote}
use Rattle.ariadne_commands.specs.declared.checked.Checked.{Checked}
use Rattle.ariadne_commands.specs.declared.fault.Fault.{Fault}
use Rattle.ariadne_commands.specs.declared.fault.Fault.TheVariants.{Usage, Unread, NotUtf8, Writer, Memory}
use Rattle.ariadne_commands.specs.declared.fault.Status.{Status}
use Rattle.ariadne_commands.specs.declared.fault.Status.TheVariants as status
use Rattle.ariadne_commands.proofs.LintWriting.{Contents}

-- a run that the writing of the report ended
pub ran_part : (words : List (List ℕ)) (old contents : Contents) (checked lent : List Checked) (before after : Option (List ℕ)) (fault : Fault)
    (result : Result Status Fault) → lent ≡ checked → AreChecked words old checked → AreOutcomes contents lent
    → Wrote contents lent before after (Err fault) → IsErrAnd result (λ f. f ≡ fault) → RanOver words before after result
ran_part words old contents checked lent before after fault (Ok done) same are outcomes wrote told = elim told [ ]
ran_part words old contents checked lent before after (Usage line) (Err f) same are outcomes wrote told = elim wrote [ ]
ran_part words old contents checked lent before after Unread (Err f) same are outcomes wrote told = elim wrote [ ]
ran_part words old contents checked lent before after NotUtf8 (Err f) same are outcomes wrote told = elim wrote [ ]
ran_part words old contents checked lent before after (Memory refused) (Err f) same are outcomes wrote told = rw told wrote
ran_part words old contents checked lent before after (Writer sent) (Err f) same are outcomes wrote told =
    rw told (record { contents = contents; checked = lent; are_checked = record { paths = rw same are.paths; outcomes = outcomes }; cut = wrote })

-- files that were checked make no failure
not_failed : (read offend : Bool) → status.Failed ≡ (if read then (if offend then status.Findings else status.Clean) else status.BadInput) → ⊥
not_failed true true e = absurd cc
not_failed true false e = absurd cc
not_failed false offend e = absurd cc

module _ (words : List (List ℕ)) (before after : Option (List ℕ)) where
  -- a whole run, by its status
  pub ended_whole : (ended : Status) → IsWhole words before after ended → EndedOver words before after ended
  ended_whole status.Clean whole = whole
  ended_whole status.Findings whole = whole
  ended_whole status.BadInput whole = whole
  ended_whole status.Failed whole = absurd (not_failed _ _ whole.status)

  -- a run that a fault ended
  pub ended_by_fault : (fault : Fault) → RanOver words before after (Err fault) → EndedOver words before after (status_of fault)
  ended_by_fault (Usage line) ran = elim ran [ ]
  ended_by_fault Unread ran = elim ran [ ]
  ended_by_fault NotUtf8 ran = elim ran [ ]
  ended_by_fault (Writer sent) ran = inr (sent, ran)
  ended_by_fault (Memory refused) ran = inl ran

-- a run over words of which there are some
pub ended_over : {X : Type 0} (f : X → List ℕ) (words : List X) (before after : Option (List ℕ)) (ended : Status) → (length words == 0) ≡ false
    → EndedOver (map f words) before after ended → Ended (map f words) before after ended
ended_over f [] before after ended some over = absurd cc
ended_over f (word ∷ words) before after ended some over = over
