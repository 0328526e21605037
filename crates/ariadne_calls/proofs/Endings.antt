-- What a call leaves by its ending is what it leaves by the numbers that C sees.
use Rattle.std.proofs.Common.{refl, arith}
use Rattle.std.specs.Prelude.{ℕ, zero, suc, ◌≤◌, List}
use Rattle.std.proofs.lemmas.Bool.{ne_eqb}
use Rattle.ariadne_calls.specs.declared.given.GivenReport.{GivenReport}
use Rattle.ariadne_calls.specs.declared.given.GivenSource.{GivenSource}
use Rattle.ariadne_calls.specs.declared.given.ToldLeftOut.{ToldLeftOut}
use Rattle.ariadne_calls.specs.declared.ending.CallOutcome.{CallOutcome}
use Rattle.ariadne_calls.specs.declared.ending.CallOutcome.TheVariants.{Drawn, TooShort, Refused}
use Rattle.ariadne_calls.specs.declared.ending.Fault.{Fault}
use Rattle.ariadne_calls.specs.declared.ending.Fault.TheVariants as fault
use Rattle.ariadne_calls.specs.declared.ending.Refusal.TheVariants.{NoMemory, Faulty}
use Rattle.ariadne_calls.specs.CallStatuses.{Gives, GivesNumber, number_of, status_of, len_of, count_of}

-- a fault has a number from 4 to 19
in_reach : (f : Fault) → (4 ≤ number_of f) × (number_of f ≤ 19)
in_reach fault.Kind = (omega arith, omega arith)
in_reach fault.KindColor = (omega arith, omega arith)
in_reach fault.KindName = (omega arith, omega arith)
in_reach fault.Flags = (omega arith, omega arith)
in_reach fault.Attach = (omega arith, omega arith)
in_reach fault.Code = (omega arith, omega arith)
in_reach fault.Message = (omega arith, omega arith)
in_reach (fault.LabelSource k) = (omega arith, omega arith)
in_reach (fault.LabelBackwards k) = (omega arith, omega arith)
in_reach (fault.LabelColor k) = (omega arith, omega arith)
in_reach (fault.LabelMessage k) = (omega arith, omega arith)
in_reach (fault.Help k) = (omega arith, omega arith)
in_reach (fault.Note k) = (omega arith, omega arith)
in_reach (fault.SourceName k) = (omega arith, omega arith)
in_reach (fault.SourceText k) = (omega arith, omega arith)
in_reach (fault.SourceLines k) = (omega arith, omega arith)

pub numbered : (report : GivenReport) (sources : List GivenSource) (old new : List ℕ)
    (old_left new_left : List ToldLeftOut) (e : CallOutcome) → Gives report sources old new old_left new_left e
    → GivesNumber report sources old new (len_of e) old_left new_left (count_of e) (status_of e)
numbered report sources old new old_left new_left (Drawn len zero) h = record {
  drawn = λ _. h.1;
  whole = λ _. refl;
  not_whole = λ e. absurd (omega (arith, e));
  too_short = λ e. absurd (omega (arith, e));
  sound = λ _. h.0;
  faulty = λ e. absurd (omega (arith, e));
  unchanged = λ e. absurd (omega (arith, e));
  no_len = λ e. absurd (omega (arith, e));
  no_count = λ e f. absurd (omega (arith, e));
  in_range = omega arith;
}
numbered report sources old new old_left new_left (Drawn len (suc left_out)) h =
    rw (ne_eqb (suc left_out) 0 (λ e. omega (arith, e))) (record {
      drawn = λ _. h.1;
      whole = λ e. absurd (omega (arith, e));
      not_whole = λ _. omega arith;
      too_short = λ e. absurd (omega (arith, e));
      sound = λ _. h.0;
      faulty = λ e. absurd (omega (arith, e));
      unchanged = λ e. absurd (omega (arith, e));
      no_len = λ e. absurd (omega (arith, e));
      no_count = λ e f. absurd (omega (arith, e));
      in_range = omega arith;
    })
numbered report sources old new old_left new_left (TooShort len) h = record {
  drawn = λ e. absurd (omega (arith, e));
  whole = λ e. absurd (omega (arith, e));
  not_whole = λ e. absurd (omega (arith, e));
  too_short = λ _. h.3;
  sound = λ _. h.0;
  faulty = λ e. absurd (omega (arith, e));
  unchanged = λ _. (h.1, h.2);
  no_len = λ e. absurd (omega (arith, e));
  no_count = λ _ _. refl;
  in_range = omega arith;
}
numbered report sources old new old_left new_left (Refused NoMemory) h = record {
  drawn = λ e. absurd (omega (arith, e));
  whole = λ e. absurd (omega (arith, e));
  not_whole = λ e. absurd (omega (arith, e));
  too_short = λ e. absurd (omega (arith, e));
  sound = λ e. absurd (omega (arith, e));
  faulty = λ e. absurd (omega (arith, e));
  unchanged = λ _. (h.0, h.1);
  no_len = λ _. refl;
  no_count = λ _ _. refl;
  in_range = omega arith;
}
numbered report sources old new old_left new_left (Refused (Faulty f)) h =
    let low : 4 ≤ number_of f = (in_reach f).0 in
    let high : number_of f ≤ 19 = (in_reach f).1 in
    record {
      drawn = λ e. absurd (omega (arith, e, low));
      whole = λ e. absurd (omega (arith, e, low));
      not_whole = λ e. absurd (omega (arith, e, low));
      too_short = λ e. absurd (omega (arith, e, low));
      sound = λ e. absurd (omega (arith, e, low));
      faulty = λ _. rw h.2 (refl, refl);
      unchanged = λ _. (h.0, h.1);
      no_len = λ _. refl;
      no_count = λ e f. absurd (omega (arith, f, low));
      in_range = high;
    }
