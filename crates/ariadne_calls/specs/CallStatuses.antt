-- How a call ends: what it returns and leaves, by the number that C sees.
use Rattle.std.specs.Prelude.{ℕ, ◌<◌, ◌≤◌, ◌≡◌, ◌==◌, if◌then◌else◌, List, []}
use Rattle.std.specs.Prelude.{IsSomeAnd, slice_get}
use Rattle.ariadne_calls.specs.declared.given.GivenReport.{GivenReport}
use Rattle.ariadne_calls.specs.declared.given.GivenSource.{GivenSource}
use Rattle.ariadne_calls.specs.declared.given.ToldLeftOut.{ToldLeftOut}
use Rattle.ariadne_calls.specs.declared.ending.CallOutcome.{CallOutcome}
use Rattle.ariadne_calls.specs.declared.ending.CallOutcome.TheVariants.{Drawn, TooShort, Refused}
use Rattle.ariadne_calls.specs.declared.ending.Fault.{Fault}
use Rattle.ariadne_calls.specs.declared.ending.Fault.TheVariants as fault
use Rattle.ariadne_calls.specs.declared.ending.Refusal.TheVariants.{NoMemory, Faulty}
use Rattle.ariadne_calls.specs.Faults.{IsFirst, faults}
use Rattle.ariadne_calls.specs.CallBuffers.{Holds, IsTooLong}

-- the number of a fault
abbrev pub number_of : Fault → ℕ
number_of fault.Kind = 4
number_of fault.KindColor = 5
number_of fault.KindName = 6
number_of fault.Flags = 7
number_of fault.Attach = 8
number_of fault.Code = 9
number_of fault.Message = 10
number_of (fault.LabelSource k) = 11
number_of (fault.LabelBackwards k) = 12
number_of (fault.LabelColor k) = 13
number_of (fault.LabelMessage k) = 14
number_of (fault.Help k) = 15
number_of (fault.Note k) = 16
number_of (fault.SourceName k) = 17
number_of (fault.SourceText k) = 18
number_of (fault.SourceLines k) = 19

-- the number of the label, the text or the source that is at fault
abbrev pub place_of : Fault → ℕ
place_of fault.Kind = 0
place_of fault.KindColor = 0
place_of fault.KindName = 0
place_of fault.Flags = 0
place_of fault.Attach = 0
place_of fault.Code = 0
place_of fault.Message = 0
place_of (fault.LabelSource k) = k
place_of (fault.LabelBackwards k) = k
place_of (fault.LabelColor k) = k
place_of (fault.LabelMessage k) = k
place_of (fault.Help k) = k
place_of (fault.Note k) = k
place_of (fault.SourceName k) = k
place_of (fault.SourceText k) = k
place_of (fault.SourceLines k) = k

-- the status that tells an ending
abbrev pub status_of : CallOutcome → ℕ
status_of (Drawn len left_out) = if left_out == 0 then 0 else 1
status_of (TooShort len) = 2
status_of (Refused NoMemory) = 3
status_of (Refused (Faulty f)) = number_of f

-- the bytes of the picture, where there is one
abbrev pub len_of : CallOutcome → ℕ
len_of (Drawn len left_out) = len
len_of (TooShort len) = len
len_of (Refused refusal) = 0

-- the labels that are left out, or the number of what is at fault
abbrev pub count_of : CallOutcome → ℕ
count_of (Drawn len left_out) = left_out
count_of (TooShort len) = 0
count_of (Refused NoMemory) = 0
count_of (Refused (Faulty f)) = place_of f

module _ (report : GivenReport) (sources : List GivenSource) where
  -- the first fault of the call has this number, and this number tells what is at fault
  abbrev pub IsFirstFault : ℕ → ℕ → Type 0
  IsFirstFault place number =
      IsSomeAnd (slice_get (faults report sources) 0)
      (λ f. (number ≡ number_of f) × (place ≡ place_of f))

  -- what the buffers hold, by the ending
  abbrev pub Gives : List ℕ → List ℕ → List ToldLeftOut → List ToldLeftOut → CallOutcome → Type 0
  Gives old new old_left new_left (Drawn len left_out) =
      (faults report sources ≡ []) × Holds report sources old new len old_left new_left left_out
  Gives old new old_left new_left (TooShort len) =
      (faults report sources ≡ []) × (new ≡ old) × (new_left ≡ old_left)
      × IsTooLong report sources old len
  Gives old new old_left new_left (Refused refusal) =
      (new ≡ old) × (new_left ≡ old_left) × IsFirst (faults report sources) refusal

  -- the same by numbers, as C sees it
  pub record GivesNumber (old new : List ℕ) (len : ℕ) (old_left new_left : List ToldLeftOut)
      (count result : ℕ) : Type 0 where
    -- 0 and 1: the picture is there, with all labels or without some
    pub drawn : result ≤ 1 → Holds report sources old new len old_left new_left count
    pub whole : result ≡ 0 → count ≡ 0
    pub not_whole : result ≡ 1 → 0 < count
    -- 2: it takes more room
    pub too_short : result ≡ 2 → IsTooLong report sources old len
    -- a picture is made only where there is no fault
    pub sound : result ≤ 2 → faults report sources ≡ []
    -- 4 and more: this is the first fault. (3 is want of memory, which may come at any time)
    pub faulty : 4 ≤ result → IsFirstFault count result
    -- 2 and more: the buffers are as they were
    pub unchanged : 2 ≤ result → (new ≡ old) × (new_left ≡ old_left)
    -- 3 and more: no picture has a length, and without a fault nothing has a number
    pub no_len : 3 ≤ result → len ≡ 0
    pub no_count : 2 ≤ result → result ≤ 3 → count ≡ 0
    pub in_range : result ≤ 19
