-- What a call leaves in its buffers where there is a picture.
use Rattle.std.specs.Prelude.{ℕ, ◌<◌, ◌≤◌, ◌≡◌, ⊤, Bool, true, false, List, [], length, map, take}
use Rattle.std.specs.Prelude.{drop, Option, Some, Ok, Vec, nat_eq, slice_get}
use Rattle.std.specs.declared.alloc.Global.{Global}
use Rattle.std.specs.declared.ops.Range.{Range}
use Rattle.ariadne.specs.Cache.{SameHeld}
use Rattle.ariadne.specs.Listing.{Listing}
use Rattle.ariadne.specs.CacheReads.{world}
use Rattle.ariadne.specs.LeftOut.{LeftOut}
use Rattle.ariadne.specs.Reason.{Reason}
use Rattle.ariadne.specs.Reason.TheVariants.{Unfetched, PastSource}
use Rattle.ariadne.specs.Reason.TheVariants.{CutsCharacter}
use Rattle.ariadne.specs.Report.{ReportFields, World}
use Rattle.ariadne.specs.Written.{IsWritten}
use Rattle.ariadne_safe.specs.Pictures.{HidesNothing}
use Rattle.ariadne_safe.specs.declared.sources.NoSource.{NoSource}
use Rattle.ariadne_safe.specs.declared.sources.SafeSource.{SafeSource}
use Rattle.ariadne_safe.specs.SafeReports.{WrittenFor}
use Rattle.ariadne_calls.specs.declared.given.GivenReport.{GivenReport}
use Rattle.ariadne_calls.specs.declared.given.GivenSource.{GivenSource}
use Rattle.ariadne_calls.specs.declared.given.ToldLeftOut.{ToldLeftOut}
use Rattle.ariadne_calls.specs.RequestedReports.{is_as_it_is, report_of}
use Rattle.ariadne_calls.specs.CallSources.{given, name_of}
use Rattle.ariadne_calls.specs.Safe.{AreSafe, shown_report}

-- what is read of numbered sources
abbrev pub over : (ℕ → Option (List ℕ)) → List (ℕ × Listing) → World (ℕ × Range ℕ) ℕ
over names contents = world (λ s. s.0) (λ s. s.1.start) (λ s. s.1.end) nat_eq names contents

-- why a label is left out, by a number. (That its source can't be had is no reason here, since each
-- label is in a source that is given.)
abbrev pub reason_number : {E : Type 0} → Reason E → ℕ
reason_number (Unfetched e) = 0
reason_number PastSource = 1
reason_number CutsCharacter = 2

-- a label that is left out, as C is told
abbrev pub told_of : {E : Type 0} → LeftOut E → ToldLeftOut
told_of l = record { label = l.label; reason = reason_number l.reason }

-- the first where this is so, else the second
abbrev pub IsDrawnBy : Bool → (List ToldLeftOut → List ℕ → Type 0)
    → (List ToldLeftOut → List ℕ → Type 0) → List ToldLeftOut → List ℕ → Type 0
IsDrawnBy true first second told bytes = first told bytes
IsDrawnBy false first second told bytes = second told bytes

-- these bytes are the whole picture of a safe report, without the labels that are told, and they hide
-- nothing
pub record IsSafePicture (sources : List SafeSource) (report : ReportFields (ℕ × Range ℕ))
    (told : List ToldLeftOut) (bytes : List ℕ) : Type 0 where
  pub list : Vec (LeftOut NoSource) Global
  pub told_is : told ≡ map told_of list.items
  pub written : WrittenFor sources report (Some []) (Some bytes) (Ok list)
  pub hides : HidesNothing bytes

module _ (report : GivenReport) (sources : List GivenSource) where
  -- these bytes are the whole picture of the report over the sources, without these labels, and on it
  -- every message can be found. What was read are the given sources under their numbers and names
  pub record IsShown (list : List (LeftOut (Unit {0}))) (bytes : List ℕ) : Type 0 where
    pub names : ℕ → Option (List ℕ)
    pub contents : List (ℕ × Listing)
    pub same_names : (q : ℕ) → names q ≡ name_of sources q
    pub same_contents : SameHeld nat_eq (given sources) contents
    pub written : IsWritten {E = Unit {0}} (λ id e. ⊤) (over (name_of sources) (given sources))
        (over names contents) (report_of report) list (Some []) (Some bytes)

  -- the same of texts as they are, where these are told to be left out
  pub record IsShownAsItIs (told : List ToldLeftOut) (bytes : List ℕ) : Type 0 where
    pub list : List (LeftOut (Unit {0}))
    pub told_is : told ≡ map told_of list
    pub shown : IsShown list bytes

  -- the same of the report that stands for the given one over safe sources
  pub record IsShownSafely (told : List ToldLeftOut) (bytes : List ℕ) : Type 0 where
    pub safe : List SafeSource
    pub are_safe : AreSafe sources safe
    pub shown : IsSafePicture safe (shown_report safe (report_of report)) told bytes

  -- one or the other, as the flags say
  abbrev pub IsDrawn : List ToldLeftOut → List ℕ → Type 0
  IsDrawn = IsDrawnBy (is_as_it_is report) IsShownAsItIs IsShownSafely

  -- the picture stands in front in the buffer, what was behind it stays, and the labels that are left
  -- out are counted, and told as far as there is room
  pub record Holds (old new : List ℕ) (len : ℕ) (old_left new_left : List ToldLeftOut) (count : ℕ)
      : Type 0 where
    pub list : List ToldLeftOut
    pub shown : IsDrawn list (take len new)
    pub fits : len ≤ length new
    pub rest : drop len new ≡ drop len old
    pub counted : count ≡ length list
    pub told : (k : ℕ) → k < length list → k < length old_left
        → slice_get new_left k ≡ slice_get list k
    pub other_places : (k : ℕ) → length list ≤ k → slice_get new_left k ≡ slice_get old_left k
    pub places : length new_left ≡ length old_left

  -- the picture is too long, and this is its length
  pub record IsTooLong (old : List ℕ) (len : ℕ) : Type 0 where
    pub list : List ToldLeftOut
    pub bytes : List ℕ
    pub shown : IsDrawn list bytes
    pub length_is : len ≡ length bytes
    pub too_long : length old < len
