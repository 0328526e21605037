-- What an input in front of the program hands over: each line of the input as it is, or in the place of lines that an
-- entry fits what HandedOver.antt says, or a report for a line with which a loop goes on.
use Rattle.std.specs.Prelude.{ℕ, ◌≡◌, ◌+◌, Bool, true, List, [], ◌∷◌, ◌++◌, drop, length, map, Some, None}
use Rattle.ariadne_matchers.specs.Catches.{Catch, caught_at}
use Rattle.ariadne_matchers.specs.MatchedRows.{open_yet, takes}
use Rattle.ariadne_matchers.specs.declared.reader.Fit.{Fit}
use Rattle.ariadne_matching.specs.HandedOver.{handed_over, text_in, IsWaitingLine}
use Rattle.ariadne_matching.specs.MatchedFiles.{IsReportFor}
use Rattle.ariadne_matching.specs.TriedMatchers.{entry_at, tried, words_at, IsReached}
use Rattle.ariadne_matching.specs.declared.matchers.EntryAt.{EntryAt}
use Rattle.ariadne_matching.specs.declared.matchers.Matchers.{Matchers}
use Rattle.ariadne_matching.specs.declared.lines.Waiting.{Waiting}
use Rattle.ariadne_matching.specs.declared.reading.Report.{Report}
use Rattle.ariadne_matching.specs.declared.reading.Told.{Told}
use Rattle.ariadne_matching.specs.declared.reading.Told.TheVariants as told

-- ---- what lines tell

-- a line is the report of what lines tell by the entry at a place, of which this was caught
abbrev pub IsReportAt : Matchers → EntryAt → List Catch → List ℕ → Type 0
IsReportAt matchers place caught line = IsReportFor (entry_at matchers place) (words_at matchers place) caught line

-- what is handed over for lines that an entry fits
pub record IsReportOfFit (matchers : Matchers) (place : EntryAt) (lines : List Waiting) (fit : Fit) (report : Report) : Type 0 where
  pub line : List ℕ
  pub is : IsReportAt matchers place (map caught_at fit.lines.items) line
  pub bytes : report.bytes.items ≡ handed_over lines fit line
  pub count : report.count ≡ length fit.lines.items

-- the same, for the first entry that counts from one on
pub record IsHandedFrom (matchers : Matchers) (is_all : Bool) (lines : List Waiting) (from : EntryAt) (report : Report) : Type 0 where
  pub place : EntryAt
  pub fit : Fit
  pub fits : tried matchers from is_all (map text_in lines) ≡ Some (place, takes (map caught_at fit.lines.items))
  pub told : IsReportOfFit matchers place lines fit report

abbrev pub IsHandedFor : List Waiting → Report → Type 0
IsHandedFor lines report = (matchers : Matchers) × (is_all : Bool) × (from : EntryAt) × IsHandedFrom matchers is_all lines from report

-- what lines tell by the first that counts from one on
abbrev pub IsToldFrom : Matchers → Bool → List Waiting → EntryAt → Told → Type 0
IsToldFrom matchers is_all lines from told.Nothing = tried matchers from is_all (map text_in lines) ≡ None
IsToldFrom matchers is_all lines from told.Open =
    (place : EntryAt) × (tried matchers from is_all (map text_in lines) ≡ Some (place, open_yet))
IsToldFrom matchers is_all lines from (told.Report report) = IsHandedFrom matchers is_all lines from report

-- what lines tell: by the first entry that is tried, or by one behind others that fit them too and are passed over
abbrev pub IsTold : Matchers → Bool → List Waiting → Told → Type 0
IsTold matchers is_all lines told =
    (from : EntryAt) × IsReached matchers is_all (map text_in lines) from × IsToldFrom matchers is_all lines from told

-- ---- a loop

abbrev pub repeated_texts : List Waiting → Waiting → List (List ℕ)
repeated_texts front line = map text_in front ++ text_in line ∷ []

-- a line is the report of a further line: the entry at a place takes it behind those in front of its loop
pub record IsToldAgain (matchers : Matchers) (place : EntryAt) (front : List Waiting) (line : Waiting) (report : List ℕ) : Type 0 where
  pub caught : List Catch
  pub fits : tried matchers place true (repeated_texts front line) ≡ Some (place, takes caught)
  pub whole : length caught ≡ length front + 1
  pub told : IsReportAt matchers place caught report

abbrev pub GoesOn : Waiting → List ℕ → Type 0
GoesOn line report =
    (matchers : Matchers) × (place : EntryAt) × (front : List Waiting) × IsToldAgain matchers place front line report

-- ---- a line that is read

-- it waits behind those that wait, or none waits and its bytes are ready
pub data IsTaken (bytes : List ℕ) (before : List Waiting) (ready : List ℕ) : List Waiting → List ℕ → Type 0 where
  last : {line : Waiting} → IsWaitingLine bytes line → IsTaken bytes before ready (before ++ line ∷ []) ready
  at_once : before ≡ [] → IsTaken bytes before ready [] bytes

-- ---- lines that wait no more

-- bytes stand for the first of some lines, and for so many: the line as it is; what an entry tells that fits them;
-- or the report of a line with which a loop goes on
pub data StandsFor : List Waiting → ℕ → List ℕ → Type 0 where
  passes : {line : Waiting} {lines : List Waiting} → StandsFor (line ∷ lines) 1 line.bytes.items
  handed : {lines : List Waiting} {report : Report} → IsHandedFor lines report → StandsFor lines report.count report.bytes.items
  again : {line : Waiting} {lines : List Waiting} {report : List ℕ} → GoesOn line report → StandsFor (line ∷ lines) 1 report

-- of lines that wait the first do so no more, and what stands for them is ready behind what was
pub data AreSettled (before : List Waiting) (ready : List ℕ) : List Waiting → List ℕ → Type 0 where
  none : AreSettled before ready before ready
  more : {between : List Waiting} {so_far : List ℕ} (count : ℕ) (bytes : List ℕ)
      → AreSettled before ready between so_far → StandsFor between count bytes
      → AreSettled before ready (drop count between) (so_far ++ bytes)
