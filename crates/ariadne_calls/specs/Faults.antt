-- What is wrong with a call: its faults, in the order in which they count. A call is refused for the
-- first of them, and it is drawn only where there is none.
use Rattle.std.specs.Prelude.{ℕ, ◌≡◌, ◌+◌, ◌^◌, ◌==◌, ◌++◌, ⊤, Bool, true, false, not, ◌&&◌}
use Rattle.std.specs.Prelude.{if◌then◌else◌, nat_le, nat_lt, List, [], ◌∷◌, length, Some}
use Rattle.std.specs.Prelude.{slice_get}
use Rattle.std.specs.Str.{is_utf8}
use Rattle.ariadne.specs.Listing.{Listing, listed_lines}
use Rattle.ariadne_calls.specs.declared.given.GivenLabel.{GivenLabel}
use Rattle.ariadne_calls.specs.declared.given.GivenReport.{GivenReport}
use Rattle.ariadne_calls.specs.declared.given.GivenSource.{GivenSource}
use Rattle.ariadne_calls.specs.declared.given.OptionalText.{OptionalText}
use Rattle.ariadne_calls.specs.declared.given.Text.{Text}
use Rattle.ariadne_calls.specs.declared.ending.Fault.{Fault}
use Rattle.ariadne_calls.specs.declared.ending.Fault.TheVariants as fault
use Rattle.ariadne_calls.specs.declared.ending.Refusal.{Refusal}
use Rattle.ariadne_calls.specs.declared.ending.Refusal.TheVariants.{NoMemory, Faulty}
use Rattle.ariadne_calls.specs.RequestedReports.{is_as_it_is}
use Rattle.ariadne_calls.specs.ColorNumbers.{is_color}
use Rattle.ariadne_calls.specs.Flag as flag
use Rattle.ariadne_calls.specs.CallSources.{listing_of, shown_listing}

-- the fault, where this is so
abbrev pub when : Bool → Fault → List Fault
when true f = f ∷ []
when false f = []

-- a text is not UTF-8
abbrev pub text_faults : Fault → List ℕ → List Fault
text_faults f bytes = when (not (is_utf8 bytes)) f

abbrev pub optional_faults : Fault → OptionalText → List Fault
optional_faults f t = if t.is_given == 0 then [] else text_faults f t.text.bytes.now

-- those of items, each by its number, where the first has number k
abbrev pub faults_from : {X : Type 0} → (ℕ → X → List Fault) → ℕ → List X → List Fault
faults_from of k [] = []
faults_from of k (x ∷ xs) = of k x ++ faults_from of (k + 1) xs

-- those of a kind
abbrev pub custom_faults : GivenReport → List Fault
custom_faults r =
    when (not (is_color r.kind_color)) fault.KindColor
    ++ text_faults fault.KindName r.kind_name.bytes.now

abbrev pub kind_faults : GivenReport → List Fault
kind_faults r =
    if nat_lt r.kind 3 then [] else (if r.kind == 3 then custom_faults r else fault.Kind ∷ [])

-- those of the settings
abbrev pub settings_faults : GivenReport → List Fault
settings_faults r = when (nat_lt flag.all r.flags) fault.Flags ++ when (nat_lt 2 r.attach) fault.Attach

-- those of what stands in front of the labels
abbrev pub head_faults : GivenReport → List Fault
head_faults r =
    kind_faults r ++ (settings_faults r ++ (optional_faults fault.Code r.code
    ++ text_faults fault.Message r.message.bytes.now))

-- those of the label with number k, where so many sources are given
abbrev pub label_faults : ℕ → ℕ → GivenLabel → List Fault
label_faults sources k l =
    when (nat_le sources l.source) (fault.LabelSource k)
    ++ (when (nat_lt l.end l.start) (fault.LabelBackwards k)
    ++ (when (not (l.color == 0) && not (is_color l.color)) (fault.LabelColor k)
    ++ optional_faults (fault.LabelMessage k) l.message))

-- those of the help and of the note with number k
abbrev pub help_faults : ℕ → Text → List Fault
help_faults k t = text_faults (fault.Help k) t.bytes.now

abbrev pub note_faults : ℕ → Text → List Fault
note_faults k t = text_faults (fault.Note k) t.bytes.now

-- those of a report, where so many sources are given
abbrev pub report_faults : ℕ → GivenReport → List Fault
report_faults sources r =
    head_faults r ++ (faults_from (label_faults sources) 0 r.labels.now
    ++ (faults_from help_faults 0 r.helps.now ++ faults_from note_faults 0 r.notes.now))

-- those of the source with number k, which is shown so: the numbers of its lines must be below 2 to
-- the 64th
abbrev pub source_faults : (GivenSource → Listing) → ℕ → GivenSource → List Fault
source_faults shown k s =
    optional_faults (fault.SourceName k) s.name
    ++ (text_faults (fault.SourceText k) s.text.bytes.now
    ++ when (nat_le (2 ^ 64) (s.line_offset + length (listed_lines (shown s))))
    (fault.SourceLines k))

-- those of a call whose sources are shown so
abbrev pub faults_over : (GivenSource → Listing) → GivenReport → List GivenSource → List Fault
faults_over shown r sources =
    report_faults (length sources) r ++ faults_from (source_faults shown) 0 sources

-- those of a call
abbrev pub faults : GivenReport → List GivenSource → List Fault
faults r sources =
    if is_as_it_is r then faults_over listing_of r sources else faults_over shown_listing r sources

-- a refusal is for want of memory, which may come at any time, or for the first of these faults
abbrev pub IsFirst : List Fault → Refusal → Type 0
IsFirst fs NoMemory = ⊤
IsFirst fs (Faulty f) = slice_get fs 0 ≡ Some f
