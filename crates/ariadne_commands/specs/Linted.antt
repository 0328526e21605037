-- What a run of the linter prints, and the status that it ends with.
use Rattle.std.specs.Prelude.{ℕ, ◌≡◌, ◌+◌, ◌⊎◌, ⊤, Bool, false, if◌then◌else◌, List, [], ◌∷◌}
use Rattle.std.specs.Prelude.{◌++◌, map, codes, Option, Some, None}
use Rattle.std.specs.Borrow.{Bor}
use Rattle.std.specs.Io.KnownBytes.{Keeps}
use Rattle.std.specs.List.{AllByRecursion, flat_map, list_all, list_any}
use Rattle.std.specs.Str.{bytes_eq}
use Rattle.std.specs.declared.ops.Range.{Range}
use Rattle.ariadne.specs.Cache.{held}
use Rattle.ariadne.specs.Listing.{Listing}
use Rattle.ariadne.specs.FileError.{FileError}
use Rattle.ariadne.specs.Report.{ConfigFields, LabelFields, ReportFields, World}
use Rattle.ariadne.specs.Report.{default_config, error, new_label, new_report}
use Rattle.ariadne.specs.CharSet.TheVariants.{Ascii}
use Rattle.ariadne.specs.CacheReads.{world}
use Rattle.ariadne.specs.Written.{IsCutOff, IsWritten}
use Rattle.ariadne_commands.specs.Outcomes.{IsOutcome, offends, was_read}
use Rattle.ariadne_commands.specs.declared.checked.Checked.{Checked}
use Rattle.ariadne_commands.specs.declared.checked.Outcome.{Outcome}
use Rattle.ariadne_commands.specs.declared.checked.Outcome.TheVariants.{Balanced, Offends, Unread}
use Rattle.ariadne_commands.specs.declared.fault.Status.{Status}
use Rattle.ariadne_commands.specs.declared.fault.Status.TheVariants as status
use Rattle.ariadne_commands.specs.declared.offence.Offence.{Offence}
use Rattle.ariadne_commands.specs.declared.offence.Offence.TheVariants.{Unopened, Mismatched}
use Rattle.ariadne_commands.specs.declared.offence.Offence.TheVariants.{Unclosed}

-- ---- the files

-- two paths are the same text
abbrev pub same_path : Bor (List ℕ) → Bor (List ℕ) → Bool
same_path p q = bytes_eq p.now q.now

-- the words that are not among these, and not among the words before them
abbrev pub named_after : List (List ℕ) → List (List ℕ) → List (List ℕ)
named_after seen [] = []
named_after seen (word ∷ words) =
    if list_any (bytes_eq word) seen then named_after seen words
    else word ∷ named_after (seen ++ word ∷ []) words

-- these files were checked, where this is held of them: each that the words name once, in the order
-- of the words
pub record AreChecked (words : List (List ℕ)) (contents : List (Bor (List ℕ) × Listing))
    (checked : List Checked) : Type 0 where
  pub paths : map (λ c. c.path.now) checked ≡ named_after [] words
  pub outcomes : AllByRecursion (λ c. IsOutcome (held same_path contents c.path) c.outcome) checked

-- ---- the report

-- a label with a message
abbrev pub saying : Bor (List ℕ) → ℕ → ℕ → List ℕ → LabelFields (Bor (List ℕ) × Range ℕ)
saying path start end text =
    record (new_label (path, record { start = start; end = end })) { message = Some text }

-- what is said of an offence
abbrev pub labels_of_offence : Bor (List ℕ) → Offence → List (LabelFields (Bor (List ℕ) × Range ℕ))
labels_of_offence path (Unopened p) = saying path p (p + 1) (codes "never opened") ∷ []
labels_of_offence path (Mismatched o p) =
    saying path o (o + 1) (codes "opened here")
    ∷ saying path o (p + 1) (codes "closed by another bracket here") ∷ []
labels_of_offence path (Unclosed o) = saying path o (o + 1) (codes "never closed") ∷ []

abbrev pub labels_of_outcome : Bor (List ℕ) → Outcome → List (LabelFields (Bor (List ℕ) × Range ℕ))
labels_of_outcome path Balanced = []
labels_of_outcome path (Offends offence) = labels_of_offence path offence
labels_of_outcome path Unread = []

abbrev pub labels_of : Checked → List (LabelFields (Bor (List ℕ) × Range ℕ))
labels_of c = labels_of_outcome c.path c.outcome

-- ASCII strokes, and no colours
abbrev pub plain_config : ConfigFields
plain_config = record default_config { char_set = Ascii; color = false }

-- the report that has these labels, if there are any: it points at the first one
abbrev pub report_with : List (LabelFields (Bor (List ℕ) × Range ℕ))
    → Option (ReportFields (Bor (List ℕ) × Range ℕ))
report_with [] = None
report_with (label ∷ labels) = Some (record (new_report error label.span) {
  message = Some (codes "unbalanced brackets");
  labels = label ∷ labels;
  config = plain_config;
})

-- the report of all offences
abbrev pub report_of : List Checked → Option (ReportFields (Bor (List ℕ) × Range ℕ))
report_of checked = report_with (flat_map labels_of checked)

-- ---- what has reached an output, whose known bytes are these before and after

-- files that are held, each under its path
abbrev pub files : List (Bor (List ℕ) × Listing) → World (Bor (List ℕ) × Range ℕ) (Bor (List ℕ))
files contents =
    world (λ s. s.0) (λ s. s.1.start) (λ s. s.1.end) same_path (λ path. Some path.now) contents

module _ (contents : List (Bor (List ℕ) × Listing)) (before after : Option (List ℕ)) where
  -- the whole picture of a report over the held files, with all its labels; nothing, where there is
  -- no report
  abbrev pub Prints : Option (ReportFields (Bor (List ℕ) × Range ℕ)) → Type 0
  Prints None = Keeps before after
  Prints (Some report) =
      IsWritten {E = FileError} (λ id e. ⊤) (files contents) (files contents) report [] before after

  -- so many first bytes of it, which has more
  abbrev pub IsCut : ℕ → Option (ReportFields (Bor (List ℕ) × Range ℕ)) → Type 0
  IsCut sent None = ⊥
  IsCut sent (Some report) =
      IsCutOff {E = FileError} (λ id e. ⊤) (files contents) (files contents) report sent
      before after

-- ---- how a run ends

-- the status, where all files were checked and what they make was printed
abbrev pub status_of : List Checked → Status
status_of checked =
    if list_all (λ c. was_read c.outcome) checked
    then (if list_any (λ c. offends c.outcome) checked then status.Findings else status.Clean)
    else status.BadInput

module _ (words : List (List ℕ)) (before after : Option (List ℕ)) where
  -- a whole run
  pub record IsWhole (ended : Status) : Type 0 where
    pub contents : List (Bor (List ℕ) × Listing)
    pub checked : List Checked
    pub are_checked : AreChecked words contents checked
    pub status : ended ≡ status_of checked
    pub prints : Prints contents before after (report_of checked)

  -- a run that ended when the writer failed, which had taken so many bytes
  pub record IsCutRun (sent : ℕ) : Type 0 where
    pub contents : List (Bor (List ℕ) × Listing)
    pub checked : List Checked
    pub are_checked : AreChecked words contents checked
    pub cut : IsCut contents before after sent (report_of checked)

  -- a run over words that name files, by its status
  abbrev pub EndedOver : Status → Type 0
  EndedOver status.Clean = IsWhole status.Clean
  EndedOver status.Findings = IsWhole status.Findings
  EndedOver status.BadInput = IsWhole status.BadInput
  EndedOver status.Failed = Keeps before after ⊎ ((sent : ℕ) × IsCutRun sent)

-- any run
abbrev pub Ended : List (List ℕ) → Option (List ℕ) → Option (List ℕ) → Status → Type 0
Ended [] before after ended = (ended ≡ status.BadInput) × Keeps before after
Ended (word ∷ words) before after ended = EndedOver (word ∷ words) before after ended
