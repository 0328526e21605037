-- What a run draws: the report that the words ask for, over the text of standard input or over the
-- file at the path that they name. And what has reached its output when it ends.
use Rattle.std.specs.Prelude.{ℕ, ◌≡◌, ◌≢◌, ◌⊎◌, Bool, true, false, not, if◌then◌else◌, List, []}
use Rattle.std.specs.Prelude.{◌∷◌, Option, Some, None, is_none, IfSome, ⊤}
use Rattle.std.specs.Borrow.{Bor}
use Rattle.std.specs.Io.KnownBytes.{Keeps}
use Rattle.std.specs.Str.{IsUtf8, bytes_eq}
use Rattle.std.specs.declared.ops.Range.{Range}
use Rattle.ariadne.specs.Cache.{held, listing_of}
use Rattle.ariadne.specs.Generator.{GeneratorState, color_of, stepped, usual_start}
use Rattle.ariadne.specs.Listing.{Listing}
use Rattle.ariadne.specs.Color.{Color}
use Rattle.ariadne.specs.FileError.{FileError}
use Rattle.ariadne.specs.Report.{ConfigFields, LabelFields, ReportFields, World}
use Rattle.ariadne.specs.Report.{default_config, error, new_label, new_report}
use Rattle.ariadne.specs.CharSet.TheVariants.{Ascii, Unicode}
use Rattle.ariadne.specs.IndexType.TheVariants.{Byte, Char}
use Rattle.ariadne.specs.CacheReads.{world}
use Rattle.ariadne.specs.Written.{IsCutOff, IsWritten}
use Rattle.ariadne.specs.LeftOut.{LeftOut}
use Rattle.ariadne_commands.specs.Faults.{IsNoText}
use Rattle.ariadne_commands.specs.Words.{Asking, AskingLabel, AskingOptions}
use Rattle.ariadne_commands.specs.declared.fault.Status.{Status}
use Rattle.ariadne_commands.specs.declared.fault.Status.TheVariants as status

-- ---- the report

-- each option is a switch
abbrev pub config_of : AskingOptions → ConfigFields
config_of options = record default_config {
  char_set = if options.ascii then Ascii else Unicode;
  color = not options.plain;
  compact = options.compact;
  index_type = if options.bytes then Byte else Char;
}

module _ {Id : Type 0} (id : Id) where
  -- a piece of the source with this id
  abbrev pub piece : ℕ → ℕ → Id × Range ℕ
  piece start end = (id, record { start = start; end = end })

  -- a label in a colour
  abbrev pub colored : Color → AskingLabel → LabelFields (Id × Range ℕ)
  colored color label =
      record (new_label (piece label.start label.end))
      { message = Some label.text; color = Some color }

  -- labels in the colours that a generator gives in turn, from the state that it is in
  abbrev pub labels_from : GeneratorState → List AskingLabel → List (LabelFields (Id × Range ℕ))
  labels_from s [] = []
  labels_from s (label ∷ labels) =
      colored (color_of (stepped s)) label ∷ labels_from (stepped s) labels

  -- the report points at its first label
  abbrev pub own_span : List AskingLabel → Id × Range ℕ
  own_span [] = piece 0 0
  own_span (label ∷ labels) = piece label.start label.end

  -- an error with this message and these labels, over the source with this id
  abbrev pub report_of : Asking → ReportFields (Id × Range ℕ)
  report_of asking = record (new_report error (own_span asking.labels)) {
    message = Some asking.message;
    labels = labels_from usual_start asking.labels;
    config = config_of asking.options;
  }

-- ---- what it is drawn over

-- a cache with these contents, where ids are the same if eq says so and are shown under these names
abbrev pub sources : {Id : Type 0} → (Id → Id → Bool) → (Id → Option (List ℕ)) → List (Id × Listing)
    → World (Id × Range ℕ) Id
sources eq names contents = world (λ s. s.0) (λ s. s.1.start) (λ s. s.1.end) eq names contents

-- a text that is the only source, and has no name
abbrev pub text_alone : List ℕ → World (Unit × Range ℕ) Unit
text_alone text = sources (λ p q. true) (λ id. None) ((tt, listing_of text) ∷ [])

-- files that were read, each under its path
abbrev pub files : List (Bor (List ℕ) × Listing) → World (Bor (List ℕ) × Range ℕ) (Bor (List ℕ))
files contents = sources (λ p q. bytes_eq p.now q.now) (λ path. Some path.now) contents

-- no file is held but the one at this path
abbrev pub HoldAtMost : Bor (List ℕ) → List (Bor (List ℕ) × Listing) → Type 0
HoldAtMost path contents =
    (q : Bor (List ℕ)) → bytes_eq path.now q.now ≡ false
    → held (λ p q. bytes_eq p.now q.now) contents q ≡ None

-- ---- what has reached an output, whose known bytes are these before and after, by the status

-- nothing has
abbrev pub LeavesNothing : Option (List ℕ) → Option (List ℕ) → Status → Type 0
LeavesNothing before after status.Clean = ⊥
LeavesNothing before after status.Findings = ⊥
LeavesNothing before after status.BadInput = Keeps before after
LeavesNothing before after status.Failed = Keeps before after

-- nothing has: the input can't be read, as a read of it has failed or it is no text, or there was no
-- memory
abbrev pub LeavesUnread : Bool → Option (List ℕ) → Option (List ℕ) → Option (List ℕ) → Status
    → Type 0
LeavesUnread has_failed input before after status.Clean = ⊥
LeavesUnread has_failed input before after status.Findings = ⊥
LeavesUnread has_failed input before after status.BadInput =
    (has_failed ≡ true ⊎ IsNoText input) × Keeps before after
LeavesUnread has_failed input before after status.Failed = Keeps before after

-- the whole picture of a report with all its labels; that without some of them; or, where writing
-- failed, nothing or the first bytes. What it read was old before, and w when it was drawn.
module _ {S Id E : Type 0} (fails : Id → E → Type 0) (old w : World S Id) (r : ReportFields S)
    (before after : Option (List ℕ)) where
  abbrev pub Leaves : Status → Type 0
  Leaves status.Clean = IsWritten fails old w r [] before after
  Leaves status.Findings =
      (list : List (LeftOut E)) × (list ≢ []) × IsWritten fails old w r list before after
  Leaves status.BadInput = ⊥
  Leaves status.Failed =
      Keeps before after ⊎ ((sent : ℕ) × IsCutOff fails old w r sent before after)

-- the report was drawn over the text of standard input, which is its bytes, where those are known
-- (bytes that are no text are never drawn over)
pub record OverInput (asking : Asking) (input before after : Option (List ℕ)) (ended : Status)
    : Type 0 where
  pub text : List ℕ
  pub is_text : IsUtf8 text
  pub read : IfSome input (λ bytes. text ≡ bytes)
  pub leaves : Leaves {E = Unit} (λ id e. ⊥) (text_alone text) (text_alone text)
      (report_of tt asking) before after ended

-- the report was drawn over the file at a path: over the text that was held of it, where there was
-- one. Nothing is held at first, so what can't be read leaves labels out.
pub record OverFile (asking : Asking) (path : List ℕ) (before after : Option (List ℕ))
    (ended : Status) : Type 0 where
  pub id : Bor (List ℕ)
  pub is_path : id.now ≡ path
  pub contents : List (Bor (List ℕ) × Listing)
  pub hold_at_most : HoldAtMost id contents
  pub leaves : Leaves {E = FileError} (λ id e. ⊤) (files []) (files contents)
      (report_of id asking) before after ended

-- by what the options name, and by whether a read of the input has failed
abbrev pub EndedOver : Option (List ℕ) → Asking → Bool → Option (List ℕ) → Option (List ℕ)
    → Option (List ℕ) → Status → Type 0
EndedOver None asking has_failed input before after ended =
    LeavesUnread has_failed input before after ended ⊎ OverInput asking input before after ended
EndedOver (Some path) asking has_failed input before after ended =
    OverFile asking path before after ended

-- by what the words ask for
abbrev pub Ended : Option Asking → Bool → Option (List ℕ) → Option (List ℕ) → Option (List ℕ)
    → Status → Type 0
Ended None has_failed input before after ended = LeavesNothing before after ended
Ended (Some asking) has_failed input before after ended =
    EndedOver asking.options.path asking has_failed input before after ended

-- standard input is read where a report is asked for, and no path is named
abbrev pub reads_input : Option Asking → Bool
reads_input None = false
reads_input (Some asking) = is_none asking.options.path
