-- What the caller in `calling` draws: a report with one label, over one text that is held, which draws
-- it. What is said of the picture is said in the library's own words.
use Rattle.std.specs.Prelude.{ℕ, ⊤, true, false, List, [], ◌∷◌, Some, None, chars, codes, map}
use Rattle.std.specs.List.{enumerate_from}
use Rattle.std.specs.declared.ops.Range.{Range}
use Rattle.ariadne.specs.Accept.{info_of}
use Rattle.ariadne.specs.Canvas.{Cell, canvas, sections, texts_of}
use Rattle.ariadne.specs.CacheReads.{world}
use Rattle.ariadne.specs.Headline.{CanBeRead}
use Rattle.ariadne.specs.LabelInfo.{LabelInfo}
use Rattle.ariadne.specs.Lines.{lines_of}
use Rattle.ariadne.specs.Pieces.{message_at}
use Rattle.ariadne.specs.Placing.{has_message_rows}
use Rattle.ariadne.specs.Print.{printed}
use Rattle.ariadne.specs.Report.{LabelFields, ReportFields, World, default_config, error, new_label}
use Rattle.ariadne.specs.Report.{new_report}

-- the label at a place
abbrev pub here : Range ℕ → LabelFields (Range ℕ)
here place = record (new_label place) { message = Some (codes "not found here") }

-- the report of an unknown name at a place
abbrev pub unknown_name : Range ℕ → ReportFields (Range ℕ)
unknown_name place = record (new_report error place) {
  message = Some (codes "unknown name");
  labels = here place ∷ [];
  config = record default_config { color = false };
}

-- a text that is held, and has no name
abbrev pub over : List ℕ → World (Range ℕ) ⊤
over text = world (λ place. tt) (λ place. place.start) (λ place. place.end) (λ p q. true)
    (λ id. None) ((tt, record { text = text; display_offset = 0 }) ∷ [])

-- what is drawn of a report over a text: each label, as its span has it
abbrev pub all_drawn : List ℕ → ReportFields (Range ℕ) → List LabelInfo
all_drawn text r =
    let drawn = info_of r.config.label_attach (lines_of (chars text)) in
    map (λ e. drawn e.0 e.1 e.1.span.start e.1.span.end) (enumerate_from 0 r.labels)

-- its picture, row by row
abbrev pub rows : List ℕ → ReportFields (Range ℕ) → List (List Cell)
rows text r = canvas (over text) r (all_drawn text r)

-- the bytes of it
abbrev pub picture : List ℕ → ReportFields (Range ℕ) → List ℕ
picture text r = printed (rows text r)

-- each message that is drawn has a row of its own
abbrev pub MessagesHaveRows : List ℕ → ReportFields (Range ℕ) → Type 0
MessagesHaveRows text r =
    CanBeRead (rows text r) (sections (over text) r (all_drawn text r))
    (λ placing. has_message_rows (rows text r) (sections (over text) r (all_drawn text r)) placing
    (message_at (texts_of r)))
