-- What `write` ensures, by its result: which labels it left out and why, and what of the picture of
-- the others has reached the writer. And what `margin_columns` tells of the others.
use Rattle.std.specs.Prelude.{ℕ, ◌<◌, ◌≡◌, List, length, take, Option, Result, Ok, Err, Vec}
use Rattle.std.specs.Io.KnownBytes.{Appends, Keeps}
use Rattle.std.specs.declared.alloc.Global.{Global}
use Rattle.ariadne_picture.specs.Margins.{margin_columns}
use Rattle.ariadne_picture.specs.Report.{ReportFields, World}
use Rattle.ariadne_picture.specs.Headline.{Headline}
use Rattle.ariadne_report.specs.declared.accept.LeftOut.{LeftOut}
use Rattle.ariadne_report.specs.Judging.{AreOutcomes, Outcome, drawn_labels, listed}
use Rattle.ariadne.specs.declared.write_error.WriteError.{WriteError}
use Rattle.ariadne.specs.declared.write_error.WriteError.TheVariants.{Memory, Io}

module _ {S Id E : Type 0} (fails : Id → E → Type 0) (old w : World S Id) (r : ReportFields S) where
  -- the bytes are the picture of the labels that are drawn, and on it every message can be found; the
  -- other labels are listed
  pub record IsPicture (bytes : List ℕ) (list : List (LeftOut E)) : Type 0 where
    pub outcomes : List (Outcome E)
    pub are_outcomes : AreOutcomes fails old w r.config r.labels outcomes
    pub left_out : list ≡ listed 0 outcomes
    pub drawn : Headline w r (drawn_labels outcomes) bytes

  -- so many columns stand in front of the source texts of the labels that are drawn
  pub record HasMargin (columns : ℕ) : Type 0 where
    pub outcomes : List (Outcome E)
    pub are_outcomes : AreOutcomes fails old w r.config r.labels outcomes
    pub columns_are : columns ≡ margin_columns w r (drawn_labels outcomes)

  -- the whole picture was written, and the list is that of its left-out labels
  pub record IsWritten (list : List (LeftOut E)) (before after : Option (List ℕ)) : Type 0 where
    pub bytes : List ℕ
    pub picture : IsPicture bytes list
    pub sent : Appends before after bytes

  -- only the first bytes were written, of a picture that has more
  pub record IsCutOff (len : ℕ) (before after : Option (List ℕ)) : Type 0 where
    pub bytes : List ℕ
    pub list : List (LeftOut E)
    pub picture : IsPicture bytes list
    pub has_more : len < length bytes
    pub sent : Appends before after (take len bytes)

  -- what has reached the writer, by the result
  abbrev pub Written : Option (List ℕ) → Option (List ℕ)
      → Result (Vec (LeftOut E) Global) WriteError → Type 0
  Written before after (Ok list) = IsWritten list.items before after
  Written before after (Err (Memory _)) = Keeps before after
  Written before after (Err (Io sent fault)) = IsCutOff sent before after
