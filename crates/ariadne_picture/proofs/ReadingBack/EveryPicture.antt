-- Every picture is read back: over the sources of its groups, whose lines have numbers that are printed apart, its rows tell
-- what its labels are, in another order.
use Rattle.ariadne_picture.specs.ReadBack.Rows.{Known}
use Rattle.std.proofs.Common.{◌≡◌, ℕ, true, List, Some, IsPermutation, refl, sym, ap, ◌∙◌}
use Rattle.std.specs.Prelude.{slice_get}
use Rattle.std.proofs.lemmas.Bool.{true≢false, not-true}
use Rattle.ariadne_picture.specs.Ranks.{is_start}
use Rattle.ariadne_picture.specs.Rows.{Row, arrow}
use Rattle.ariadne_picture.specs.Pieces.{Section, message_at}
use Rattle.ariadne_picture.specs.ReadBack.Answer.{read_back}
use Rattle.ariadne_picture.specs.ReadBack.Labels.{labels_told}
use Rattle.ariadne_picture.proofs.Reading.Pictures.{Picture, RowAt, rows_of}
use Rattle.ariadne_picture.proofs.Reading.PlaceCounts.{ArePlaced}
use Rattle.ariadne_picture.proofs.Reading.RowNames.{name-of, named-arrow}
use Rattle.ariadne_picture.proofs.ReadingBack.LineTexts.{AreSources, ArePrintedApart}
use Rattle.ariadne_picture.proofs.ReadingBack.LineFound.{line-is, begin-is, source-line-is, source-begin-is}
use Rattle.ariadne_picture.proofs.ReadingBack.MessageKinds.{is_no_start, names_message, is-message, message-kind}
use Rattle.ariadne_picture.proofs.ReadingBack.AllTold.{HasMessage, told-back}

module _ (v : Picture) (sources : List Known) (from : AreSources v sources) (placed : ArePlaced v)
    (apart : (g : ℕ) (s : Section) → slice_get v.sections g ≡ Some s → ArePrintedApart s) where
  -- a row that has a message is the arrow row of a line label that is no start
  message-only : (g : ℕ) (s : Section) (k : ℕ) (y : Row) → RowAt v g s k y → names_message s y ≡ true → HasMessage v g s y
  message-only g s k (arrow l r) is on =
      let name = name-of v is in
      let q = named-arrow v is name in
      record { line = l; rank = r; label = name.label; arrow_row = q; no_start = not-true (is_start name.label.side) (sym (ap is_no_start q.there) ∙ on); is = refl }
  message-only g s k y is on = absurd (true≢false (sym on))

  -- so the picture tells all its labels and nothing else
  pub picture-read : IsPermutation (read_back (rows_of v) sources v.texts.switches) (labels_told (message_at v.texts) v.sections)
  picture-read =
      told-back v sources
      (λ g s l r x q off. is-message v sources from placed (apart g s q.line.group) q off)
      (λ g s k y is on. message-only g s k y is (sym (message-kind v sources from placed (apart g s is.group) y is) ∙ on))
      placed
      (λ g s l h. record {
        line = source-line-is v sources from placed h (apart g s h.group);
        begin = source-begin-is v sources from placed h (apart g s h.group);
      })
      (λ g s l r x q. record {
        line = line-is v sources from placed q.line (apart g s q.line.group) q.index (arrow l r) q.row;
        begin = begin-is v sources from placed q.line (apart g s q.line.group) q.index (arrow l r) q.row;
      })
