-- What a write of a report leaves, told in the program's words.
use Rattle.std.proofs.Common.{◌≡◌, refl, sym, ap, ◌∙◌, append_assoc, get_or, inl, inr}
use Rattle.std.specs.Prelude.{ℕ, ◌+◌, ◌<◌, Bool, false, List, [], ◌∷◌, ◌++◌, length, map, drop, Option, Result, Ok, Err, Vec}
use Rattle.std.proofs.lemmas.List.{drop_more}
use Rattle.std.specs.List.{list_any}
use Rattle.std.specs.declared.alloc.Global.{Global}
use Rattle.std.specs.declared.ops.Range.{Range}
use Rattle.ariadne.specs.Cache.{held}
use Rattle.ariadne.specs.Generator.{GeneratorState, color_of, stepped, usual_start}
use Rattle.ariadne.specs.Listing.{Listing}
use Rattle.ariadne.specs.Report.{LabelFields, ReportFields, World}
use Rattle.ariadne.specs.Judging.{GrowsFor}
use Rattle.ariadne.specs.Written.{IsWritten, Written}
use Rattle.ariadne.specs.LeftOut.{LeftOut}
use Rattle.ariadne.specs.declared.write_error.WriteError.{WriteError}
use Rattle.ariadne.specs.declared.write_error.WriteError.TheVariants as write
use Rattle.ariadne_commands.specs.ReadWords.{label_asking}
use Rattle.ariadne_commands.specs.declared.asked.RequestedLabel.{RequestedLabel}
use Rattle.ariadne_commands.specs.Drawn.{Leaves, colored, labels_from}
use Rattle.ariadne_commands.specs.Faults.{status_of_written, status_without}
use Rattle.ariadne_commands.specs.Words.{AskingLabel}

module _ {Id : Type 0} (eq : Id → Id → Bool) (id q : Id) where
  -- all labels are of the one id
  none_named : eq id q ≡ false → (s : GeneratorState) (labels : List AskingLabel)
      → list_any (λ label. eq label.span.0 q) (labels_from id s labels) ≡ false
  none_named other s [] = refl
  none_named other s (label ∷ labels) = rw other (none_named other (stepped s) labels)

  -- so only the source under that id can be new
  pub others_kept : (r : List (LabelFields (Id × Range ℕ))) (labels : List AskingLabel) (old new : List (Id × Listing))
      → GrowsFor (λ s. s.0) eq r old new → r ≡ labels_from id usual_start labels
      → eq id q ≡ false → held eq new q ≡ held eq old q
  others_kept r labels old new grows are other = grows.only q (rw are (none_named other usual_start labels))

-- a report that gets other labels stays as it is but for these
pub report_next : {S : Type 0} (report before after : ReportFields S) (labels : List (LabelFields S)) → after ≡ record before { labels = labels }
    → before ≡ record report { labels = before.labels } → after ≡ record report { labels = after.labels }
report_next report before after labels next so_far = rw (next, so_far) refl

-- the labels so far and those that come, and the next one of these taken
pub label_next : {Id : Type 0} (id : Id) (s : GeneratorState) (so_far all : List (LabelFields (Id × Range ℕ))) (items : List RequestedLabel) (i : ℕ) (label : RequestedLabel)
    → i < length items → label ≡ get_or items i label
    → so_far ++ labels_from id s (map label_asking (drop i items)) ≡ all
    → (so_far ++ colored id (color_of (stepped s)) (label_asking label) ∷ []) ++ labels_from id (stepped s) (map label_asking (drop (i + 1) items)) ≡ all
label_next id s so_far all items i label inside is before =
    let taken : drop i items ≡ label ∷ drop (i + 1) items = drop_more items i label inside ∙ ap (λ first. first ∷ drop (i + 1) items) (sym is) in
    append_assoc so_far _ _ ∙ (rw taken at before)

module _ {S Id E : Type 0} (fails : Id → E → Type 0) (old w : World S Id) (r : ReportFields S) (before after : Option (List ℕ)) where
  -- the whole picture, by the labels that were left out of it
  left_without : (list : List (LeftOut E)) → IsWritten fails old w r list before after → Leaves fails old w r before after (status_without list)
  left_without [] whole = whole
  left_without (label ∷ labels) whole = (label ∷ labels, (λ none. cc), whole)

  -- what the writing has left, by its status
  pub left_by_writing : (written : Result (Vec (LeftOut E) Global) WriteError) → Written fails old w r before after written
      → Leaves fails old w r before after (status_of_written written)
  left_by_writing (Ok list) whole = left_without list.items whole
  left_by_writing (Err (write.Memory refused)) keeps = inl keeps
  left_by_writing (Err (write.Io sent fault)) cut = inr (sent, cut)
