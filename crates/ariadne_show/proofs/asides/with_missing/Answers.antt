use Rattle.std.proofs.Common.{◌≡◌, ◌∙◌, ◌+◌, ◌++◌, ◌∷◌, [], List, ap, refl, sym, take}
use Rattle.std.proofs.lemmas.List.{take_more}
use Rattle.std.specs.Prelude.{ℕ}
use Rattle.ariadne_safe.specs.SafeBuilding.{made_of}
use Rattle.ariadne_show.specs.Asides.{missing_notes, with_notes}
use Rattle.ariadne_show.specs.FoundSpans.{files_of}
use Rattle.ariadne_show.proofs.Notes.{missing_more, no_notes, notes_more}
use Rattle.ariadne_show.proofs.asides.with_missing.Goals as goal

-- none at first
pub loop-span-init : goal.loop-span-init
loop-span-init c = record { report = no_notes (made_of c.args.builder); sources = refl }

-- one span more in each turn
pub loop-span-preserved : goal.loop-span-preserved
loop-span-preserved c =
    let i = c.loop-span.span-index in
    let all = c.args.spans.now in
    let files = files_of c.args.shelf.now in
    let n = c.args.width in
    let span = c.span-item.result in
    let more : take (i + 1) all ≡ take i all ++ span ∷ [] =
    take_more all i span c.loop-span-test.true ∙ ap (λ x. take i all ++ x ∷ []) (sym c.span-item.is) in record {
      report = notes_more (made_of c.args.builder) (made_of c.loop-span.builder) (made_of c.in_ok-builder.builder)
          (missing_notes n files (take i all)) (missing_notes n files (span ∷ [])) c.loop-span.invariant.report
          c.in_ok-builder.ensures.report
          ∙ ap (λ (l : List (List ℕ)). with_notes l (made_of c.args.builder))
          (missing_more n files (take i all) (take (i + 1) all) span more);
      sources = c.in_ok-builder.ensures.sources ∙ c.loop-span.invariant.sources;
    }
