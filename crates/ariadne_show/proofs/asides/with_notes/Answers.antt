use Rattle.std.proofs.Common.{◌≡◌, ◌∙◌, ◌+◌, ◌++◌, ◌∷◌, [], List, ap, refl, sym, take}
use Rattle.std.proofs.lemmas.List.{take_more}
use Rattle.std.specs.Prelude.{ℕ}
use Rattle.ariadne_safe.specs.SafeBuilding.{made_of}
use Rattle.ariadne_safe.specs.Visible.{visible_bytes}
use Rattle.ariadne_safe.specs.declared.text.TextKind.TheVariants.{Aside}
use Rattle.ariadne_show.specs.Asides.{aside_notes, with_notes}
use Rattle.ariadne_show.specs.Wrapped.{wrapped}
use Rattle.ariadne_show.proofs.Notes.{no_notes, notes_more, texts_more}
use Rattle.ariadne_show.proofs.asides.with_notes.Goals as goal

-- none at first
pub loop-note-init : goal.loop-note-init
loop-note-init c = record { report = no_notes (made_of c.args.builder); sources = refl }

-- one more in each turn
pub loop-note-preserved : goal.loop-note-preserved
loop-note-preserved c =
    let i = c.loop-note.note-index in
    let all = c.args.notes.now in
    let n = c.args.width in
    let note = c.note-item.result in
    let text = c.as_str-in-loop-note.result.now in
    let more : take (i + 1) all ≡ take i all ++ note ∷ [] =
    take_more all i note c.loop-note-test.true ∙ ap (λ x. take i all ++ x ∷ []) (sym c.note-item.is) in record {
      report = notes_more (made_of c.args.builder) (made_of c.loop-note.builder) (made_of c.in_ok-builder.builder)
          (aside_notes n (take i all)) (visible_bytes Aside text ∷ []) c.loop-note.invariant.report
          c.in_ok-builder.ensures.report
          ∙ ap (λ (l : List (List ℕ)). with_notes l (made_of c.args.builder))
          (texts_more n (take i all) (take (i + 1) all) note text
          (c.as_str-in-loop-note.ensures.value ∙ c.in_ok-note.ensures.rows ∙ ap (wrapped n) c.as_str.ensures.value) more);
      sources = c.in_ok-builder.ensures.sources ∙ c.loop-note.invariant.sources;
    }
