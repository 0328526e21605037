use Rattle.std.proofs.Common.{◌≡◌, ◌∙◌, ◌∷◌, [], List, ap, refl, subst, sym}
use Rattle.std.specs.Prelude.{ℕ, is_some, IfOk}
use Rattle.ariadne_safe.specs.SafeBuilding.{made_of}
use Rattle.ariadne_safe.specs.declared.report.SafeBuilder.{SafeBuilder}
use Rattle.ariadne_safe.specs.Visible.{visible_bytes}
use Rattle.ariadne_safe.specs.declared.text.TextKind.TheVariants.{Aside}
use Rattle.ariadne_show.specs.Asides.{missing_notes, location_text, with_notes}
use Rattle.ariadne_show.specs.FoundSpans.{files_of}
use Rattle.ariadne_show.specs.Wrapped.{wrapped}
use Rattle.ariadne_show.proofs.Notes.{no_notes, not_missing, one_missing}
use Rattle.ariadne_show.proofs.asides.with_missing_one.Goals as goal

-- a span that was found has no note
pub returns-in-Some : goal.returns-in-Some
returns-in-Some c =
    let built = made_of c.args.builder in
    let none : missing_notes c.args.width (files_of c.args.shelf.now) (c.args.span.now ∷ []) ≡ [] =
    not_missing c.args.width (files_of c.args.shelf.now) c.args.span.now (ap is_some (sym c.in-Some.ensures.found)) in record {
      report = no_notes built ∙ ap (λ (l : List (List ℕ)). with_notes l built) (sym none);
      sources = refl;
    }

-- another has one
pub returns-in_ok-rows-in-None : goal.returns-in_ok-rows-in-None
returns-in_ok-rows-in-None c =
    let span = c.args.span.now in
    let n = c.args.width in
    let one : visible_bytes Aside c.as_str-in-None-2.result.now ∷ [] ≡ missing_notes n (files_of c.args.shelf.now) (span ∷ []) =
    ap (λ t. visible_bytes Aside t ∷ [])
    (c.as_str-in-None-2.ensures.value ∙ c.in_ok-rows-in-None.ensures.rows ∙ ap (wrapped n)
    (c.as_str-in-None.ensures.value ∙ c.in_ok-note-in-None.ensures.text ∙ ap (location_text span) c.as_str.ensures.value))
    ∙ sym (one_missing n (files_of c.args.shelf.now) span (ap is_some (sym c.in-None.ensures.found))) in record {
      report = subst (λ (l : List (List ℕ)). IfOk c.with_note.result (λ (b : SafeBuilder). made_of b ≡ with_notes l (made_of c.args.builder)))
          one c.with_note.ensures.report;
      sources = c.with_note.ensures.sources;
    }
