use Rattle.std.proofs.Common.{◌≡◌, ◌∙◌, ◌+◌, ◌++◌, ◌∷◌, [], ℕ, List, ap, sym, take}
use Rattle.std.proofs.lemmas.List.{take_more}
use Rattle.ariadne_safe.specs.SafeBuilding.{made_of}
use Rattle.ariadne_show.specs.Asides.{texts_at, with_helps}
use Rattle.ariadne_show.proofs.Notes.{helps_more}
use Rattle.ariadne_show.proofs.Proposing.{texts_at_more}
use Rattle.ariadne_show.proofs.asides.with_sketches.Goals as goal

-- one more in each turn
pub loop-sketch-preserved : goal.loop-sketch-preserved
loop-sketch-preserved c =
    let i = c.loop-sketch.sketch-index in
    let all = c.args.sketches.now in
    let n = c.args.number in
    let sketch = c.sketch-item.result in
    let more : take (i + 1) all ≡ take i all ++ sketch ∷ [] =
    take_more all i sketch c.loop-sketch-test.true ∙ ap (λ x. take i all ++ x ∷ []) (sym c.sketch-item.is) in record {
      report = helps_more (made_of c.args.builder) (made_of c.loop-sketch.builder) (made_of c.in_ok-builder.builder)
          (texts_at n (take i all)) (texts_at n (sketch ∷ [])) c.loop-sketch.invariant.report c.in_ok-builder.ensures.report
          ∙ ap (λ (l : List (List ℕ)). with_helps l (made_of c.args.builder)) (texts_at_more n (take i all) (take (i + 1) all) sketch more);
      sources = c.in_ok-builder.ensures.sources ∙ c.loop-sketch.invariant.sources;
    }
