use Rattle.std.proofs.Common.{◌≡◌, ◌∙◌, ◌+◌, ◌++◌, ◌∷◌, [], ap, refl, sym, take}
use Rattle.std.proofs.lemmas.List.{take_more}
use Rattle.ariadne_safe.specs.SafeBuilding.{made_of, sources_under}
use Rattle.ariadne_show.proofs.Ordered.{label_more, no_labels}
use Rattle.ariadne_show.proofs.drawing.with_labels.Goals as goal

-- none at first
pub loop-it-init : goal.loop-it-init
loop-it-init c = record { report = no_labels (made_of c.args.builder); sources = refl }

-- one more in each turn
pub loop-it-preserved : goal.loop-it-preserved
loop-it-preserved c =
    let i = c.loop-it.it-index in
    let all = c.args.spans.now in
    let it = c.it-item.result in
    let more : take (i + 1) all ≡ take i all ++ it ∷ [] =
    take_more all i it c.loop-it-test.true ∙ ap (λ x. take i all ++ x ∷ []) (sym c.it-item.is) in record {
      report = label_more (made_of c.args.builder) (made_of c.loop-it.builder) (made_of c.in_ok-builder.builder)
          (sources_under c.args.builder) (sources_under c.loop-it.builder) c.args.severity c.args.is_compact (take i all) (take (i + 1) all) it
          _ c.loop-it.invariant.report c.loop-it.invariant.sources c.in_ok-label_of.ensures more
          c.in_ok-builder.ensures.report;
      sources = c.in_ok-builder.ensures.sources ∙ c.loop-it.invariant.sources;
    }
