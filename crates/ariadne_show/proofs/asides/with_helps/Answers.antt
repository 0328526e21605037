use Rattle.std.proofs.Common.{◌≡◌, ◌∙◌, ◌+◌, ◌∷◌, add-one, ap, drop, drop-cons, refl, sym}
use Rattle.std.proofs.lemmas.List.{drop_all}
use Rattle.std.specs.Prelude.{suc}
use Rattle.ariadne_safe.specs.SafeBuilding.{made_of}
use Rattle.ariadne_show.specs.Asides.{own_text, texts_at}
use Rattle.ariadne_show.proofs.Proposing.{help_more, no_help_left}
use Rattle.ariadne_show.proofs.asides.with_helps.Goals as goal

-- one more in each turn
pub loop-number-preserved : goal.loop-number-preserved
loop-number-preserved c =
    let i = c.loop-number.number in
    let all = c.args.helps.now in
    let n = c.args.width in
    let sketches = c.args.sketches.now in
    let help = c.index-helps-number.result in
    let first : drop i all ≡ help ∷ drop (i + 1) all =
    rw add-one (drop-cons all i help c.loop-number-test.true ∙ ap (λ x. x ∷ drop (suc i) all) (sym c.index-helps-number.is)) in record {
      report = help_more n sketches i (drop i all) (drop (i + 1) all) help (made_of c.loop-number.builder)
          (made_of c.in_ok-builder.builder) (made_of c.in_ok-builder-2.builder) (texts_at i sketches) (own_text n sketches i help)
          first refl c.in_ok-builder.ensures.report c.in_ok-builder-2.ensures.report
          ∙ c.loop-number.invariant.report;
      sources = c.in_ok-builder-2.ensures.sources ∙ c.in_ok-builder.ensures.sources ∙ c.loop-number.invariant.sources;
    }

-- none is left
pub returns-clause-report : goal.returns-clause-report
returns-clause-report c =
    no_help_left c.args.width c.args.sketches.now c.loop-number.number (drop c.loop-number.number c.args.helps.now)
    (made_of c.loop-number.builder) (drop_all c.loop-number.number c.args.helps.now c.loop-number-test.false)
    ∙ c.loop-number.invariant.report
