use Rattle.std.proofs.Common.{◌≡◌, ◌∙◌, ap, take}
use Rattle.std.proofs.lemmas.List.{take_all}
use Rattle.serde_json.specs.Data.{array}
use Rattle.serde_json.specs.View.{items_of}
use Rattle.ariadne_outputs.specs.Located.{located_spans_of}
use Rattle.ariadne_outputs.specs.Sarif.{related_datas}
use Rattle.ariadne_outputs.proofs.Related.{related_more}
use Rattle.ariadne_outputs.proofs.sarif.related_sarif_locations.Goals as goal

-- a location more is there
pub loop-index-preserved : goal.loop-index-preserved
loop-index-preserved c =
    related_more c.loop-index.all.items c.push.new.self.items c.args.spans.now c.loop-index.index c.index-spans-index.result
    c.in_ok-related_sarif_location.field-0 c.loop-index.invariant c.loop-index-test.true c.index-spans-index.is
    c.in_ok-related_sarif_location.ensures c.in_ok-push.ensures.items

-- all are
pub returns : goal.returns
returns c =
    let all : take c.loop-index.index c.args.spans.now ≡ c.args.spans.now = take_all c.loop-index.index c.args.spans.now c.loop-index-test.false in
    c.from.ensures ∙ ap (λ ds. array (items_of ds)) (c.loop-index.invariant ∙ ap (λ ps. related_datas 1 (located_spans_of ps)) all)
