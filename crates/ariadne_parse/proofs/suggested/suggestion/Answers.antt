-- What is said so far goes on with what a span says.
use Rattle.std.proofs.Common.{◌+◌, ◌++◌, ap, drop, refl, sym}
use Rattle.std.specs.Prelude.{string_bytes}
use Rattle.serde_json.specs.View.{items_view, view}
use Rattle.ariadne_parse.specs.Suggested.{parts_behind, said_behind}
use Rattle.ariadne_parse.proofs.Loops.{all_made, one_more}
use Rattle.ariadne_parse.proofs.suggested.suggestion.Goals as goal

pub loop-span_value-preserved : goal.loop-span_value-preserved
loop-span_value-preserved c =
    let i = c.loop-span_value.span_value-index in
    let step = said_behind c.loop-span_value.first (view c.span_value-item.result) in
    one_more (λ l. parts_behind c.loop-span_value.first (items_view l)) (λ l. parts_behind c.push_part.new.first (items_view l))
    c.args.span_values.now i c.span_value-item.result (string_bytes c.loop-span_value.said) step
    (string_bytes c.push_part.new.said) _ c.loop-span_value-test.true c.span_value-item.is
    (ap (λ first. step ++ parts_behind first (items_view (drop (i + 1) c.args.span_values.now))) (sym c.in_ok-push_part.ensures.first))
    c.in_ok-push_part.ensures.said c.loop-span_value.invariant

pub returns : goal.returns
returns c =
    all_made (λ l. parts_behind c.loop-span_value.first (items_view l)) c.args.span_values.now c.loop-span_value.span_value-index _ _
    c.loop-span_value-test.false refl c.loop-span_value.invariant
