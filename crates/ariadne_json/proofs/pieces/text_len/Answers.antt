use Rattle.ariadne_json.proofs.Ends.{step_on}
use Rattle.ariadne_json.proofs.pieces.text_len.Goals as goal

-- one byte more in each turn
pub loop-place-preserved : goal.loop-place-preserved
loop-place-preserved c =
    step_on c.args.bytes.now c.loop-place.place _ c.loop-place.is_escaped c.ends_text.result c.escapes-is_escaped.result
    c.loop-place-test.true c.ends_text.ensures c.escapes-is_escaped.ensures c.if-ends_text.false c.loop-place.invariant
