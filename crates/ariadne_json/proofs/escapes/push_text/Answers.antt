use Rattle.std.proofs.Common.{◌<◌, ◌∙◌, ap, arith, eqb-true, false-eqb, length, min, sym}
use Rattle.ariadne_json.proofs.Parts.{part_end, part_on}
use Rattle.ariadne_json.proofs.escapes.push_text.Goals as goal

-- one part more in each turn
pub loop-rest-preserved : goal.loop-rest-preserved
loop-rest-preserved c =
    let some : 0 < length c.loop-rest.rest.now = omega (arith, false-eqb _ 0 c.loop-rest-test.ensures) in
    part_on c.loop-rest.out.items c.loop-rest.rest.now _ c.loop-rest.invariant c.push_part.new.out.items c.split_at.result.0.now
    c.split_at.result.1.now c.min.result c.in_ok-push_part.ensures c.split_at.ensures.front c.split_at.ensures.back
    (c.min.ensures ∙ ap (λ n. min n (length c.loop-rest.rest.now)) c.part_len.ensures.len) some

-- nothing is left at the end
pub returns : goal.returns
returns c =
    part_end c.loop-rest.out.items c.loop-rest.rest.now _ c.loop-rest.invariant (eqb-true _ 0 (sym c.loop-rest-test.ensures))
