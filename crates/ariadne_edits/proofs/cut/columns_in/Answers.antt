use Rattle.std.proofs.Common.{◌≡◌, ◌∙◌, ◌+◌, ap, rules}
use Rattle.ariadne_edits.proofs.Cuts.{counted_more, counted_all}
use Rattle.ariadne_edits.proofs.cut.columns_in.Goals as goal

-- a character more
pub loop-c-preserved : goal.loop-c-preserved
loop-c-preserved c =
    let next : c.in_ok-columns.columns ≡ c.loop-c.columns + c.columns_of.result = search rules in
    counted_more c.args.text.now c.loop-c.c-index c.loop-c.columns c.loop-c.invariant c.c-item.result c.in_ok-columns.columns c.loop-c-test.true c.c-item.is
    (next ∙ ap (λ n. c.loop-c.columns + n) c.columns_of.ensures.columns)

pub returns : goal.returns
returns c = counted_all c.args.text.now c.loop-c.c-index c.loop-c.columns c.loop-c.invariant c.loop-c-test.false
