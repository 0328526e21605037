use Rattle.ariadne_edits.proofs.Cuts.{common_over}
use Rattle.ariadne_edits.proofs.cut.common_len.Goals as goal

-- one text is over
pub returns-clause-common : goal.returns-clause-common
returns-clause-common c =
    common_over c.args.text.now c.args.other.now c.loop-count.count _ c.loop-count.invariant c.min-len.result c.min-len.ensures
    c.loop-count-test.false c.loop-count.auto.count-end
