use Rattle.std.proofs.Common.{sym}
use Rattle.ariadne_show.proofs.Proposing.{change_missing, edits_more}
use Rattle.ariadne_show.proofs.proposed.edits_of.Goals as goal

-- the file doesn't have a change
pub returns-in_default : goal.returns-in_default
returns-in_default c =
    change_missing c.args.held.now c.args.proposal.now c.args.changes.now c.loop-change.change-index c.change-item.result
    c.loop-change-test.true c.change-item.is (rw c.in_default.is at c.changed.ensures)

-- one more has its edit
pub loop-change-preserved : goal.loop-change-preserved
loop-change-preserved c =
    edits_more c.args.held.now c.args.proposal.now c.args.changes.now c.loop-change.change-index c.change-item.result
    c.loop-change.edits.items c.push.new.self.items _ c.loop-change-test.true c.change-item.is c.in_ok-push.ensures.items
    c.loop-change.invariant
    (record { span = sym (rw c.in-Some.is at c.changed.ensures); text = c.in_ok-text.ensures.cases })
