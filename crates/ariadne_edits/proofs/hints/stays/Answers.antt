use Rattle.std.proofs.Common.{arith, []}
use Rattle.ariadne_edits.specs.declared.change.Change.{Change}
use Rattle.ariadne_edits.proofs.StayLists.{change_room, so_far_more, so_far_end}
use Rattle.ariadne_edits.proofs.hints.stays.Goals as goal

abbrev no_change : Change
no_change = record { number = 0; start = 0; end = 0; text = record { ref_ptr = (0, 0); now = [] } }

pub overflow_add-to-in-loop-change : goal.overflow_add-to-in-loop-change
overflow_add-to-in-loop-change c =
    let room = change_room c.args.text.now c.args.size c.args.changes.now c.loop-change.at c.loop-change.to c.loop-change.back c.loop-change.stays.items
    c.args.changes.now c.loop-change.change-index no_change c.loop-change-test.true c.loop-change.invariant in
    omega (arith, room, c.ranges.size)

pub loop-change-preserved : goal.loop-change-preserved
loop-change-preserved c =
    rw (c.in_ok-push.ensures).items
    (so_far_more c.args.text.now c.args.size c.args.changes.now c.loop-change.at c.loop-change.to c.loop-change.back c.loop-change.stays.items
    c.args.changes.now c.loop-change.change-index no_change c.trim_of-trim.result.front c.trim_of-trim.result.back c.loop-change-test.true c.loop-change.invariant
    c.trim_of-trim.ensures.old c.trim_of-trim.ensures.new)

pub returns-clause-are : goal.returns-clause-are
returns-clause-are c =
    rw (c.in_ok-push-2.ensures).items
    (so_far_end c.args.text.now c.args.size c.args.changes.now c.loop-change.at c.loop-change.to c.loop-change.back c.loop-change.stays.items
    c.args.changes.now c.loop-change.change-index c.loop-change-test.false c.loop-change.invariant)
