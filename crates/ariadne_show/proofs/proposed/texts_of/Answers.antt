use Rattle.std.proofs.lemmas.List.{take_all}
use Rattle.ariadne_show.specs.DrawnProposals.{no_way}
use Rattle.ariadne_show.proofs.Proposing.{no_item, some_item, way_without, ways_all, ways_more}
use Rattle.ariadne_show.proofs.proposed.texts_of.Goals as goal

-- there is no way
pub returns-then-is_empty : goal.returns-then-is_empty
returns-then-is_empty c =
    no_way (no_item c.args.proposal.now.ways c.is_empty.result c.is_empty.ensures c.if-is_empty.true)

-- some way has no text
pub returns-in_default : goal.returns-in_default
returns-in_default c =
    way_without c.args.room c.args.held.now c.args.source.now c.args.proposal.now c.deref-way-items.result.now
    c.loop-way.way-index c.way-item.result c.as_slice.result.now c.deref-way-items.ensures.value c.loop-way-test.true
    c.way-item.is c.as_slice.ensures.value (rw c.in_default.is at c.in_ok-text.ensures)

-- one more has its text
pub loop-way-preserved : goal.loop-way-preserved
loop-way-preserved c =
    ways_more c.args.room c.args.held.now c.args.source.now c.args.proposal.now c.deref-way-items.result.now
    c.loop-way.way-index c.way-item.result c.as_slice.result.now c.loop-way.texts.items c.push.new.self.items c.in-Some.text
    c.loop-way-test.true c.way-item.is c.as_slice.ensures.value c.in_ok-push.ensures.items c.loop-way.invariant
    (rw c.in-Some.is at c.in_ok-text.ensures)

-- all have theirs
pub returns : goal.returns
returns c =
    ways_all c.args.room c.args.held.now c.args.source.now c.args.proposal.now c.deref-way-items.result.now
    c.loop-way.way-index c.loop-way.texts c.deref-way-items.ensures.value
    (take_all c.loop-way.way-index c.deref-way-items.result.now c.loop-way-test.false)
    (some_item c.args.proposal.now.ways c.is_empty.result c.is_empty.ensures c.if-is_empty.false) c.loop-way.invariant
