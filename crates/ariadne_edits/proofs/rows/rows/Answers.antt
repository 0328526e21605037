use Rattle.std.proofs.Common.{◌≡◌, arith, length, rules}
use Rattle.ariadne_base.specs.Listing.{listed_lines}
use Rattle.ariadne_edits.proofs.Counterparts.{none_kept, run_kept}
use Rattle.ariadne_edits.proofs.KeptRows.{due_end, due_first, due_more}
use Rattle.ariadne_edits.proofs.RowLists.{told_none}
use Rattle.ariadne_edits.proofs.rows.rows.Goals as goal

-- a pair more is kept, or passed
pub loop-pair-preserved : goal.loop-pair-preserved
loop-pair-preserved c =
    let due = c.loop-pair.invariant.4 in (
      c.in_ok-told.ensures.there,
      c.in_ok-told.ensures.new_there,
      c.in_ok-told.ensures.told c.loop-pair.invariant.2,
      c.in_ok-told.ensures.counterparts c.loop-pair.invariant.3,
      due_more (listed_lines c.args.old.now) (listed_lines c.args.new.now) c.args.pairs.now c.loop-pair.pair-index (0, 0) c.loop-pair.told c.in_ok-told.told
          c.loop-pair.rows.items c.push_pair.new.rows.items c.loop-pair-test.true due c.in_ok-told.ensures.next c.in_ok-told.ensures.keeps c.in_ok-told.ensures.kept,
    )

-- none is left
pub returns-clause-kept : goal.returns-clause-kept
returns-clause-kept c = λ i p.
    c.in_ok-push_run.ensures.keeps i
    (due_end (listed_lines c.args.old.now) (listed_lines c.args.new.now) c.args.pairs.now c.loop-pair.pair-index c.loop-pair.told c.loop-pair.rows.items
    c.loop-pair-test.false c.loop-pair.invariant.4 i p)

-- at first nothing is told
pub loop-pair-init : goal.loop-pair-init
loop-pair-init c =
    let old = listed_lines c.args.old.now in
    let new = listed_lines c.args.new.now in
    rw (c.new-rows.ensures.items) (omega arith, omega arith, told_none old new, none_kept, due_first old new c.args.pairs.now)

-- the last lines are a run
pub returns-clause-counterparts : goal.returns-clause-counterparts
returns-clause-counterparts c =
    let old = length (listed_lines c.args.old.now) in
    let new = length (listed_lines c.args.new.now) in
    let end : c.len.result ≡ old = search rules in
    let new_end : c.len-2.result ≡ new = search rules in
    (run_kept c.loop-pair.told old new c.len.result c.len-2.result c.loop-pair.rows.items c.push_run.new.rows.items
    end new_end c.loop-pair.invariant.3 c.in_ok-push_run.ensures.counterparts).counterparts
