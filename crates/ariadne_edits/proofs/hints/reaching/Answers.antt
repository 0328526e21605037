use Rattle.std.proofs.Common.{◌∙◌, sym, arith}
use Rattle.std.proofs.lemmas.List.{take_rest}
use Rattle.ariadne_edits.proofs.PairLists.{no_stay, reach_more, reach_here, reach_end}
use Rattle.ariadne_edits.proofs.hints.reaching.Goals as goal
use Rattle.ariadne_edits.proofs.hints.reaching.Goals.{then-loop-passed-test+else-stays-passed, else-loop-passed-test}

-- a piece more is passed
pub loop-passed-preserved : goal.loop-passed-preserved
loop-passed-preserved c =
    let lt = c.loop-passed-test.true in
    (omega arith, sym (reach_more c.args.begin c.args.stays.now c.loop-passed.passed no_stay lt c.if-stays-passed.true) ∙ c.loop-passed.invariant.1)

-- the next one reaches up to the byte, or there is none
pub returns : goal.returns
returns c =
    take_rest c.args.stays.now c.loop-passed.passed
    ∙ sym (elim c.loop-passed-test.branch [
      | then-loop-passed-test+else-stays-passed w ↦
          reach_here c.args.begin c.args.stays.now c.loop-passed.passed no_stay w.loop-passed-test.true w.if-stays-passed.false
      | else-loop-passed-test w ↦ reach_end c.args.begin c.args.stays.now c.loop-passed.passed w.loop-passed-test.false
    ])
    ∙ c.loop-passed.invariant.1
