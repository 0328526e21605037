use Rattle.std.proofs.Common.{refl}
use Rattle.ariadne_show.specs.RunOutput.{at_of}
use Rattle.ariadne_show.specs.Writing.{out_of}
use Rattle.ariadne_show.proofs.Answered.{other_passed_if, tally_if}
use Rattle.ariadne_show.proofs.task.Task.show_other.Goals as goal

-- it is a tool's own sum
pub returns-then-is_tally-clause-shown : goal.returns-then-is_tally-clause-shown
returns-then-is_tally-clause-shown g c =
    tally_if c.finish.result c.args.self.now.options.now c.args.line _ _ c.is_tally.result c.is_tally.ensures c.if-is_tally.true
    c.finish.ensures.finished

-- it passed
pub returns-clause-shown : goal.returns-clause-shown
returns-clause-shown g c =
    other_passed_if c.pass.result c.args.self.now.options.now c.args.line _ (at_of c.finish-2.new.run c.finish-2.new.streams)
    (record {
      known = record c.finish-2.new.run.known { finder = record c.finish-2.new.run.known.finder { folders = c.follow.new.self } };
      out = out_of c.finish-2.new.run.shown c.finish-2.new.streams;
    })
    c.pass.new.run.known (out_of c.pass.new.run.shown c.pass.new.streams) c.is_tally.result c.is_tally.ensures c.if-is_tally.false
    c.in_ok-finish.ensures.finished (record { entered = c.in_ok-follow.ensures; others = refl }) c.pass.ensures.known
    c.pass.ensures.passed
