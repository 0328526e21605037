use Rattle.ariadne_show.specs.RunOutput.{at_of}
use Rattle.ariadne_show.specs.Writing.{out_of}
use Rattle.ariadne_show.proofs.Ended.{line_passed_if}
use Rattle.ariadne_show.proofs.task.Task.pass_line.Goals as goal

-- it passed behind what was held
pub returns-clause-passed : goal.returns-clause-passed
returns-clause-passed g c =
    line_passed_if c.pass.result c.args.self.now.options.now c.args.line.now
    (at_of c.args.run.now c.args.streams.now)
    c.finish.new.run.known c.pass.new.run.known
    (out_of c.finish.new.run.shown c.finish.new.streams)
    (out_of c.pass.new.run.shown c.pass.new.streams)
    c.in_ok-finish.ensures.finished c.pass.ensures.known c.pass.ensures.passed
