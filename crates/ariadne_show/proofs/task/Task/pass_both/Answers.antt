use Rattle.ariadne_show.specs.RunOutput.{at_of}
use Rattle.ariadne_show.specs.Writing.{out_of}
use Rattle.ariadne_show.proofs.Answered.{both_passed_if}
use Rattle.ariadne_show.proofs.task.Task.pass_both.Goals as goal

-- those that waited, behind what was held, and the line behind them
pub returns-clause-passed : goal.returns-clause-passed
returns-clause-passed g c =
    both_passed_if c.pass.result c.args.self.now.options.now _ c.args.line.now (at_of c.args.run.now c.args.streams.now)
    c.finish.new.run.known c.pass_lines.new.run.known c.pass.new.run.known
    (out_of c.finish.new.run.shown c.finish.new.streams) (out_of c.pass_lines.new.run.shown c.pass_lines.new.streams) _
    c.in_ok-finish.ensures.finished c.pass_lines.ensures.known c.in_ok-pass_lines.ensures.passed c.pass.ensures.known
    c.pass.ensures.passed
