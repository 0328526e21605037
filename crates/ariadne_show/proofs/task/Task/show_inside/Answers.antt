use Rattle.std.proofs.Common.{◌∙◌}
use Rattle.ariadne_show.specs.RunOutput.{at_of}
use Rattle.ariadne_show.proofs.DocumentLines.{broken_if, ended_if, goes_on_here}
use Rattle.ariadne_show.proofs.task.Task.show_inside.Goals as goal

-- the document goes on
pub returns-in-GoesOn-clause-shown : goal.returns-in-GoesOn-clause-shown
returns-in-GoesOn-clause-shown g c =
    goes_on_here c.args.self.now.options.now c.args.document c.args.line.now _ c.in_ok-step.step
    (at_of c.args.run.now c.args.streams.now) c.in_ok-step.ensures.step c.in-GoesOn.is c.in_ok-step.ensures.ok

-- it has ended
pub returns-in-Ended-clause-shown : goal.returns-in-Ended-clause-shown
returns-in-Ended-clause-shown g c =
    ended_if c.show_document.result c.args.self.now.options.now c.args.document c.args.line.now c.take.new.self c.args.held.now
    c.in_ok-step.step (at_of c.args.run.now c.args.streams.now) _ c.in_ok-step.ensures.step c.in-Ended.is c.in_ok-step.ensures.ok
    c.requires.none c.show_document.ensures.shown

-- it is none
pub returns-in_ok-show_as_lines-in-Broken-clause-shown : goal.returns-in_ok-show_as_lines-in-Broken-clause-shown
returns-in_ok-show_as_lines-in-Broken-clause-shown g c =
    broken_if c.show_outside.result c.args.self.now.options.now c.args.document c.args.line.now c.bytes.result.now
    c.in_ok-step.step (at_of c.args.run.now c.args.streams.now)
    (at_of c.show_as_lines.new.run c.show_as_lines.new.streams) _ c.in_ok-step.ensures.step c.in-Broken.is
    (c.bytes.ensures ∙ c.in_ok-step.ensures.broken c.in-Broken.is) c.in_ok-show_as_lines-in-Broken.ensures.shown
    c.show_outside.ensures.shown
