use Rattle.ariadne_show.specs.RunOutput.{at_of}
use Rattle.ariadne_show.proofs.DocumentLines.{next_inside_if, next_outside_if}
use Rattle.ariadne_show.proofs.task.Task.show_next.Goals as goal

-- behind the lines of a document
pub returns-in-Some-clause-shown : goal.returns-in-Some-clause-shown
returns-in-Some-clause-shown g c =
    next_inside_if c.show_inside.result c.args.self.now.options.now c.args.line.now c.in-Some.document c.args.held.now
    (at_of c.args.run.now c.args.streams.now) _ c.in-Some.ensures.value c.show_inside.ensures.shown

-- behind none
pub returns-in-None-clause-shown : goal.returns-in-None-clause-shown
returns-in-None-clause-shown g c =
    next_outside_if c.show_outside.result c.args.self.now.options.now c.args.line.now c.args.held.now
    (at_of c.args.run.now c.args.streams.now) _ c.in-None.ensures.value c.show_outside.ensures.shown
