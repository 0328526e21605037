use Rattle.std.proofs.Common.{sym}
use Rattle.ariadne_show.specs.RunOutput.{at_of}
use Rattle.ariadne_show.proofs.DocumentLines.{held_if}
use Rattle.ariadne_show.proofs.task.Task.show_held.Goals as goal

-- its lines were shown
pub returns-in-Some-clause-shown : goal.returns-in-Some-clause-shown
returns-in-Some-clause-shown g c =
    held_if c.show_as_lines.result c.args.self.now.options.now _ c.bytes.result.now c.args.held.now
    (at_of c.args.run.now c.args.streams.now) _ (sym c.in-Some.is) c.bytes.ensures c.show_as_lines.ensures.shown
