use Rattle.std.proofs.Common.{◌∙◌, sym}
use Rattle.ariadne_show.specs.RunOutput.{at_of}
use Rattle.ariadne_show.proofs.DocumentLines.{begun_here, outside_if}
use Rattle.ariadne_show.proofs.task.Task.show_outside.Goals as goal

-- it begins a document
pub returns-then-begins_document-clause-shown : goal.returns-then-begins_document-clause-shown
returns-then-begins_document-clause-shown g c =
    begun_here c.args.self.now.options.now c.args.line.now _ (at_of c.args.run.now c.args.streams.now)
    (sym c.begins_document.ensures ∙ c.if-begins_document.true) c.in_ok-of_line.ensures

-- it was shown
pub returns-clause-shown : goal.returns-clause-shown
returns-clause-shown g c =
    outside_if c.show_line.result c.args.self.now.options.now c.args.line.now c.args.held.now (at_of c.args.run.now c.args.streams.now)
    _ (sym c.begins_document.ensures ∙ c.if-begins_document.false) c.requires.none c.show_line.ensures.shown
