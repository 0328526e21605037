use Rattle.std.proofs.Common.{ap}
use Rattle.ariadne_documents.specs.Answers.{is_whole}
use Rattle.ariadne_show.specs.RunOutput.{at_of}
use Rattle.ariadne_show.proofs.DocumentLines.{diagnostics_if, dropped_if, none_if}
use Rattle.ariadne_show.proofs.task.Task.show_document.Goals as goal

-- its diagnostics were shown
pub returns-in-Diagnostics-clause-shown : goal.returns-in-Diagnostics-clause-shown
returns-in-Diagnostics-clause-shown g c =
    diagnostics_if c.show_all.result c.args.self.now.options.now c.args.document.now (at_of c.args.run.now c.args.streams.now) _
    c.document_answer.new.sent c.in_ok-answer.answer c.in-Diagnostics.all c.in_ok-answer.ensures c.in-Diagnostics.is
    c.show_all.ensures.shown

-- it is dropped
pub returns-in-Dropped-clause-shown : goal.returns-in-Dropped-clause-shown
returns-in-Dropped-clause-shown g c =
    dropped_if c.finish.result c.args.self.now.options.now c.args.document.now (at_of c.args.run.now c.args.streams.now) _
    c.document_answer.new.sent c.in_ok-answer.answer c.in_ok-answer.ensures c.in-Dropped.is c.finish.ensures.finished

-- it tells nothing
pub returns-in-Nothing-clause-shown : goal.returns-in-Nothing-clause-shown
returns-in-Nothing-clause-shown g c =
    none_if c.show_as_lines.result c.args.self.now.options.now c.args.document.now c.bytes.result.now
    (at_of c.args.run.now c.args.streams.now) _ c.document_answer.new.sent c.in_ok-answer.answer c.in_ok-answer.ensures
    (ap is_whole c.in-Nothing.is) c.bytes.ensures c.show_as_lines.ensures.shown

-- it tells nothing
pub returns-in-Head-clause-shown : goal.returns-in-Head-clause-shown
returns-in-Head-clause-shown g c =
    none_if c.show_as_lines-in-Head.result c.args.self.now.options.now c.args.document.now c.bytes-in-Head.result.now
    (at_of c.args.run.now c.args.streams.now) _ c.document_answer.new.sent c.in_ok-answer.answer c.in_ok-answer.ensures
    (ap is_whole c.in-Head.is) c.bytes-in-Head.ensures c.show_as_lines-in-Head.ensures.shown

-- it tells nothing
pub returns-in-Note-clause-shown : goal.returns-in-Note-clause-shown
returns-in-Note-clause-shown g c =
    none_if c.show_as_lines-in-Note.result c.args.self.now.options.now c.args.document.now c.bytes-in-Note.result.now
    (at_of c.args.run.now c.args.streams.now) _ c.document_answer.new.sent c.in_ok-answer.answer c.in_ok-answer.ensures
    (ap is_whole c.in-Note.is) c.bytes-in-Note.ensures c.show_as_lines-in-Note.ensures.shown
