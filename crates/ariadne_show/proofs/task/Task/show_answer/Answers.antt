use Rattle.ariadne_show.proofs.Answered.{dropped_if, formless_if, head_if, note_if, text_if, whole_if}
use Rattle.ariadne_show.proofs.task.Task.show_answer.Goals as goal

-- it is a line of text
pub returns-in-Nothing-clause-shown : goal.returns-in-Nothing-clause-shown
returns-in-Nothing-clause-shown g c =
    text_if c.show_text.result c.args.self.now.options.now c.args.line _ _ c.args.answer c.reads_text.result c.in-Nothing.is
    c.reads_text.ensures c.if-reads_text.true c.show_text.ensures.shown

-- it is of no form that is read
pub returns-in-Nothing-2-clause-shown : goal.returns-in-Nothing-2-clause-shown
returns-in-Nothing-2-clause-shown g c =
    formless_if c.pass_line.result c.args.self.now.options.now c.args.line _ _ c.args.answer c.reads_text.result c.in-Nothing-2.is
    c.reads_text.ensures c.if-reads_text.false c.pass_line.ensures.passed

-- it is a build tool's own
pub returns-in-Dropped-clause-shown : goal.returns-in-Dropped-clause-shown
returns-in-Dropped-clause-shown g c =
    dropped_if c.finish.result c.args.self.now.options.now c.args.line _ _ c.args.answer c.in-Dropped.is c.finish.ensures.finished

-- it tells diagnostics that are whole
pub returns-in-Diagnostics-clause-shown : goal.returns-in-Diagnostics-clause-shown
returns-in-Diagnostics-clause-shown g c =
    whole_if c.show_all.result c.args.self.now.options.now c.args.line _ _ c.args.answer c.in-Diagnostics.all c.in-Diagnostics.is
    c.show_all.ensures.shown

-- it is a head
pub returns-in-Head-clause-shown : goal.returns-in-Head-clause-shown
returns-in-Head-clause-shown g c =
    head_if c.show_head.result c.args.self.now.options.now c.args.line _ _ c.args.answer c.in-Head.parsed c.in-Head.is
    c.show_head.ensures.shown

-- it is a note
pub returns-in-Note-clause-shown : goal.returns-in-Note-clause-shown
returns-in-Note-clause-shown g c =
    note_if c.show_note.result c.args.self.now.options.now c.args.line _ _ c.args.answer c.in-Note.note c.in-Note.is
    c.show_note.ensures.shown
