use Rattle.ariadne_show.specs.Writing.{out_of}
use Rattle.ariadne_show.proofs.Answered.{note_passed_if, note_shown_if}
use Rattle.ariadne_show.proofs.task.Task.show_note.Goals as goal

-- its file is held
pub returns-in-Some-clause-shown : goal.returns-in-Some-clause-shown
returns-in-Some-clause-shown g c =
    note_shown_if c.give_or_begin.result c.args.self.now.options.now c.args.line c.args.note c.in-Some.note c.args.run.now.known
    c.opened.new.self (out_of c.args.run.now.shown c.args.streams.now) _ (rw c.in-Some.is at c.in_ok-note.ensures.opened) c.give_or_begin.ensures.shown

-- its line passed
pub returns-in-None-clause-shown : goal.returns-in-None-clause-shown
returns-in-None-clause-shown g c =
    note_passed_if c.pass_line.result c.args.self.now.options.now c.args.line c.args.note c.args.run.now.known
    c.opened.new.self (out_of c.args.run.now.shown c.args.streams.now) _ (rw c.in-None.is at c.in_ok-note.ensures.opened) c.pass_line.ensures.passed
