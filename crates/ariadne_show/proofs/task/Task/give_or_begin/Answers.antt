use Rattle.ariadne_show.specs.Writing.{out_of}
use Rattle.ariadne_show.proofs.Answered.{note_added_if, note_began_if}
use Rattle.ariadne_show.proofs.task.Task.give_or_begin.Goals as goal

-- the diagnostic in front has it
pub returns-in-Some-clause-shown : goal.returns-in-Some-clause-shown
returns-in-Some-clause-shown g c =
    note_added_if c.add_note.result c.args.self.now.options.now c.args.line c.args.note c.args.run.now.known
    c.take_block_of.new.self (out_of c.args.run.now.shown c.args.streams.now) _ c.in-Some.block c.in-Some.ensures
    c.add_note.ensures.added

-- it is a diagnostic of its own
pub returns-in-None-clause-shown : goal.returns-in-None-clause-shown
returns-in-None-clause-shown g c =
    note_began_if c.begin.result c.args.self.now.options.now c.args.line c.args.note c.args.run.now.known
    c.take_block_of.new.self (out_of c.args.run.now.shown c.args.streams.now) _ c.in-None.ensures c.begin.ensures.begun
