use Rattle.ariadne_show.specs.RunOutput.{at_of}
use Rattle.ariadne_show.specs.Writing.{out_of}
use Rattle.ariadne_show.proofs.Given.{note_held_if}
use Rattle.ariadne_show.proofs.task.Task.add_note.Goals as goal

-- it has the spans of the lines that waited, and the note, and is held
pub returns-clause-added : goal.returns-clause-added
returns-clause-added g c =
    note_held_if c.give_note-noted.result c.args.self.now.options.now c.args.block c.give_note-noted.new.block c.args.note
    (at_of c.args.run.now c.args.streams.now) c.give_note-noted.new.run.known c.hold.new.self
    (out_of c.give_note-noted.new.run.shown c.give_note-noted.new.streams) c.hold.ensures c.give_note-noted.ensures.given
