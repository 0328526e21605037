use Rattle.std.proofs.Common.{subst, Option, ℕ}
use Rattle.ariadne_blocks.specs.Blocks.{IsNoted}
use Rattle.ariadne_show.proofs.task.Task.give_note.Goals as goal

-- it has the spans of the lines that waited, and then the note
pub returns-clause-given : goal.returns-clause-given
returns-clause-given g c = record {
  block = c.give_front.new.block;
  front = c.in_ok-give_front.ensures.given;
  note_taken = subst (λ (caret : Option ℕ). IsNoted c.args.note caret c.give_front.new.block c.add_note.new.self)
      c.caret_of-caret.ensures c.in_ok-add_note.ensures;
}
