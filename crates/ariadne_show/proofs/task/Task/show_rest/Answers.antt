use Rattle.std.proofs.lemmas.Result.{on_ok_weaker}
use Rattle.ariadne_show.specs.RunOutput.{at_of}
use Rattle.ariadne_show.proofs.task.Task.show_rest.Goals as goal

-- the document that goes on, and what is held behind it
pub returns : goal.returns
returns g c = on_ok_weaker c.finish.result (λ held. record {
  document_shown = at_of c.show_held.new.run c.show_held.new.streams;
  document = c.in_ok-show_held.ensures.shown;
  held = held;
}) c.finish.ensures.finished
