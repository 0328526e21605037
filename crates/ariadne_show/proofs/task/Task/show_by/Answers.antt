use Rattle.std.proofs.lemmas.Result.{IfOk-weaker}
use Rattle.ariadne_show.proofs.task.Task.show_by.Goals as goal

-- what stands in front, and all behind it
pub returns : goal.returns
returns g c = IfOk-weaker c.show_to_end.result _ _ (λ sum shown. record {
  started = c.show_start.new.streams;
  start = c.in_ok-show_start.ensures.output;
  beside = c.in_ok-show_start.ensures.beside;
  shown = shown;
}) c.show_to_end.ensures
