use Rattle.ariadne_show.specs.RunOutput.{at_of, holding_of}
use Rattle.ariadne_show.proofs.Ended.{on_ok_and}
use Rattle.ariadne_show.proofs.task.Task.show_input.Goals as goal

-- the lines, and what is held behind the last one
pub returns : goal.returns
returns g c = on_ok_and c.show_rest.result _ c.and.ensures (λ rest. record {
  lines_shown = holding_of c.show_lines.new.held (at_of c.show_lines.new.run c.show_lines.new.streams);
  lines = c.in_ok-ending.ensures.shown;
  rest = rest;
}) c.show_rest.ensures
