use Rattle.std.proofs.lemmas.Result.{IfOk-weaker}
use Rattle.ariadne_show.proofs.showing.show.Goals as goal

-- by a run that knew nothing
pub returns : goal.returns
returns g c = IfOk-weaker c.show_by-shown.result _ _ (λ sum shown. record {
  run = c.in_ok-run.run';
  is_new = c.in_ok-run.ensures.known;
  nothing = c.in_ok-run.ensures.shown;
  shown = shown;
}) c.show_by-shown.ensures
