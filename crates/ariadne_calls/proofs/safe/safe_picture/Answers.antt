-- What are read are the given sources, and what is drawn is the report that stands for the given one.
use Rattle.std.proofs.lemmas.Result.{IfErr-weaker, IfOk-weaker}
use Rattle.ariadne_safe.specs.Sources.{sources_of}
use Rattle.ariadne_calls.proofs.safe.safe_picture.Goals as goal

pub returns-clause-ok : goal.returns-clause-ok
returns-clause-ok c = IfOk-weaker c.picture_over.result _ _ (λ p shown. record {
  safe = sources_of c.in_ok-safe.safe;
  are_safe = c.in_ok-safe.ensures.ok;
  shown = rw c.in_ok-asked.ensures.ok at shown;
}) c.picture_over.ensures.ok

pub returns-clause-err : goal.returns-clause-err
returns-clause-err c = IfErr-weaker c.picture_over.result _ _ (λ refusal is. rw is tt) c.picture_over.ensures.err
