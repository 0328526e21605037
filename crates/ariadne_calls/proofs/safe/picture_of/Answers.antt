-- The picture hides nothing, since nothing is written in front of it.
use Rattle.std.proofs.Common.{◌∙◌, ap, map}
use Rattle.ariadne_calls.specs.CallBuffers.{told_of}
use Rattle.ariadne_calls.proofs.Safely.{all_hidden}
use Rattle.ariadne_calls.proofs.safe.picture_of.Goals as goal

pub returns-in_ok-told_all-in-Ok-clause-ok : goal.returns-in_ok-told_all-in-Ok-clause-ok
returns-in_ok-told_all-in-Ok-clause-ok c = record {
  list = c.in-Ok.left_out;
  told_is = c.in_ok-told_all-in-Ok.ensures ∙ ap (map told_of) c.as_slice.ensures.value;
  written = rw c.new-bytes.ensures.items at c.in-Ok.ensures.written;
  hides = all_hidden _ (rw c.new-bytes.ensures.items at c.in-Ok.ensures.hides);
}
