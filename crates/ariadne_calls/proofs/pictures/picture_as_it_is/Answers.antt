-- What is read are the given sources.
use Rattle.std.proofs.Common.{◌∙◌, ap, map}
use Rattle.std.specs.Prelude.{length}
use Rattle.ariadne_calls.specs.CallBuffers.{told_of}
use Rattle.ariadne_calls.proofs.Firsts.{none_in_labels}
use Rattle.ariadne_calls.proofs.Showing.{shown}
use Rattle.ariadne_calls.proofs.pictures.picture_as_it_is.Goals as goal

pub returns-in-Ok-clause-ok : goal.returns-in-Ok-clause-ok
returns-in-Ok-clause-ok c = record {
  list = c.in-Ok.left_out.items;
  told_is = c.in_ok-told_all-in-Ok.ensures ∙ ap (map told_of) c.as_slice.ensures.value;
  shown = shown _ _ _ _ _ _ _ _ c.in_ok-cache.ensures.ok c.in_ok-asked.ensures.ok c.new-bytes.ensures.items
      (none_in_labels (length c.args.sources.now) c.args.report.now c.in_ok-asked.ensures.sound)
      c.write.ensures.naming c.write.ensures.grows c.in-Ok.ensures.written;
}
