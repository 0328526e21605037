use Rattle.std.proofs.Common.{◌∙◌, ap, refl}
use Rattle.ariadne_show.specs.RunOutput.{none_given, one_given_more}
use Rattle.ariadne_show.specs.declared.known.Known.{Known}
use Rattle.ariadne_show.proofs.task.Task.give_front.Goals as goal

-- none at first
pub loop-waiting-init : goal.loop-waiting-init
loop-waiting-init g c = record { given = none_given; known = refl; sources = c.requires }

-- one more in each turn
pub loop-waiting-preserved : goal.loop-waiting-preserved
loop-waiting-preserved g c = record {
  given = one_given_more c.loop-waiting.invariant.given c.in-Some.waiting c.in_ok-give_line.ensures.gone;
  known = c.in_ok-give_line.ensures.known
      ∙ ap (λ (k : Known). record k { finder = c.give_line.new.run.known.finder }) c.loop-waiting.invariant.known;
  sources = c.in_ok-give_line.ensures.sources;
}
