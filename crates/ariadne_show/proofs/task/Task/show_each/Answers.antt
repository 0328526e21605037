use Rattle.ariadne_show.specs.RunOutput.{none_shown, one_shown_more}
use Rattle.ariadne_show.proofs.task.Task.show_each.Goals as goal

-- none at first
pub loop-parsed-init : goal.loop-parsed-init
loop-parsed-init g c = record { shown = none_shown; sources = c.requires }

-- one more in each turn
pub loop-parsed-preserved : goal.loop-parsed-preserved
loop-parsed-preserved g c = record {
  shown = one_shown_more c.loop-parsed.invariant.shown c.in-Some.parsed c.in_ok-show_whole.ensures.shown;
  sources = c.in_ok-show_whole.ensures.sources;
}
