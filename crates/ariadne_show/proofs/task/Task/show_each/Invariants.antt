use Rattle.ariadne_show.specs.ReadFiles.{HaveSources}
use Rattle.ariadne_show.specs.RunOutput.{at_of, AreShown}
use Rattle.ariadne_show.proofs.task.Task.show_each.Given as goal

-- the diagnostics so far have been shown, and the files that were read have their sources
abbrev pub invariant-loop-parsed : goal.invariant-loop-parsed
invariant-loop-parsed g l = record {
  shown : AreShown l.self.options.now l.yielded
      (at_of l.initial.run l.initial.streams)
      (at_of l.run l.streams);
  sources : HaveSources l.run.known.finder.shelf;
}
