use Rattle.std.proofs.Common.{◌≡◌}
use Rattle.ariadne_show.specs.ReadFiles.{HaveSources}
use Rattle.ariadne_show.specs.RunOutput.{at_of, giving, AreGiven}
use Rattle.ariadne_show.proofs.task.Task.give_front.Given as goal

-- the lines so far have gone to the diagnostic, or passed
abbrev pub invariant-loop-waiting : goal.invariant-loop-waiting
invariant-loop-waiting g l = record {
  given : AreGiven l.self.options.now l.yielded
      (giving
      (at_of l.initial.run l.initial.streams)
      l.initial.block)
      (giving (at_of l.run l.streams) l.block);
  known : l.run.known ≡ record l.initial.run.known { finder = l.run.known.finder };
  sources : HaveSources l.run.known.finder.shelf;
}
