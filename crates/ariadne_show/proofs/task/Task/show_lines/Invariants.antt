use Rattle.ariadne_show.specs.ReadFiles.{HaveSources}
use Rattle.ariadne_show.specs.RunOutput.{at_of, holding_of, AreNextShown}
use Rattle.ariadne_show.proofs.task.Task.show_lines.Given as goal

-- the lines that were read have been shown or are held, and the files that were read have their sources
abbrev pub invariant-lines : goal.invariant-lines
invariant-lines g l = record {
  shown : AreNextShown l.self.options.now (g.I.Read.remaining l.initial.input) (g.I.Read.remaining l.input)
      (holding_of l.initial.held (at_of l.initial.run l.initial.streams))
      (holding_of l.held (at_of l.run l.streams));
  sources : HaveSources l.run.known.finder.shelf;
}
