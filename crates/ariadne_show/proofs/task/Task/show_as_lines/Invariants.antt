use Rattle.std.specs.Prelude.{Some}
use Rattle.ariadne_show.specs.ReadFiles.{HaveSources}
use Rattle.ariadne_show.specs.RunOutput.{at_of, AreLinesShown}
use Rattle.ariadne_show.proofs.task.Task.show_as_lines.Given as goal

-- the lines that were read have been shown, and the files that were read have their sources
abbrev pub invariant-lines : goal.invariant-lines
invariant-lines g l = record {
  shown : AreLinesShown l.self.options.now (Some l.bytes) (Some l.input)
      (at_of l.initial.run l.initial.streams)
      (at_of l.run l.streams);
  sources : HaveSources l.run.known.finder.shelf;
}
