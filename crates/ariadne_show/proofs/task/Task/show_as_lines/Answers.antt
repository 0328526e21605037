use Rattle.std.proofs.Common.{List, ℕ, subst}
use Rattle.ariadne_show.specs.RunOutput.{at_of, no_line, one_line_more, IsLineShown}
use Rattle.ariadne_show.proofs.task.Task.show_as_lines.Goals as goal

-- none at first
pub lines-init : goal.lines-init
lines-init g c = record { shown = no_line; sources = c.requires }

-- one more in each turn
pub lines-preserved : goal.lines-preserved
lines-preserved g c = record {
  shown = one_line_more c.lines.invariant.shown c.read_line.new.line.items c.in_ok-read_line.ensures.line
      (subst (λ (bytes : List ℕ). IsLineShown c.args.self.now.options.now bytes
      (at_of c.lines.run c.lines.streams)
      (at_of c.show_line.new.run c.show_line.new.streams)) c.as_slice.ensures.value c.in_ok-show_line.ensures.shown);
  sources = c.in_ok-show_line.ensures.sources;
}
