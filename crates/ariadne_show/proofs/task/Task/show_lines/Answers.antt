use Rattle.std.proofs.Common.{List, ℕ, subst}
use Rattle.ariadne_show.specs.RunOutput.{at_of, holding_of, no_next, one_next_more, IsNextShown}
use Rattle.ariadne_show.proofs.task.Task.show_lines.Goals as goal

-- none at first
pub lines-init : goal.lines-init
lines-init g c = record { shown = no_next; sources = c.requires }

-- one more in each turn
pub lines-preserved : goal.lines-preserved
lines-preserved g c = record {
  shown = one_next_more c.lines.invariant.shown c.read_line.new.line.items c.in-Ok-true.ensures.line
      (subst (λ (bytes : List ℕ). IsNextShown c.args.self.now.options.now bytes
      (holding_of c.lines.held (at_of c.lines.run c.lines.streams))
      (holding_of c.show_next.new.held (at_of c.show_next.new.run c.show_next.new.streams)))
      c.as_slice.ensures.value c.in_ok-show_next-in-Ok-true.ensures.shown);
  sources = c.in_ok-show_next-in-Ok-true.ensures.sources;
}
