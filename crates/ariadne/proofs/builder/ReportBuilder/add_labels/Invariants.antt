use Rattle.std.specs.Prelude.{◌≡◌, ◌++◌}
use Rattle.ariadne.proofs.builder.ReportBuilder.add_labels.Given as goal

-- the labels so far stand behind those that the report had
abbrev pub invariant-loop-added : goal.invariant-loop-added
invariant-loop-added g l = record {
  can : (goal.iterator-loop-added g).can_next l.added-iterator;
  ends : (goal.iterator-loop-added g).is_finite l.added-iterator;
  added : l.self ≡ record l.initial.self { labels = l.initial.self.labels ++ l.yielded };
}
