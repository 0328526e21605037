use Rattle.std.specs.Prelude.{◌≡◌, ◌++◌, map}
use Rattle.ariadne.proofs.builder.ReportBuilder.with_notes.Given as goal

-- the notes so far stand behind those that the report had
abbrev pub invariant-loop-text : goal.invariant-loop-text
invariant-loop-text g l = record {
  can : (goal.iterator-loop-text g).can_next l.text-iterator;
  ends : (goal.iterator-loop-text g).is_finite l.text-iterator;
  added : l.self ≡ record l.initial.self { notes = l.initial.self.notes ++ map (λ text. text.now) l.yielded };
}
