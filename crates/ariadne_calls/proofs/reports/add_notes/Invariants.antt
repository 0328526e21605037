-- The notes so far are in the report, and have no fault.
use Rattle.std.proofs.Common.{◌≡◌, ◌++◌, map, take, drop}
use Rattle.ariadne_calls.specs.Faults.{faults_from, note_faults}
use Rattle.ariadne_calls.proofs.reports.add_notes.Given as goal

abbrev pub invariant-loop-number : goal.invariant-loop-number
invariant-loop-number l = record {
  report : l.builder ≡ record l.fn.builder { notes = l.fn.builder.notes ++ map (λ t. t.bytes.now) (take l.number l.given) };
  same : faults_from note_faults 0 l.given ≡ faults_from note_faults l.number (drop l.number l.given);
}
