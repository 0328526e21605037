-- The helps so far are in the report, and have no fault.
use Rattle.std.proofs.Common.{◌≡◌, ◌++◌, map, take, drop}
use Rattle.ariadne_calls.specs.Faults.{faults_from, help_faults}
use Rattle.ariadne_calls.proofs.reports.add_helps.Given as goal

abbrev pub invariant-loop-number : goal.invariant-loop-number
invariant-loop-number l = record {
  report : l.builder ≡ record l.fn.builder { helps = l.fn.builder.helps ++ map (λ t. t.bytes.now) (take l.number l.given) };
  same : faults_from help_faults 0 l.given ≡ faults_from help_faults l.number (drop l.number l.given);
}
