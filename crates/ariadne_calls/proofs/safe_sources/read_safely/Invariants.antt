-- The sources so far are read, and have no fault.
use Rattle.std.proofs.Common.{◌≡◌, take, drop}
use Rattle.ariadne_safe.specs.Sources.{sources_of}
use Rattle.ariadne_calls.specs.Faults.{faults_from, source_faults}
use Rattle.ariadne_calls.specs.CallSources.{shown_listing}
use Rattle.ariadne_calls.specs.Safe.{AreSafe}
use Rattle.ariadne_calls.proofs.safe_sources.read_safely.Given as goal

abbrev pub invariant-loop-number : goal.invariant-loop-number
invariant-loop-number l = record {
  are : AreSafe (take l.number l.given) (sources_of l.sources);
  same : faults_from (source_faults shown_listing) 0 l.given
      ≡ faults_from (source_faults shown_listing) l.number (drop l.number l.given);
}
