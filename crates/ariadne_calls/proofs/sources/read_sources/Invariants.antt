-- The sources so far are items, and have no fault.
use Rattle.std.proofs.Common.{◌≡◌, take, drop}
use Rattle.ariadne_calls.specs.Faults.{faults_from, source_faults}
use Rattle.ariadne_calls.specs.CallSources.{listing_of, AreNamed}
use Rattle.ariadne_calls.proofs.sources.read_sources.Given as goal

abbrev pub invariant-loop-number : goal.invariant-loop-number
invariant-loop-number l = record {
  are : AreNamed (take l.number l.given) l.items.items;
  same : faults_from (source_faults listing_of) 0 l.given ≡ faults_from (source_faults listing_of) l.number (drop l.number l.given);
}
