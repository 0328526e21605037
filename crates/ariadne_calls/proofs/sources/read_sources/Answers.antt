-- One source more is read, or its first fault is the first.
use Rattle.ariadne_calls.specs.CallSources.{listing_of}
use Rattle.ariadne_calls.specs.Faults.{source_faults}
use Rattle.ariadne_calls.proofs.Firsts.{handed_on, met, passed}
use Rattle.ariadne_calls.proofs.Numbers.{more_named}
use Rattle.ariadne_calls.proofs.sources.read_sources.Goals as goal

pub returns-in_err-read_source-clause-err : goal.returns-in_err-read_source-clause-err
returns-in_err-read_source-clause-err c =
    handed_on _ c.from_residual.result _ c.from_residual.ensures.1
    (met (source_faults listing_of) c.args.given.now c.loop-number.number _ _ c.loop-number-test.true c.in_err-read_source.ensures.err
    c.loop-number.invariant.same)

pub loop-number-preserved : goal.loop-number-preserved
loop-number-preserved c = record {
  are = rw c.in_ok-push.ensures.items
      (more_named _ _ _ _ _ c.loop-number-test.true c.loop-number.invariant.are c.in_ok-read_source.ensures.ok);
  same = passed (source_faults listing_of) c.args.given.now c.loop-number.number _ c.loop-number-test.true c.in_ok-read_source.ensures.sound
      c.loop-number.invariant.same;
}
