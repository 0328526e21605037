-- One source more is read, or its first fault is the first.
use Rattle.ariadne_calls.specs.Faults.{source_faults}
use Rattle.ariadne_calls.specs.CallSources.{shown_listing}
use Rattle.ariadne_calls.proofs.Firsts.{handed_on, met, passed}
use Rattle.ariadne_calls.proofs.SafeSources.{more_safe}
use Rattle.ariadne_calls.proofs.safe_sources.read_safely.Goals as goal

pub returns-in_err-safe_source-clause-err : goal.returns-in_err-safe_source-clause-err
returns-in_err-safe_source-clause-err c =
    handed_on _ c.from_residual.result _ c.from_residual.ensures.1
    (met (source_faults shown_listing) c.args.given.now c.loop-number.number _ _ c.loop-number-test.true c.in_err-safe_source.ensures.err
    c.loop-number.invariant.same)

pub loop-number-preserved : goal.loop-number-preserved
loop-number-preserved c = record {
  are = rw c.in_ok-add.ensures.ok
      (more_safe _ _ _ _ _ c.loop-number-test.true c.loop-number.invariant.are c.in_ok-safe_source.ensures.ok);
  same = passed (source_faults shown_listing) c.args.given.now c.loop-number.number _ c.loop-number-test.true
      c.in_ok-safe_source.ensures.sound c.loop-number.invariant.same;
}
