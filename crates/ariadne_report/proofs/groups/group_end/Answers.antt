-- The group goes on up to the next cut.
use Rattle.std.proofs.Common.{arith}
use Rattle.ariadne_report.proofs.Grouping.{goes_on, ends_at_cut, ends_last, one_uncut}
use Rattle.ariadne_report.proofs.groups.group_end.Goals as goal

-- one label has no cut
pub loop-end-init : goal.loop-end-init
loop-end-init g c = record {
  after = omega arith;
  within = omega arith;
  uncut = λ names contents. one_uncut _ c.args.infos.now c.args.start c.requires.start;
}

-- the next one is not cut off
pub loop-end-preserved : goal.loop-end-preserved
loop-end-preserved g c = record {
  after = omega arith;
  within = omega arith;
  uncut = λ names contents.
      goes_on _ c.args.infos.now c.args.start c.loop-end.end _ c.loop-end.invariant.after (c.loop-end.invariant.uncut names contents) c.is_cut.result
      c.loop-end-test.true (c.is_cut.ensures names contents) c.if-not-is_cut.true;
}

-- a cut stands behind
pub returns-else-not-is_cut-clause-groups : goal.returns-else-not-is_cut-clause-groups
returns-else-not-is_cut-clause-groups g c = λ names contents.
    ends_at_cut _ c.args.infos.now c.args.start c.loop-end.end _ c.loop-end.invariant.after (c.loop-end.invariant.uncut names contents) c.is_cut.result
    c.loop-end-test.true (c.is_cut.ensures names contents) c.if-not-is_cut.false

-- nothing stands behind
pub returns-after-loop-end-clause-groups : goal.returns-after-loop-end-clause-groups
returns-after-loop-end-clause-groups g c = λ names contents.
    ends_last _ c.args.infos.now c.args.start c.loop-end.end c.loop-end.invariant.after c.loop-end.invariant.within c.loop-end-test.false
    (c.loop-end.invariant.uncut names contents)
