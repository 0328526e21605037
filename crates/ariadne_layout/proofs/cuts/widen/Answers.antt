use Rattle.std.proofs.Common.{arith}
use Rattle.ariadne_layout.proofs.JoinedParts.{widened-alike, widened-none, widened-step}
use Rattle.ariadne_layout.proofs.cuts.widen.Goals as goal

-- none at first
pub loop-part-init : goal.loop-part-init
loop-part-init c = (λ some. absurd (omega (arith, some)), λ t text held size. widened-none t text c.args.count c.args.needed.now c.clear.new.self.items c.clear.ensures.items)

-- a turn widens one part more
pub loop-part-preserved : goal.loop-part-preserved
loop-part-preserved c = (
  λ some. c.in_ok-push_joined.ensures.some,
  λ t text held size.
      widened-step t text c.args.count c.loop-part.part-index _ c.args.needed.now c.loop-part.list.items c.push_joined.new.list.items c.in_ok-wide.wide
      c.requires.order c.requires.places (omega arith) (c.loop-part.invariant.1 t text held size) (c.in_ok-wide.ensures t text held size)
      c.in_ok-push_joined.ensures.apart c.in_ok-push_joined.ensures.alike c.in_ok-push_joined.ensures.order,
)

-- the last turn has widened all
pub returns-clause-apart : goal.returns-clause-apart
returns-clause-apart c = λ t text held size. (c.loop-part.invariant.1 t text held size).apart

pub returns-clause-alike : goal.returns-clause-alike
returns-clause-alike c = λ t text held size.
    widened-alike t text c.args.count c.loop-part.part-index c.args.needed.now c.loop-part.list.items (omega arith) (c.loop-part.invariant.1 t text held size)

pub returns-clause-some : goal.returns-clause-some
returns-clause-some c = λ some. c.loop-part.invariant.0 (omega (arith, some))
