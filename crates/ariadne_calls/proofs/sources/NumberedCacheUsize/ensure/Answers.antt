-- A source is held under each number below their count, and none under another.
use Rattle.std.proofs.Common.{refl, arith}
use Rattle.ariadne_calls.proofs.Numbers.{is_held, is_not_held}
use Rattle.ariadne_calls.proofs.sources.NumberedCacheUsize.ensure.Goals as goal

pub returns-then-id-len-clause-step : goal.returns-then-id-len-clause-step
returns-then-id-len-clause-step c =
    (is_held c.args.self.now.items.items c.args.id.now (omega (arith, c.if-id-len.true, c.len.ensures)), (λ q h. refl), (λ q h. refl), λ h q. refl)

pub returns-else-id-len-clause-step : goal.returns-else-id-len-clause-step
returns-else-id-len-clause-step c =
    (is_not_held c.args.self.now.items.items c.args.id.now (omega (arith, c.if-id-len.false, c.len.ensures)), (λ q. refl), tt)
