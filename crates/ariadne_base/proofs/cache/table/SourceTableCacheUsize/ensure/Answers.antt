use Rattle.std.proofs.Common.{arith, refl, length, ◌<◌, ◌≤◌}
use Rattle.ariadne_base.proofs.Numbers.{IsSome-by_number, IsNone-by_number}
use Rattle.ariadne_base.proofs.cache.table.SourceTableCacheUsize.ensure.Goals as goal

-- a number that a source has changes nothing
pub returns-then-id-len-clause-step : goal.returns-then-id-len-clause-step
returns-then-id-len-clause-step g c =
    let sources = c.self.inside.sources in
    let inside : c.args.id.now < length sources.items = omega (arith, sources.ok.0, c.len.ensures, c.if-id-len.true) in (
      rw (← c.self.view_is) (IsSome-by_number sources.items c.args.id.now inside),
      (λ q there. refl),
      (λ q apart. refl),
      (λ there q. refl),
    )

-- of another one nothing is held
pub returns-clause-step : goal.returns-clause-step
returns-clause-step g c =
    let sources = c.self.inside.sources in
    let past : length sources.items ≤ c.args.id.now = omega (arith, sources.ok.0, c.len.ensures, c.if-id-len.false) in
    (rw (← c.self.view_is) (IsNone-by_number sources.items c.args.id.now past), (λ q. refl), refl)
