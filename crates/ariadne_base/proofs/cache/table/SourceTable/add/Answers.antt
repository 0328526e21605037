use Rattle.std.proofs.Common.{refl, ap, length, arith}
use Rattle.ariadne_base.proofs.cache.table.SourceTable.add.Goals as goal

-- the source is put behind those before it, under its name
pub returns-clause-ok : goal.returns-clause-ok
returns-clause-ok g c =
    rw (c.in_ok-push.ensures.items, c.self.view_is, c.in_ok-name.ensures.ok, c.in_ok-source.ensures) refl

-- its number is how many there were
pub returns-clause-number : goal.returns-clause-number
returns-clause-number g c = omega (arith, c.self.inside.sources.ok.0, c.len-number.ensures, ap length c.self.view_is)
