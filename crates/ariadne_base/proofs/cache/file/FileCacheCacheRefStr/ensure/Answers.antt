use Rattle.std.proofs.Common.{refl}
use Rattle.std.specs.Str.{bytes_eq}
use Rattle.ariadne_base.specs.Files.{by_path, by_text}
use Rattle.ariadne_base.proofs.Lookups.{Fetched-through}
use Rattle.ariadne_base.proofs.Paths.{held-by_text}
use Rattle.ariadne_base.proofs.cache.file.FileCacheCacheRefStr.ensure.Goals as goal

-- a lent text finds what its bytes find
pub returns-clause-step : goal.returns-clause-step
returns-clause-step g c =
    let old = c.args.self.now in
    let new = c.load.new.self in
    Fetched-through (λ p q. bytes_eq p.now q.now) bytes_eq (λ p. p.now)
    (by_text old) (by_text new) (by_path old) (by_path new) c.args.id.now c.load.result
    (λ p q. refl) (held-by_text old) (held-by_text new) c.load.ensures
