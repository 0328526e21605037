use Rattle.std.proofs.Common.{sym, refl, string_bytes}
use Rattle.std.specs.Str.{bytes_eq}
use Rattle.std.specs.String.{string_eq}
use Rattle.ariadne_base.specs.Files.{by_path}
use Rattle.ariadne_base.proofs.Lookups.{Fetched-through}
use Rattle.ariadne_base.proofs.Paths.{held-by_path}
use Rattle.ariadne_base.proofs.cache.file.FileCacheCacheString.ensure.Goals as goal

-- a path finds what its bytes find
pub returns-clause-step : goal.returns-clause-step
returns-clause-step g c =
    let old = c.args.self.now in
    let new = c.load.new.self in
    Fetched-through string_eq bytes_eq string_bytes old new (by_path old) (by_path new)
    c.args.id.now c.load.result (λ p q. refl)
    (λ q. sym (held-by_path old (string_bytes q)))
    (λ q. sym (held-by_path new (string_bytes q)))
    (rw c.as_str.ensures.value at c.load.ensures)
