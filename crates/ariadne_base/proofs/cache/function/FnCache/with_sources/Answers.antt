use Rattle.std.proofs.Common.{rules, sym, refl, Ok, map-id}
use Rattle.std.specs.declared.alloc.AllocError.{AllocError}
use Rattle.std.proofs.lemmas.Iterator.Adapters.{fact_from_extend}
use Rattle.std.proofs.lemmas.Iterator.Consumers.{YieldsList-from_rest}
use Rattle.std.proofs.lemmas.Map.Made.{update_all_distinct}
use Rattle.ariadne_base.specs.Cache.{held}
use Rattle.ariadne_base.proofs.Lookups.{lookup-append}
use Rattle.ariadne_base.proofs.cache.function.FnCache.with_sources.Goals as goal

-- the given pairs have distinct ids, so each is found before what was held, which the growth left as it was
pub returns-clause-replaced : goal.returns-clause-replaced
returns-clause-replaced g c =
    let eq = g.Id.PartialEq.eq in
    fact_from_extend {E = AllocError} (λ p. p) (Ok tt) c.in_ok-extend.ensures.ran (λ it b. YieldsList-from_rest c.args.given.entries (search rules))
    (λ xs e h q. rw (h.0 q) rw (← map-id xs) rw e
    rw (update_all_distinct g.met.Id.Eq.laws eq (λ x y. refl) (held eq c.reserve.new.self.entries) c.args.given.entries q c.len.ensures.unique)
    rw (c.reserve.ensures.entries.2 q) rw (← c.self.view_is)
    (sym (lookup-append (eq q) c.args.given.entries c.self.inside.sources.entries)))
