-- The source at a number is the one that is held under it.
use Rattle.std.proofs.Common.{sym}
use Rattle.ariadne_calls.proofs.Numbers.{found_at, is_not_held}
use Rattle.ariadne_calls.proofs.sources.NumberedCacheUsize.get.Goals as goal

pub returns-in-Some : goal.returns-in-Some
returns-in-Some c =
    let place = c.in-Some.ensures.lookup.3 in
    found_at c.args.self.now.items.items c.args.id.now c.in-Some.named.now (rw c.deref.ensures.value at place.0)
    (rw c.deref.ensures.value at (place.1 c.in-Some.named.now))

pub returns-in-None : goal.returns-in-None
returns-in-None c = sym (is_not_held c.args.self.now.items.items c.args.id.now (rw c.deref.ensures.value at c.in-None.ensures.lookup.3))
