-- the cache can be asked again after each write
use Rattle.ariadne_bench.proofs.pictures.draw.Given as goal

abbrev pub invariant-loop : goal.invariant-loop
invariant-loop g l = g.C.Cache.can_fetch l.cache
