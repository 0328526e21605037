use Rattle.std.specs.Prelude.{reverse}
use Rattle.ariadne_base.specs.Cache.{SameHeld, listed}
use Rattle.ariadne_base.proofs.cache.map.sources.Given as goal

-- what is held so far are the sources of the pairs so far, the last of each id first
abbrev pub invariant-loop-id : goal.invariant-loop-id
invariant-loop-id g l = record {
  can : (goal.iterator-loop-id g).can_next l.id-iterator;
  ends : (goal.iterator-loop-id g).is_finite l.id-iterator;
  made : SameHeld g.Id.PartialEq.eq (reverse (listed g.I.SourceText.text l.yielded)) l.sources.entries;
}
